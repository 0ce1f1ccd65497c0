-- A keyword is read by the word that stands there: up to where the keyword ends, the word and the text go on alike,
-- since every byte of the keyword could stand in a word. So what the word has in common with the keyword is what the
-- text has, and that is the place of the first byte that differs.
use Rattle.std.proofs.Common.{◌≡◌, ℕ, zero, suc, ◌+◌, ◌<◌, ◌≤◌, Bool, true, false, cond, eqb, List, [], ◌∷◌, length, take, drop, sym, refl, ap, ◌∙◌, true≢false, add-zero, arith, eq-eqb, ne_eqb, eqb-true}
use Rattle.std.proofs.ByRecursion.{All-weaker}
use Rattle.std.proofs.lemmas.Bool.Decides.{nat_tests}
use Rattle.std.specs.List.{AllByRecursion}
use Rattle.table.specs.Form.{mark}
use Rattle.table.specs.Lines.{letter, a_name, exactly}
use Rattle.table.specs.Scan.{span, word_size}
use Rattle.table.specs.Steps.{Past, Stuck, Title, shared}
use Rattle.table.proofs.Along.{past_join, stuck_first, stuck_then, past_mark, stuck_mark, word_first, word_not_first}

shared_right : (xs ys : List ℕ) → length ys ≡ 0 → shared xs ys ≡ 0
shared_right [] ys h = refl
shared_right (x ∷ xs) [] h = refl
shared_right (x ∷ xs) (y ∷ ys) h = absurd (omega arith)

-- a part that ends only where a byte of the keyword could not stand has as much in common with it
shared_span : (m : ℕ) (s : ℕ → Bool) (bs want : List ℕ) → AllByRecursion (λ c. s c ≡ true) want → length want ≤ m → shared (take (span m s bs) bs) want ≡ shared bs want
shared_span m s bs [] all few = shared_right (take (span m s bs) bs) [] refl ∙ sym (shared_right bs [] refl)
shared_span zero s bs (w ∷ want) all few = absurd (omega arith)
shared_span (suc m) s [] (w ∷ want) all few = refl
shared_span (suc m) s (b ∷ bs) (w ∷ want) all few =
    let more = shared_span m s bs want all.1 (omega arith) in
    let by : (v : Bool) → s b ≡ v → shared (take (cond v (suc (span m s bs)) 0) (b ∷ bs)) (w ∷ want) ≡ shared (b ∷ bs) (w ∷ want) = λ v. elim v as (λ v. s b ≡ v → shared (take (cond v (suc (span m s bs)) 0) (b ∷ bs)) (w ∷ want) ≡ shared (b ∷ bs) (w ∷ want)) [ true ↦ λ _. ap (λ n. cond (eqb b w) (suc n) 0) more | false ↦ λ no_more. let other : eqb b w ≡ false = ne_eqb b w (λ is. true≢false (sym all.0 ∙ ap s (sym is) ∙ no_more)) in rw other refl ] in
    by (s b) refl

-- the same of the word at the front
shared_word : (bs want : List ℕ) → Title want → 0 < word_size a_name bs → shared (take (word_size a_name bs) bs) want ≡ shared bs want
shared_word [] want t some = absurd (omega arith)
shared_word (b ∷ bs) [] t some = absurd t
shared_word (b ∷ bs) (w ∷ want) t some =
    let could = All-weaker (λ c. letter c ≡ true) (λ c. a_name.next c ≡ true) (λ c is. grind (arith, nat_tests)) want t.1 in
    let more = shared_span 11 a_name.next bs want could t.2 in
    let is = word_first a_name b bs some in
    rw is (ap (λ n. cond (eqb b w) (suc n) 0) more)

past_exactly : (want bs : List ℕ) (p : ℕ) → shared bs want ≡ length want → Past (exactly want) bs p [] (drop (length want) bs) (p + length want)
past_exactly [] bs p e = record { reach = λ more. omega arith; fit = λ more. refl; words = λ more. refl; room = omega arith; gone = (0, (refl, refl)) }
past_exactly (w ∷ want) [] p e = absurd (omega arith)
past_exactly (w ∷ want) (b ∷ bs) p e =
    let by : (v : Bool) → eqb b w ≡ v → cond v (suc (shared bs want)) 0 ≡ suc (length want) → (eqb b w ≡ true) × (shared bs want ≡ length want) = λ v. elim v as (λ v. eqb b w ≡ v → cond v (suc (shared bs want)) 0 ≡ suc (length want) → (eqb b w ≡ true) × (shared bs want ≡ length want)) [ true ↦ λ is n. (is, omega arith) | false ↦ λ _ n. absurd (omega arith) ] in
    let both = by (eqb b w) refl e in
    let first = past_mark w (b ∷ bs) p (omega arith) (eqb-true b w both.0) in
    let next = past_exactly want bs (p + 1) both.1 in
    let far : p + 1 + length want ≡ p + suc (length want) = omega arith in
    rw far at (past_join first next)

stuck_exactly : (want bs : List ℕ) (p : ℕ) → shared bs want < length want → Stuck (exactly want) bs p (p + shared bs want)
stuck_exactly [] bs p h = absurd (omega arith)
stuck_exactly (w ∷ want) [] p h = record { reach = λ more. refl; fit = λ more. refl }
stuck_exactly (w ∷ want) (b ∷ bs) p h =
    let by : (v : Bool) → eqb b w ≡ v → cond v (suc (shared bs want)) 0 < suc (length want) → Stuck (mark w ∷ exactly want) (b ∷ bs) p (p + cond v (suc (shared bs want)) 0) = λ v. elim v as (λ v. eqb b w ≡ v → cond v (suc (shared bs want)) 0 < suc (length want) → Stuck (mark w ∷ exactly want) (b ∷ bs) p (p + cond v (suc (shared bs want)) 0)) [
      | true ↦ λ is few.
          let first = past_mark w (b ∷ bs) p (omega arith) (eqb-true b w is) in
          let far : p + 1 + shared bs want ≡ p + suc (shared bs want) = omega arith in
          rw far at (stuck_then first (stuck_exactly want bs (p + 1) (omega arith)))
      | false ↦ λ is few. rw add-zero (stuck_first (exactly want) (stuck_mark w (b ∷ bs) p (λ _ same. true≢false (sym (eq-eqb b w same) ∙ is))))
    ] in
    by (eqb b w) refl h

-- the same of a cursor that moved over as many bytes as the word has in common with the keyword
pub shared_front : (bs want w : List ℕ) → Title want → 0 < word_size a_name bs → w ≡ take (word_size a_name bs) bs → shared w want ≡ shared bs want
shared_front bs want w t some is = ap (λ xs. shared xs want) is ∙ shared_word bs want t some

pub past_exactly_by : (want bs : List ℕ) (p n : ℕ) (rest : List ℕ) (q : ℕ) → n ≡ shared bs want → n ≡ length want → rest ≡ drop n bs → q ≡ p + n → Past (exactly want) bs p [] rest q
past_exactly_by want bs p n rest q is size left at =
    let end : q ≡ p + length want = at ∙ ap (λ m. p + m) size in
    let gone : rest ≡ drop (length want) bs = left ∙ ap (λ m. drop m bs) size in
    rw (end, gone) (past_exactly want bs p (sym is ∙ size))

pub stuck_exactly_by : (want bs : List ℕ) (p n at : ℕ) → n ≡ shared bs want → n < length want → at ≡ p → Stuck (exactly want) bs p (at + n)
stuck_exactly_by want bs p n at is few here =
    let far : at + n ≡ p + shared bs want = omega arith in
    rw far (stuck_exactly want bs p (omega arith))

-- where no word stands, nothing of a keyword does
pub no_keyword : (bs want : List ℕ) (p : ℕ) → Title want → word_size a_name bs ≡ 0 → Stuck (exactly want) bs p p
no_keyword bs [] p t none = absurd t
no_keyword [] (w ∷ want) p t none = record { reach = λ more. add-zero p; fit = λ more. refl }
no_keyword (b ∷ bs) (w ∷ want) p t none =
    let not_first = word_not_first a_name b bs none in
    stuck_first (exactly want) (stuck_mark w (b ∷ bs) p (λ _ is. true≢false (sym t.0 ∙ ap letter (sym is) ∙ not_first)))
