-- Parts of a line that are read one after the other are read together: what a part says holds whatever pieces come
-- after it, so two parts join, and a part that is stuck is stuck for the whole. Here are also the smallest parts: a
-- mark, and a word.
use Rattle.std.proofs.Common.{◌≡◌, ℕ, Result, MatchResult, zero, suc, ◌+◌, ◌<◌, ◌≤◌, Bool, true, false, cond, List, [], ◌∷◌, ◌++◌, length, get_or, take, drop, sym, refl, ap, ◌∙◌, append_assoc, add-zero, arith, length-drop, eq-eqb, ne_eqb}
use Rattle.std.proofs.lemmas.List.{drop-drop}
use Rattle.std.proofs.lemmas.Result.{err_from_is_err_and}
use Rattle.std.specs.Result.{IsErrAnd}
use Rattle.table.specs.Form.{Class, Piece, mark, word}
use Rattle.table.specs.Scan.{span, word_size}
use Rattle.table.specs.Steps.{Past, Stuck}

pub past_join : {ps qs : List Piece} {bs : List ℕ} {p : ℕ} {ws : List (List ℕ)} {rest : List ℕ} {q : ℕ} {vs : List (List ℕ)} {end : List ℕ} {r : ℕ}
    → Past ps bs p ws rest q → Past qs rest q vs end r → Past (ps ++ qs) bs p (ws ++ vs) end r
past_join {ps} {qs} {bs} {p} {ws} {rest} {q} {vs} {end} {r} a b =
    let j = a.gone.0 in
    let k = b.gone.0 in
    record {
      reach = λ more. rw append_assoc (a.reach (qs ++ more) ∙ b.reach more);
      fit = λ more. rw append_assoc (a.fit (qs ++ more) ∙ b.fit more);
      words = λ more. rw (append_assoc, append_assoc) (a.words (qs ++ more) ∙ ap (λ us. ws ++ us) (b.words more));
      room = b.room ∙ a.room;
      gone = (j + k, (omega (arith, a.gone.1.0, b.gone.1.0), b.gone.1.1 ∙ ap (drop k) a.gone.1.1 ∙ drop-drop k j bs));
    }

pub stuck_first : {ps : List Piece} (qs : List Piece) {bs : List ℕ} {p q : ℕ} → Stuck ps bs p q → Stuck (ps ++ qs) bs p q
stuck_first {ps} qs {bs} {p} {q} s = record { reach = λ more. rw append_assoc (s.reach (qs ++ more)); fit = λ more. rw append_assoc (s.fit (qs ++ more)) }

pub stuck_then : {ps qs : List Piece} {bs : List ℕ} {p : ℕ} {ws : List (List ℕ)} {rest : List ℕ} {q r : ℕ}
    → Past ps bs p ws rest q → Stuck qs rest q r → Stuck (ps ++ qs) bs p r
stuck_then {ps} {qs} {bs} {p} {ws} {rest} {q} {r} a s =
    record {
      reach = λ more. rw append_assoc (a.reach (qs ++ more) ∙ s.reach more);
      fit = λ more. rw append_assoc (a.fit (qs ++ more) ∙ s.fit more);
    }

-- the exit of a `?` hands on the place where its part was stuck
pub halted : {T : Type 0} (P : T → Type 0) {ps : List Piece} {bs : List ℕ} {p q : ℕ} (r : Result T ℕ) → IsErrAnd r (λ e. e ≡ q) → Stuck ps bs p q → MatchResult r P (λ e. Stuck ps bs p e)
halted P r exit s = let e = err_from_is_err_and r exit in rw (e.1, e.2) s

pub past_mark : (b : ℕ) (bs : List ℕ) (p : ℕ) → 0 < length bs → get_or bs 0 0 ≡ b → Past (mark b ∷ []) bs p [] (drop 1 bs) (p + 1)
past_mark b [] p some is = absurd (omega arith)
past_mark b (x ∷ bs) p some is =
    let same = eq-eqb b x (sym is) in
    record {
      reach = λ more. rw same (omega arith);
      fit = λ more. rw same refl;
      words = λ more. refl;
      room = omega arith;
      gone = (1, (refl, refl));
    }

pub stuck_mark : (b : ℕ) (bs : List ℕ) (p : ℕ) → (0 < length bs → get_or bs 0 0 ≡ b → ⊥) → Stuck (mark b ∷ []) bs p p
stuck_mark b [] p other = record { reach = λ more. add-zero p; fit = λ more. refl }
stuck_mark b (x ∷ bs) p other =
    let apart = ne_eqb b x (λ e. other (omega arith) (sym e)) in
    record { reach = λ more. rw apart (add-zero p); fit = λ more. rw apart refl }

pub span_within : (n : ℕ) (s : ℕ → Bool) (bs : List ℕ) → span n s bs ≤ length bs
span_within zero s bs = omega arith
span_within (suc n) s [] = omega arith
span_within (suc n) s (b ∷ bs) =
    elim (s b) as (λ v. cond v (suc (span n s bs)) 0 ≤ suc (length bs)) [ true ↦ omega (arith, span_within n s bs) | false ↦ omega arith ]

pub word_within : (k : Class) (bs : List ℕ) → word_size k bs ≤ length bs
word_within k [] = omega arith
word_within k (b ∷ bs) =
    elim (k.first b) as (λ v. cond v (suc (span k.most k.next bs)) 0 ≤ suc (length bs)) [ true ↦ omega (arith, span_within k.most k.next bs) | false ↦ omega arith ]

pub word_first : (k : Class) (b : ℕ) (bs : List ℕ) → 0 < word_size k (b ∷ bs) → k.first b ≡ true
word_first k b bs = elim (k.first b) as (λ v. 0 < cond v (suc (span k.most k.next bs)) 0 → v ≡ true) [ true ↦ λ _. refl | false ↦ λ h. absurd (omega arith) ]

pub word_not_first : (k : Class) (b : ℕ) (bs : List ℕ) → word_size k (b ∷ bs) ≡ 0 → k.first b ≡ false
word_not_first k b bs = elim (k.first b) as (λ v. cond v (suc (span k.most k.next bs)) 0 ≡ 0 → v ≡ false) [ true ↦ λ h. absurd (omega arith) | false ↦ λ _. refl ]

pub past_word : (k : Class) (bs : List ℕ) (p : ℕ) → 0 < word_size k bs
    → Past (word k ∷ []) bs p (take (word_size k bs) bs ∷ []) (drop (word_size k bs) bs) (p + word_size k bs)
past_word k [] p some = absurd (omega arith)
past_word k (b ∷ bs) p some =
    let is = word_first k b bs some in
    let n = word_size k (b ∷ bs) in
    let size : n ≡ suc (span k.most k.next bs) = rw is refl in
    let small = word_within k (b ∷ bs) in
    record {
      reach = λ more. rw is (omega arith);
      fit = λ more. rw is refl;
      words = λ more. refl;
      room = rw length-drop (omega arith);
      gone = (n, (refl, refl));
    }

-- the same of a cursor that moved over the word's own bytes
pub past_word_by : (k : Class) (bs : List ℕ) (p : ℕ) (w rest : List ℕ) (q : ℕ) → 0 < word_size k bs → w ≡ take (word_size k bs) bs → length w ≡ word_size k bs → rest ≡ drop (length w) bs → q ≡ p + length w
    → Past (word k ∷ []) bs p (w ∷ []) rest q
past_word_by k bs p w rest q some is size left at =
    let end : q ≡ p + word_size k bs = at ∙ ap (λ n. p + n) size in
    let gone : rest ≡ drop (word_size k bs) bs = left ∙ ap (λ n. drop n bs) size in
    rw (end, gone, is) (past_word k bs p some)
