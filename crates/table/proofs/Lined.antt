-- The check of one line, step by step: what the reader found of its form, its numbers and its name is what the
-- definition asks, so their answers are the same.
use Rattle.std.proofs.Common.{◌≡◌, ℕ, ◌+◌, ◌<◌, ◌≤◌, true, false, cond, List, [], ◌∷◌, get_or, drop, Ok, Err, sym, refl, ap, ◌∙◌, append-nil, arith, le-ltb, lt-ltb}
use Rattle.refusal.specs.declared.cases.Refusal.{Refusal}
use Rattle.refusal.specs.declared.cases.Refusal.TheVariants.{LineForm, NameTaken, CommonLimit}
use Rattle.table.specs.Common.{lcm}
use Rattle.table.specs.Form.{Piece}
use Rattle.table.specs.Lines.{row_line, task_from}
use Rattle.table.specs.Scan.{reaches, fitting, words_of}
use Rattle.table.specs.Steps.{Past, Stuck}
use Rattle.table.specs.Verdict.{Reading, at, taken, then_ask, limited, joined, with_row, name_in, task_in, lined}
use Rattle.table.specs.declared.task.Task.{Task}

-- a line that was read, by the definitions alone
pub record Found (ps : List Piece) (bs : List ℕ) (p : ℕ) (ws : List (List ℕ)) (rest : List ℕ) (q : ℕ) : Type 0 where
  pub fits : fitting ps bs ≡ true
  pub place : q ≡ p + reaches ps bs
  pub left : rest ≡ drop (reaches ps bs) bs
  pub words : words_of ps bs ≡ ws

pub past_found : (ps : List Piece) (bs : List ℕ) (p : ℕ) (ws : List (List ℕ)) (rest : List ℕ) (q : ℕ) → Past ps bs p ws rest q → Found ps bs p ws rest q
past_found ps bs p ws rest q a =
    let far = rw append-nil at (a.reach []) in
    let k : a.gone.0 ≡ reaches ps bs = omega (arith, a.gone.1.0, far) in
    record {
      fits = rw append-nil at (a.fit []);
      place = omega (arith, far);
      left = a.gone.1.1 ∙ ap (λ j. drop j bs) k;
      words = (rw append-nil at (a.words [])) ∙ append-nil ws;
    }

pub stuck_found : (ps : List Piece) (bs : List ℕ) (p q : ℕ) → Stuck ps bs p q → (fitting ps bs ≡ false) × (p + reaches ps bs ≡ q)
stuck_found ps bs p q s = (rw append-nil at (s.fit []), rw append-nil at (s.reach []))

pub lined_form : (line p : ℕ) (bs : List ℕ) (r : Reading) (q : ℕ) → fitting row_line bs ≡ false → p + reaches row_line bs ≡ q → lined line p bs r ≡ Err (LineForm (at line q))
unfolding lined
lined_form line p bs r q unfit far = rw unfit (ap (λ n. Err (LineForm (at line n))) far)

-- a line of the form, with this name and these numbers
module _ (line p : ℕ) (bs : List ℕ) (r : Reading) (name run due gap : List ℕ) (rest : List ℕ) (q : ℕ) (t : Task) (f : Found row_line bs p (name ∷ run ∷ due ∷ gap ∷ []) rest q) (is : t ≡ task_from run due gap) where
  task_here : task_in bs ≡ t
  task_here = ap (λ ws. task_from (get_or ws 1 []) (get_or ws 2 []) (get_or ws 3 [])) f.words ∙ sym is

  name_here : name_in bs ≡ name
  name_here = ap (λ ws. get_or ws 0 []) f.words

  asked : lined line p bs r ≡ then_ask (limited (at line p) t) (λ _. joined (at line p) r name t)
  unfolding lined
  asked =
      ap (λ v. cond v (then_ask (limited (at line p) (task_in bs)) (λ _. joined (at line p) r (name_in bs) (task_in bs))) (Err (LineForm (at line (p + reaches row_line bs))))) f.fits
      ∙ ap (λ x. then_ask (limited (at line p) x) (λ _. joined (at line p) r (name_in bs) x)) task_here
      ∙ ap (λ n. then_ask (limited (at line p) t) (λ _. joined (at line p) r n t)) name_here

  pub lined_limits : (e : Refusal) → limited (at line p) t ≡ Err e → lined line p bs r ≡ Err e
  lined_limits e h = asked ∙ ap (λ v. then_ask v (λ _. joined (at line p) r name t)) h

  within : limited (at line p) t ≡ Ok tt → lined line p bs r ≡ joined (at line p) r name t
  within h = asked ∙ ap (λ v. then_ask v (λ _. joined (at line p) r name t)) h

  pub lined_name : limited (at line p) t ≡ Ok tt → taken name r.names ≡ true → lined line p bs r ≡ Err (NameTaken (at line p))
  unfolding joined
  lined_name h e = within h ∙ (rw e refl)

  pub lined_common : limited (at line p) t ≡ Ok tt → taken name r.names ≡ false → 1000000 < lcm r.common t.gap → lined line p bs r ≡ Err (CommonLimit (at line p))
  unfolding joined
  lined_common h e big = let over = lt-ltb 1000000 (lcm r.common t.gap) big in within h ∙ (rw (e, over) refl)

  pub lined_yes : limited (at line p) t ≡ Ok tt → taken name r.names ≡ false → lcm r.common t.gap ≤ 1000000 → lined line p bs r ≡ Ok (with_row r name t)
  unfolding joined
  lined_yes h e small = let under = le-ltb 1000000 (lcm r.common t.gap) small in within h ∙ (rw (e, under) refl)
