-- The queue holds the turns of the open jobs. Since every sum over the turns is the sum over the slots, the number of turns is
-- that of the open jobs, and a turn is held just if its row has an open job with that due tick: sum the measure that is 1 at
-- that turn alone. A write to one slot changes such a sum by what the slot was and is worth.
use Rattle.std.proofs.Common.{◌≡◌, ℕ, zero, suc, ◌+◌, ◌<◌, ◌≤◌, false, cond, ◌&&◌, eqb, ◌⊎◌, List, [], ◌∷◌, length, get_or, take, set, replicate, Some, None, MatchBool, MatchOption, sum_by, Option, sym, refl, ap, ◌∙◌, subst, inl, inr, arith}
use Rattle.std.specs.List.Sorted.{IsPermutation}
use Rattle.std.specs.List.{ContainsAt}
use Rattle.std.specs.Option.{IsSomeAnd}
use Rattle.std.proofs.lemmas.List.{length-set, length-take-le}
use Rattle.std.proofs.lemmas.List.Sums.{sum_by-cons, get_or-le-sum_by}
use Rattle.std.proofs.lemmas.List.Sorted.{sum_by-IsPermutation}
use Rattle.std.proofs.ByRecursion.{all-has}
use Rattle.std.proofs.lemmas.Bool.{cases_eq, cases_lt, cond-false, eq-eqb, ne_eqb}
use Rattle.planner.specs.Demand.{sum_to}
use Rattle.queue.specs.Queue.{First, Queue, Vacant}
use Rattle.rules.specs.declared.slots.Job.{Job}
use Rattle.rules.specs.declared.slots.Slot.{Slot}
use Rattle.rules.specs.Views.{empty, job_at}
use Rattle.rules.specs.Steps.{Idle, Busy, Chosen}
use Rattle.planner.proofs.Sums.{sum_to_none}
use Rattle.rules.proofs.Sums.{sum_to_at, sum_to_change}
use Rattle.rules.proofs.Cells.{within, cases_job, slot_set, slot_other, slot_fresh}
use Rattle.board.specs.declared.turn.Turn.{Turn}
use Rattle.board.specs.Jobs.{Foremost}
use Rattle.board.specs.Turns.{sooner, turn_of, worth, Queued}

-- the sum over the open jobs
abbrev total : (Turn → ℕ) → List Slot → ℕ
total f slots = sum_to (length slots) (λ row. worth f row (job_at slots row))

-- a write to one slot
pub queued_write : (slots : List Slot) (old new : List Turn) (row : ℕ) (s : Slot) → row < length slots → Queued slots old
    → ((f : Turn → ℕ) → sum_by f new + worth f row (job_at slots row) ≡ sum_by f old + worth f row s.job)
    → Queued (set slots row s) new
queued_write slots old new row s l q h f =
    let n : length (set slots row s) ≡ length slots = length-set slots row s in
    let c : sum_to (length slots) (λ i. worth f i (job_at (set slots row s) i)) + worth f row (job_at slots row) ≡ total f slots + worth f row (job_at (set slots row s) row) =
    sum_to_change (length slots) (λ i. worth f i (job_at slots i)) (λ i. worth f i (job_at (set slots row s) i)) row l
    (λ i k ne. ap (λ (x : Slot). worth f i x.job) (slot_other slots row i s ne)) in
    let e : worth f row (job_at (set slots row s) row) ≡ worth f row s.job = ap (λ (x : Slot). worth f row x.job) (slot_set slots row s l) in
    let m : total f (set slots row s) ≡ sum_to (length slots) (λ i. worth f i (job_at (set slots row s) i)) =
    ap (λ k. sum_to k (λ i. worth f i (job_at (set slots row s) i))) n in
    omega (arith, q f, h f, c, e, m)

-- a turn enters, and one leaves
pub sum_enters : (f : Turn → ℕ) (x : Turn) (old new : List Turn) → IsPermutation (x ∷ old) new → sum_by f new ≡ sum_by f old + f x
sum_enters f x old new h = omega (arith, sum_by-IsPermutation f (x ∷ old) new h, sum_by-cons f x old)

pub sum_leaves : (f : Turn → ℕ) (x : Turn) (old new : List Turn) → IsPermutation old (x ∷ new) → sum_by f new + f x ≡ sum_by f old
sum_leaves f x old new h = omega (arith, sum_by-IsPermutation f old (x ∷ new) h, sum_by-cons f x new)

-- 1 at x alone
at : Turn → Turn → ℕ
at x y = cond (eqb x.due y.due && eqb x.row y.row) 1 0

at_self : (x : Turn) → at x x ≡ 1
unfolding at
at_self x = let p = eq-eqb x.due x.due refl in let q = eq-eqb x.row x.row refl in cc

at_some : (x y : Turn) → 0 < at x y → x ≡ y
unfolding at
at_some x y h = go (cases_eq x.due y.due) (cases_eq x.row y.row)
  where
    go : (x.due ≡ y.due) ⊎ (x.due ≡ y.due → ⊥) → (x.row ≡ y.row) ⊎ (x.row ≡ y.row → ⊥) → x ≡ y
    go (inl p) (inl q) = ap (λ d. record { due = d; row = x.row }) p ∙ ap (λ r. record { due = y.due; row = r }) q
    go (inl p) (inr q) =
        let a = eq-eqb x.due y.due p in
        let b = ne_eqb x.row y.row q in
        let z : (eqb x.due y.due && eqb x.row y.row) ≡ false = cc in
        absurd (omega (arith, h, cond-false {A = ℕ} (eqb x.due y.due && eqb x.row y.row) 1 0 z))
    go (inr p) _ =
        let a = ne_eqb x.due y.due p in
        let z : (eqb x.due y.due && eqb x.row y.row) ≡ false = cc in
        absurd (omega (arith, h, cond-false {A = ℕ} (eqb x.due y.due && eqb x.row y.row) 1 0 z))

-- a sum that is not 0 has a part that is not 0
sum_to_some : (n : ℕ) (f : ℕ → ℕ) → 0 < sum_to n f → (i : ℕ) × (i < n) × (0 < f i)
unfolding sum_to
sum_to_some zero f h = absurd (omega arith)
sum_to_some (suc n) f h = go (cases_lt 0 (f n)) (λ k. sum_to_some n f k)
  where
    go : (0 < f n) ⊎ (f n ≤ 0) → (0 < sum_to n f → (i : ℕ) × (i < n) × (0 < f i)) → (i : ℕ) × (i < suc n) × (0 < f i)
    go (inl k) _ = (n, omega arith, k)
    go (inr k) more = let r = more (omega arith) in (r.0, omega (arith, r.1), r.2)

sum_by_some : (f : Turn → ℕ) (xs : List Turn) → 0 < sum_by f xs → (x : Turn) × ContainsAt xs x × (0 < f x)
sum_by_some f [] h = absurd (omega arith)
sum_by_some f (x ∷ xs) h = go (cases_lt 0 (f x)) (λ k. sum_by_some f xs k)
  where
    go : (0 < f x) ⊎ (f x ≤ 0) → (0 < sum_by f xs → (y : Turn) × ContainsAt xs y × (0 < f y)) → (y : Turn) × ContainsAt (x ∷ xs) y × (0 < f y)
    go (inl k) _ = (x, (0, omega arith, λ d. refl), k)
    go (inr k) more =
        let r = more (omega (arith, sum_by-cons f x xs)) in
        (r.0, (suc r.1.0, omega (arith, r.1.1), λ d. r.1.2 d), r.2)

-- an open job's turn is held
pub open_held : (slots : List Slot) (turns : List Turn) (row : ℕ) (j : Job) → Queued slots turns → job_at slots row ≡ Some j → ContainsAt turns (turn_of row j)
open_held slots turns row j q e =
    let x : Turn = turn_of row j in
    let l : row < length slots = within slots row j e in
    let w : worth (at x) row (job_at slots row) ≡ 1 = ap (worth (at x) row) e ∙ at_self x in
    let s : worth (at x) row (job_at slots row) ≤ sum_to (length slots) (λ i. worth (at x) i (job_at slots i)) = sum_to_at (length slots) (λ i. worth (at x) i (job_at slots i)) row l in
    let r = sum_by_some (at x) turns (omega (arith, q (at x))) in
    subst (ContainsAt turns) (sym (at_some x r.0 r.2)) r.1

worth_some : (x : Turn) (row : ℕ) (o : Option Job) → 0 < worth (at x) row o → (j : Job) × (o ≡ Some j) × (x ≡ turn_of row j)
worth_some x row None h = absurd (omega arith)
worth_some x row (Some j) h = (j, refl, at_some x (turn_of row j) h)

-- a turn that is held is that of an open job
pub held_open : (slots : List Slot) (turns : List Turn) (x : Turn) → Queued slots turns → ContainsAt turns x
    → (x.row < length slots) × ((j : Job) × (job_at slots x.row ≡ Some j) × (j.due ≡ x.due))
held_open slots turns x q (k, l, is) =
    let one : at x (get_or turns k x) ≡ 1 = ap (at x) (is x) ∙ at_self x in
    let s = sum_to_some (length slots) (λ i. worth (at x) i (job_at slots i)) (omega (arith, one, q (at x), get_or-le-sum_by (at x) turns k x l)) in
    let w = worth_some x s.0 (job_at slots s.0) s.2 in
    let r : s.0 ≡ x.row = sym (ap (λ (y : Turn). y.row) w.2) in (
      subst (λ i. i < length slots) r s.1,
      (w.0, ap (job_at slots) (sym r) ∙ w.1, sym (ap (λ (y : Turn). y.due) w.2)),
    )

-- each turn counts one
count_one : (xs : List Turn) → sum_by (λ _. 1) xs ≡ length xs
count_one [] = refl
count_one (x ∷ xs) = omega (arith, sum_by-cons (λ _. 1) x xs, count_one xs)

sum_to_ones : (n : ℕ) (f : ℕ → ℕ) → ((i : ℕ) → f i ≤ 1) → sum_to n f ≤ n
unfolding sum_to
sum_to_ones zero f h = omega arith
sum_to_ones (suc n) f h = omega (arith, sum_to_ones n f h, h n)

worth_one : (row : ℕ) (o : Option Job) → worth (λ _. 1) row o ≤ 1
worth_one row None = omega arith
worth_one row (Some j) = omega arith

-- where a row has no open job, there is a place left
pub place_left : (slots : List Slot) (turns : List Turn) (row : ℕ) → Queued slots turns → row < length slots → job_at slots row ≡ None → length turns < length slots
place_left slots turns row q l e =
    let j : Job = record { due = 0; given = 0 } in
    let s : Slot = record { last = None; job = Some j } in
    let x : Turn = turn_of row j in
    let more : Queued (set slots row s) (x ∷ turns) =
    queued_write slots turns (x ∷ turns) row s l q (λ f. omega (arith, sum_by-cons f x turns, ap (worth f row) e)) in
    let n : length (set slots row s) ≡ length slots = length-set slots row s in
    omega (
      arith,
      more (λ _. 1),
      count_one (x ∷ turns),
      n,
      sum_to_ones (length (set slots row s)) (λ i. worth (λ _. 1) i (job_at (set slots row s) i)) (λ i. worth_one i (job_at (set slots row s) i)),
    )

-- no turn is held just if no job is open
pub none_idle : (slots : List Slot) (turns : List Turn) → Queued slots turns → length turns ≡ 0 → Idle slots
none_idle slots turns q z row = go (cases_job (job_at slots row))
  where
    go : (job_at slots row ≡ None) ⊎ ((j : Job) × (job_at slots row ≡ Some j)) → job_at slots row ≡ None
    go (inl e) = e
    go (inr (j, e)) = let h = open_held slots turns row j q e in absurd (omega (arith, h.1))

job_some : (row : ℕ) (o : Option Job) → 0 < worth (λ _. 1) row o → (j : Job) × (o ≡ Some j)
job_some row None h = absurd (omega arith)
job_some row (Some j) h = (j, refl)

some_busy : (slots : List Slot) (turns : List Turn) → Queued slots turns → 0 < length turns → Busy slots
some_busy slots turns q h =
    let s = sum_to_some (length slots) (λ i. worth (λ _. 1) i (job_at slots i)) (omega (arith, count_one turns, q (λ _. 1))) in
    let w = job_some s.0 (job_at slots s.0) s.2 in
    (s.0, w.0, w.1)

pub idle_or_busy : (slots : List Slot) (turns : List Turn) (n : ℕ) → Queued slots turns → length turns ≡ n → MatchBool (eqb n 0) (Idle slots) (Busy slots)
idle_or_busy slots turns n q e = go (cases_eq n 0)
  where
    go : (n ≡ 0) ⊎ (n ≡ 0 → ⊥) → MatchBool (eqb n 0) (Idle slots) (Busy slots)
    go (inl z) = subst (λ b. MatchBool b (Idle slots) (Busy slots)) (sym (eq-eqb n 0 z)) (none_idle slots turns q (e ∙ z))
    go (inr z) = subst (λ b. MatchBool b (Idle slots) (Busy slots)) (sym (ne_eqb n 0 z)) (some_busy slots turns q (omega arith))

-- of two turns of which the first is not sooner
not_sooner : (x y : Turn) → sooner y x ≡ false → (x.due < y.due) ⊎ ((x.due ≡ y.due) × (x.row ≤ y.row))
not_sooner x y h = search arith

-- the first turn is that of the job that is chosen
pub first_chosen : (slots : List Slot) (turns : List Turn) (n : ℕ) (x : Turn) → Queued slots (take n turns) → Queue sooner turns n → First sooner x turns n
    → (x.row < length slots) × ((j : Job) × Chosen slots x.row j)
first_chosen slots turns n x q ok first =
    let h = held_open slots (take n turns) x q first.held in
    let j : Job = h.1.0 in (
      h.0,
      (
        j,
        record {
          job = h.1.1;
          first = λ other k e.
              let y = open_held slots (take n turns) other k q e in
              let s = all-has (λ z. sooner z x ≡ false) (take n turns) (turn_of other k) (first.least ok) y in
              subst (λ d. (d < k.due) ⊎ ((d ≡ k.due) × (x.row ≤ other))) (sym h.1.2) (not_sooner x (turn_of other k) s);
        },
      ),
    )

-- the row of the first turn, if any is held, is that of the job that is chosen
pub foremost_row : (slots : List Slot) (turns : List Turn) (n : ℕ) (o : Option Turn) (r : Option ℕ) → Queued slots (take n turns) → Queue sooner turns n
    → MatchOption o (Vacant turns n) (λ x. First sooner x turns n) → MatchOption o (r ≡ None) (λ x. IsSomeAnd r (λ row. row ≡ x.row)) → Foremost slots r
foremost_row slots turns n None r q ok empty e =
    let none : length (take n turns) ≡ 0 = omega (arith, length-take-le n turns ok.0, ok.0, empty) in
    subst (Foremost slots) (sym e) (none_idle slots (take n turns) q none)
foremost_row slots turns n (Some x) None q ok first e = absurd e
foremost_row slots turns n (Some x) (Some row) q ok first e =
    subst (λ i. Foremost slots (Some i)) (sym e) (first_chosen slots turns n x q ok first)

pub queued_fresh : Queued (replicate 64 empty) []
queued_fresh f = sym (sum_to_none (length (replicate 64 empty)) (λ i. worth f i (job_at (replicate 64 empty) i)) (λ i l. ap (λ (s : Slot). worth f i s.job) (slot_fresh 64 i)))

-- a turn that enters with its job
pub queued_entered : (slots : List Slot) (old new : List Turn) (row : ℕ) (s : Slot) (j : Job) → row < length slots → job_at slots row ≡ None → s.job ≡ Some j
    → Queued slots old → IsPermutation (turn_of row j ∷ old) new → Queued (set slots row s) new
queued_entered slots old new row s j l e p q h =
    queued_write slots old new row s l q (λ f. omega (arith, sum_enters f (turn_of row j) old new h, ap (worth f row) e, ap (worth f row) p))

-- a turn that leaves with its job
pub queued_left : (slots : List Slot) (old new : List Turn) (row : ℕ) (s : Slot) (j : Job) → row < length slots → job_at slots row ≡ Some j → s.job ≡ None
    → Queued slots old → IsPermutation old (turn_of row j ∷ new) → Queued (set slots row s) new
queued_left slots old new row s j l e p q h =
    queued_write slots old new row s l q (λ f. omega (arith, sum_leaves f (turn_of row j) old new h, ap (worth f row) e, ap (worth f row) p))
