-- One task more: what holds of each task so far and of the new one holds of all, and the least common multiple of the
-- common period and the new gap is the common period of all.
use Rattle.std.proofs.Common.{◌≡◌, ℕ, ◌+◌, ◌<◌, ◌≤◌, List, [], ◌∷◌, ◌++◌, length, take, set, sym, refl, subst, arith, below_more}
use Prim.Native.Nat.{◌∣◌}
use native.Mathlib.Nat.{dvd_trans}
use Rattle.std.proofs.lemmas.List.{length-append, get_or_append_left, get_or_push, take_more_set}
use Rattle.table.specs.Common.{LeastMultiple}
use Rattle.table.specs.Tasks.{task_at, Whole, AllWhole, Bounded, Common}
use Rattle.table.specs.declared.task.Task.{Task}

all_push : (P : Task → Type 0) (ts : List Task) (t : Task) → ((row : ℕ) → row < length ts → P (task_at ts row)) → P t
    → (row : ℕ) → row < length (ts ++ (t ∷ [])) → P (task_at (ts ++ (t ∷ [])) row)
all_push P ts t all one row h =
    let size = length-append ts (t ∷ []) in
    below_more (λ k. P (task_at (ts ++ (t ∷ [])) k)) (length ts)
    (λ k low. subst P (sym (get_or_append_left ts (t ∷ []) (record { run = 0; due = 0; gap = 0 }) k low)) (all k low))
    (subst P (sym (get_or_push ts t (record { run = 0; due = 0; gap = 0 }) (length ts) refl)) one)
    row (omega arith)

all_front : (P : Task → Type 0) (ts : List Task) (t : Task) → ((row : ℕ) → row < length (ts ++ (t ∷ [])) → P (task_at (ts ++ (t ∷ [])) row))
    → (row : ℕ) → row < length ts → P (task_at ts row)
all_front P ts t all row h =
    let size = length-append ts (t ∷ []) in
    subst P (get_or_append_left ts (t ∷ []) (record { run = 0; due = 0; gap = 0 }) row h) (all row (omega arith))

all_last : (P : Task → Type 0) (ts : List Task) (t : Task) → ((row : ℕ) → row < length (ts ++ (t ∷ [])) → P (task_at (ts ++ (t ∷ [])) row)) → P t
all_last P ts t all =
    let size = length-append ts (t ∷ []) in
    subst P (get_or_push ts t (record { run = 0; due = 0; gap = 0 }) (length ts) refl) (all (length ts) (omega arith))

pub whole_push : (ts : List Task) (t : Task) → AllWhole ts → Whole t → AllWhole (ts ++ (t ∷ []))
whole_push ts t = all_push Whole ts t

pub bounded_push : (ts : List Task) (t : Task) → Bounded ts → t.gap ≤ 100000 → Bounded (ts ++ (t ∷ []))
bounded_push ts t = all_push (λ x. x.gap ≤ 100000) ts t

pub common_push : (ts : List Task) (t : Task) (h m : ℕ) → Common ts h → LeastMultiple h t.gap m → Common (ts ++ (t ∷ [])) m
common_push ts t h m all s = all_push (λ x. x.gap ∣ m) ts t (λ row l. dvd_trans (task_at ts row).gap (all row l) s.left) s.right

pub least_push : (ts : List Task) (t : Task) (h m : ℕ) → ((x : ℕ) → Common ts x → h ∣ x) → LeastMultiple h t.gap m
    → (x : ℕ) → Common (ts ++ (t ∷ [])) x → m ∣ x
least_push ts t h m least s x all = s.least x (least x (all_front (λ y. y.gap ∣ x) ts t all)) (all_last (λ y. y.gap ∣ x) ts t all)

-- what the array holds after the new task is stored
pub stored : (list : List Task) (count : ℕ) (t : Task) → count < length list → take (count + 1) (set list count t) ≡ take count list ++ (t ∷ [])
stored list count t h = take_more_set list count t h
