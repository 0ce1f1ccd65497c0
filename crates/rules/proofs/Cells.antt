-- A slot as a cell of the claims: its next release, its job's due tick, and the ticks that the job lacks; and what a write
-- to one slot changes.
use Rattle.std.proofs.Common.{◌≡◌, ℕ, ◌+◌, ◌-◌, ◌<◌, ◌≤◌, leb, ◌≢◌, ◌⊎◌, List, length, set, replicate, Some, None, Option, sym, refl, ap, ◌∙◌, subst, inl, inr, arith}
use Rattle.std.proofs.lemmas.List.{get_or-set_same, get_or-set_other, get_or_past, get_or-replicate, length-replicate}
use Rattle.std.proofs.lemmas.Bool.{cases_eq, cases_lt, cond-true, cond-false, le-leb, lt-leb}
use Rattle.table.specs.declared.task.Task.{Task}
use Rattle.table.specs.Tasks.{task_at}
use Rattle.rules.specs.declared.slots.Job.{Job}
use Rattle.rules.specs.declared.slots.Slot.{Slot}
use Rattle.rules.specs.Views.{empty, slot_at, job_at, opened, closed, fed}
use Rattle.rules.proofs.Claims.{Cell, begun, Alike}

abbrev pub next_of : Task → Option ℕ → ℕ
next_of r None = 0
next_of r (Some t) = t + r.gap

abbrev pub until_of : Option Job → ℕ
until_of None = 0
until_of (Some j) = j.due

abbrev pub left_of : Task → Option Job → ℕ
left_of r None = 0
left_of r (Some j) = r.run - j.given

abbrev pub cell_of : Task → Slot → Cell
cell_of r s = record { next = next_of r s.last; until = until_of s.job; left = left_of r s.job }

abbrev pub cells : List Task → List Slot → ℕ → Cell
cells tasks slots i = cell_of (task_at tasks i) (slot_at slots i)

pub some_none : {A : Type 0} {a : A} → ◌≡◌ {A = Option A} (Some a) None → ⊥
some_none e = let z : ◌≡◌ {A = ℕ} 0 1 = cc in omega arith

pub none_some : {A : Type 0} {a : A} → ◌≡◌ {A = Option A} None (Some a) → ⊥
none_some e = let z : ◌≡◌ {A = ℕ} 0 1 = cc in omega arith

pub some_same : {A : Type 0} {a b : A} → ◌≡◌ {A = Option A} (Some a) (Some b) → a ≡ b
some_same e = cc

pub cases_job : (o : Option Job) → (o ≡ None) ⊎ ((j : Job) × (o ≡ Some j))
cases_job None = inl refl
cases_job (Some j) = inr (j, refl)

pub within : (slots : List Slot) (row : ℕ) (j : Job) → job_at slots row ≡ Some j → row < length slots
within slots row j e = go (cases_lt row (length slots))
  where
    go : (row < length slots) ⊎ (length slots ≤ row) → row < length slots
    go (inl l) = l
    go (inr l) = absurd (none_some (sym (ap (λ (s : Slot). s.job) (get_or_past slots row empty l)) ∙ e))

pub slot_set : (slots : List Slot) (i : ℕ) (s : Slot) → i < length slots → slot_at (set slots i s) i ≡ s
slot_set slots i s l = get_or-set_same slots i s empty l

pub slot_other : (slots : List Slot) (i j : ℕ) (s : Slot) → j ≢ i → slot_at (set slots i s) j ≡ slot_at slots j
slot_other slots i j s ne = get_or-set_other slots i j s empty ne

-- what holds of the new slot and of the old ones holds of all
pub all_set : (P : ℕ → Slot → Type 0) (slots : List Slot) (i : ℕ) (s : Slot) → i < length slots → P i s
    → ((j : ℕ) → P j (slot_at slots j)) → (j : ℕ) → P j (slot_at (set slots i s) j)
all_set P slots i s l p h j = go (cases_eq j i)
  where
    go : (j ≡ i) ⊎ (j ≡ i → ⊥) → P j (slot_at (set slots i s) j)
    go (inl e) = subst (λ k. P k (slot_at (set slots i s) k)) (sym e) (subst (P i) (sym (slot_set slots i s l)) p)
    go (inr ne) = subst (P j) (sym (slot_other slots i j s ne)) (h j)

pub alike_set : (tasks : List Task) (slots : List Slot) (i : ℕ) (s : Slot) → Alike tasks i (cells tasks slots) (cells tasks (set slots i s))
alike_set tasks slots i s j l ne = ap (cell_of (task_at tasks j)) (slot_other slots i j s ne)

pub cell_set : (tasks : List Task) (slots : List Slot) (i : ℕ) (s : Slot) → i < length slots
    → cells tasks (set slots i s) i ≡ cell_of (task_at tasks i) s
cell_set tasks slots i s l = ap (cell_of (task_at tasks i)) (slot_set slots i s l)

-- a served slot: closed, or with one tick more
pub fed_cases : (run : ℕ) (s : Slot) (j : Job)
    → ((run ≤ j.given + 1) × (fed run s j ≡ closed s))
    ⊎ ((j.given + 1 < run) × (fed run s j ≡ record { last = s.last; job = Some (record { due = j.due; given = j.given + 1 }) }))
fed_cases run s j = go (cases_lt (j.given + 1) run)
  where
    more : Slot
    more = record { last = s.last; job = Some (record { due = j.due; given = j.given + 1 }) }

    go : (j.given + 1 < run) ⊎ (run ≤ j.given + 1) → ((run ≤ j.given + 1) × (fed run s j ≡ closed s)) ⊎ ((j.given + 1 < run) × (fed run s j ≡ more))
    go (inl l) = inr (l, cond-false (leb run (j.given + 1)) (closed s) more (lt-leb run (j.given + 1) l))
    go (inr l) = inl (l, cond-true (leb run (j.given + 1)) (closed s) more (le-leb run (j.given + 1) l))

pub fed_last : (run : ℕ) (s : Slot) (j : Job) → (fed run s j).last ≡ s.last
fed_last run s j = ⊎-go (fed_cases run s j)
  where
    ⊎-go : ((run ≤ j.given + 1) × (fed run s j ≡ closed s))
        ⊎ ((j.given + 1 < run) × (fed run s j ≡ record { last = s.last; job = Some (record { due = j.due; given = j.given + 1 }) }))
        → (fed run s j).last ≡ s.last
    ⊎-go (inl (l, e)) = ap (λ (x : Slot). x.last) e
    ⊎-go (inr (l, e)) = ap (λ (x : Slot). x.last) e

-- the job of a served slot, if one is left
pub fed_job : (run : ℕ) (s : Slot) (j k : Job) → (fed run s j).job ≡ Some k
    → (k.due ≡ j.due) × (k.given ≡ j.given + 1) × (j.given + 1 < run)
fed_job run s j k e = go (fed_cases run s j)
  where
    go : ((run ≤ j.given + 1) × (fed run s j ≡ closed s))
        ⊎ ((j.given + 1 < run) × (fed run s j ≡ record { last = s.last; job = Some (record { due = j.due; given = j.given + 1 }) }))
        → (k.due ≡ j.due) × (k.given ≡ j.given + 1) × (j.given + 1 < run)
    go (inl (l, q)) = absurd (none_some (sym (ap (λ (x : Slot). x.job) q) ∙ e))
    go (inr (l, q)) =
        let same : record { due = j.due; given = j.given + 1 } ≡ k = some_same (sym (ap (λ (x : Slot). x.job) q) ∙ e) in
        (sym (ap (λ (x : Job). x.due) same), sym (ap (λ (x : Job). x.given) same), l)

pub slot_fresh : (n row : ℕ) → slot_at (replicate n empty) row ≡ empty
slot_fresh n row = go (cases_lt row n)
  where
    go : (row < n) ⊎ (n ≤ row) → slot_at (replicate n empty) row ≡ empty
    go (inl l) = get_or-replicate n row empty empty l
    go (inr l) = get_or_past (replicate n empty) row empty (omega (arith, length-replicate n empty))

pub cell_opened : (tasks : List Task) (slots : List Slot) (i now : ℕ) → i < length slots
    → cells tasks (set slots i (opened now (now + (task_at tasks i).due))) i ≡ begun (task_at tasks i) now
cell_opened tasks slots i now l =
    let z : (task_at tasks i).run - 0 ≡ (task_at tasks i).run = omega arith in
    cell_set tasks slots i (opened now (now + (task_at tasks i).due)) l
    ∙ ap (λ n. record { next = now + (task_at tasks i).gap; until = now + (task_at tasks i).due; left = n }) z
