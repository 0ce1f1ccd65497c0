-- The slots of the plan's rows are the first of the array, and no other has a job: so they have the same open jobs, and the
-- same one comes first.
use Rattle.std.proofs.Common.{◌≡◌, ℕ, zero, suc, ◌<◌, ◌≤◌, ◌⊎◌, List, [], ◌∷◌, take, set, Some, None, sym, refl, ap, ◌∙◌, inl, inr, arith}
use Rattle.std.proofs.lemmas.List.{get_or-take, get_or_past, length-take}
use Rattle.std.proofs.lemmas.Bool.{cases_lt}
use Rattle.rules.specs.declared.slots.Job.{Job}
use Rattle.rules.specs.declared.slots.Slot.{Slot}
use Rattle.rules.specs.Views.{empty, slot_at, job_at}
use Rattle.rules.specs.Steps.{Idle, Busy, Chosen}
use Rattle.rules.proofs.Cells.{cases_job}

-- no row from n on has a job
abbrev pub Below : ℕ → List Slot → Type 0
Below n slots = (row : ℕ) (j : Job) → job_at slots row ≡ Some j → row < n

pub front_slot : (n : ℕ) (slots : List Slot) (row : ℕ) → row < n → slot_at (take n slots) row ≡ slot_at slots row
front_slot n slots row l = get_or-take n slots row empty l

pub front_job : (n : ℕ) (slots : List Slot) → Below n slots → (row : ℕ) → job_at (take n slots) row ≡ job_at slots row
front_job n slots b row = go (cases_lt row n) (cases_job (job_at slots row))
  where
    go : (row < n) ⊎ (n ≤ row) → (job_at slots row ≡ None) ⊎ ((j : Job) × (job_at slots row ≡ Some j)) → job_at (take n slots) row ≡ job_at slots row
    go (inl l) _ = ap (λ (s : Slot). s.job) (front_slot n slots row l)
    go (inr l) (inl e) = ap (λ (s : Slot). s.job) (get_or_past (take n slots) row empty (omega (arith, length-take n slots))) ∙ sym e
    go (inr l) (inr (j, e)) = absurd (omega (arith, b row j e))

pub front_set : (n : ℕ) (slots : List Slot) (row : ℕ) (s : Slot) → take n (set slots row s) ≡ set (take n slots) row s
front_set zero slots row s = refl
front_set (suc n) [] row s = refl
front_set (suc n) (x ∷ slots) zero s = refl
front_set (suc n) (x ∷ slots) (suc row) s = ap (λ xs. x ∷ xs) (front_set n slots row s)

pub front_idle : (n : ℕ) (slots : List Slot) → Below n slots → Idle slots → Idle (take n slots)
front_idle n slots b i row = front_job n slots b row ∙ i row

pub front_busy : (n : ℕ) (slots : List Slot) → Below n slots → Busy slots → Busy (take n slots)
front_busy n slots b (row, j, e) = (row, j, front_job n slots b row ∙ e)

pub front_chosen : (n : ℕ) (slots : List Slot) → Below n slots → (row : ℕ) (j : Job) → Chosen slots row j → Chosen (take n slots) row j
front_chosen n slots b row j c =
    record { job = front_job n slots b row ∙ c.job; first = λ other k e. c.first other k (sym (front_job n slots b other) ∙ e) }
