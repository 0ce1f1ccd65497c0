-- The sleeps of all rows of a table, as a list. Assumes nothing.
--   sleep_at   the sleep of a row, rows counting from 0
--   MetNear    some window has room for the sleep and no more: one of the first common period h from the due on
--   Rested     every window from a row's due upward has room for the row's sleep
--   Tight      and some window near the due has room for no more
--   Lowered    the rows whose due is at most `from` have their sleeps lowered to `least`, and the others keep theirs
-- Rested and Tight together say that each row has its sleep (IsSleep); they stand apart so that a plan's type can hold
-- them, where Tight says only that such a window is there.
use Rattle.std.specs.Prelude.{◌≡◌, ℕ, ◌+◌, ◌<◌, ◌≤◌, min, List, length, slice_index}
use Rattle.table.specs.declared.task.Task.{Task}
use Rattle.table.specs.Tasks.{task_at}
use Rattle.planner.specs.Demand.{need}

abbrev pub sleep_at : List ℕ → ℕ → ℕ
sleep_at sleeps row = slice_index sleeps row

abbrev pub MetNear : List Task → ℕ → ℕ → ℕ → Type 0
MetNear tasks h row sleep =
    (t : ℕ) × ((task_at tasks row).due ≤ t) × (t < (task_at tasks row).due + h) × (sleep + need tasks t ≡ t)

abbrev pub Rested : List Task → List ℕ → Type 0
Rested tasks sleeps = (row t : ℕ) → row < length tasks → (task_at tasks row).due ≤ t → sleep_at sleeps row + need tasks t ≤ t

abbrev pub Tight : List Task → ℕ → List ℕ → Type 0
Tight tasks h sleeps = (row : ℕ) → row < length tasks → ∥ MetNear tasks h row (sleep_at sleeps row) ∥₁

abbrev pub Lowered : List Task → ℕ → ℕ → List ℕ → List ℕ → Type 0
Lowered tasks from least before after = (row : ℕ) → row < length tasks
    → ((task_at tasks row).due ≤ from → sleep_at after row ≡ min (sleep_at before row) least)
    × (from < (task_at tasks row).due → sleep_at after row ≡ sleep_at before row)
