-- The tasks of a table: their limits and their common period. Assumes nothing.
use Rattle.std.specs.Prelude.{ℕ, ◌<◌, ◌≤◌, List, length, slice_index_or}
use Rattle.std.specs.Int.{◌∣◌}
use Rattle.table.specs.Limits.{most_gap}
use Rattle.table.specs.declared.task.Task.{Task}

-- the task of a row, rows counting from 0
abbrev pub task_at : List Task → ℕ → Task
task_at tasks row = slice_index_or tasks row (record { run = 0; due = 0; gap = 0 })

-- a job takes a tick or more, and can be served before it is due, which is no later than the next release
abbrev pub Whole : Task → Type 0
Whole t = (1 ≤ t.run) × (t.run ≤ t.due) × (t.due ≤ t.gap)

abbrev pub AllWhole : List Task → Type 0
AllWhole tasks = (row : ℕ) → row < length tasks → Whole (task_at tasks row)

-- no gap is above its limit
abbrev pub Bounded : List Task → Type 0
Bounded tasks = (row : ℕ) → row < length tasks → (task_at tasks row).gap ≤ most_gap

-- h is a multiple of each gap
abbrev pub Common : List Task → ℕ → Type 0
Common tasks h = (row : ℕ) → row < length tasks → (task_at tasks row).gap ∣ h

-- h is the common period (hyperperiod): the least common multiple of the gaps
pub record LeastCommon (tasks : List Task) (h : ℕ) : Type 0 where
  pub some : 1 ≤ h
  pub common : Common tasks h
  pub least : (x : ℕ) → Common tasks x → h ∣ x
