-- What the rules take from a plan. Assumes nothing.
--   limit     the last tick of a board's clock
--   Planned   the tasks are whole, and each row's sleep is the smallest margin from its due upward
use Rattle.std.specs.Prelude.{◌≡◌, ℕ, ◌+◌, ◌<◌, ◌≤◌, List, length}
use Rattle.table.specs.declared.task.Task.{Task}
use Rattle.table.specs.Tasks.{task_at, AllWhole}
use Rattle.planner.specs.Demand.{need}
use Rattle.planner.specs.Sleeps.{sleep_at, Rested}

abbrev pub limit : ℕ
limit = 1000000000000

-- every window has room for the sleep, and one that ends before the clock does has room for no more
pub record Planned (tasks : List Task) (sleeps : List ℕ) : Type 0 where
  pub size : length sleeps ≡ length tasks
  pub whole : AllWhole tasks
  pub rested : Rested tasks sleeps
  pub met : (row : ℕ) → row < length tasks
      → (t : ℕ) × ((task_at tasks row).due ≤ t) × (t ≤ limit) × (sleep_at sleeps row + need tasks t ≡ t)
