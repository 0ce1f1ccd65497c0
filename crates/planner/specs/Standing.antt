-- Where a walk over the demand points stands. Assumes nothing.
--   Readable   the limits of a table that was read
--   horizon    a tick past the longest window that a walk looks at: no common period is above 1000000
--   Waits      p is its row's first demand point from now on: the row's demand stays as it is from now until p, and
--              grows there by a run
--   Standing   the points hold each row once, each waits from now on, and total is what was asked for before now
--   Stands     the first slots, one for each row, are a queue of such points
use Rattle.std.specs.Prelude.{◌≡◌, ℕ, ◌+◌, ◌-◌, ◌<◌, ◌≤◌, List, length, take, sum_by}
use Rattle.std.specs.List.{AllByRecursion}
use Rattle.queue.specs.Queue.{Queue}
use Rattle.table.specs.declared.task.Task.{Task}
use Rattle.table.specs.Tasks.{task_at, AllWhole, Bounded}
use Rattle.planner.specs.declared.point.Point.{Point}
use Rattle.planner.specs.Points.{sooner}
use Rattle.planner.specs.Demand.{demand, sum_to}

pub record Readable (tasks : List Task) : Type 0 where
  pub some : 1 ≤ length tasks
  pub few : length tasks ≤ 64
  pub whole : AllWhole tasks
  pub bounded : Bounded tasks

abbrev pub horizon : ℕ
horizon = 1000001

pub record Waits (tasks : List Task) (now : ℕ) (p : Point) : Type 0 where
  pub inside : p.row < length tasks
  pub some : 1 ≤ p.time
  pub ahead : now ≤ p.time
  pub near : p.time ≤ now + (task_at tasks p.row).gap
  pub steady : (t : ℕ) → now ≤ t → t < p.time → demand (task_at tasks p.row) t ≡ demand (task_at tasks p.row) (p.time - 1)
  pub jump : demand (task_at tasks p.row) p.time ≡ demand (task_at tasks p.row) (p.time - 1) + (task_at tasks p.row).run

pub record Standing (tasks : List Task) (points : List Point) (now total : ℕ) : Type 0 where
  pub once : (f : ℕ → ℕ) → sum_by (λ p. f p.row) points ≡ sum_to (length tasks) f
  pub waits : AllByRecursion (Waits tasks now) points
  pub asked : total ≡ sum_by (λ p. demand (task_at tasks p.row) (p.time - 1)) points

pub record Stands (tasks : List Task) (slots : List Point) (now total : ℕ) : Type 0 where
  pub queue : Queue sooner slots (length tasks)
  pub standing : Standing tasks (take (length tasks) slots) now total
