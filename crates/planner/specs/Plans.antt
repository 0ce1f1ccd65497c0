-- A plan, by what can be read from it. Assumes nothing.
--   planned     its tasks, in the order of their rows
--   sleeps_of   their sleeps, row by row
--   period_of   their common period, 1 where there are none
--   load_of     what they ask for in it
--   Empty       the plan of no tasks
--   AllSleeps   each row has its sleep
--   Shortest    the smallest number of a list
use Rattle.std.specs.Prelude.{◌≡◌, ℕ, ◌<◌, ◌≤◌, List, [], length, take}
use Rattle.table.specs.Drafts.{drafted, common_so_far}
use Rattle.table.specs.declared.task.Task.{Task}
use Rattle.planner.specs.declared.plan.Plan.{Plan}
use Rattle.planner.specs.Demand.{IsSleep}
use Rattle.planner.specs.Sleeps.{sleep_at}

abbrev pub planned : Plan → List Task
planned plan = drafted plan.rows

abbrev pub sleeps_of : Plan → List ℕ
sleeps_of plan = take (length (planned plan)) plan.sleeps

abbrev pub period_of : Plan → ℕ
period_of plan = common_so_far plan.rows

abbrev pub load_of : Plan → ℕ
load_of plan = plan.load

pub record Empty (plan : Plan) : Type 0 where
  pub tasks : planned plan ≡ []
  pub sleeps : sleeps_of plan ≡ []
  pub period : period_of plan ≡ 1
  pub load : load_of plan ≡ 0

pub record AllSleeps (tasks : List Task) (sleeps : List ℕ) : Type 0 where
  pub size : length sleeps ≡ length tasks
  pub each : (row : ℕ) → row < length tasks → IsSleep tasks row (sleep_at sleeps row)

pub record Shortest (sleeps : List ℕ) (s : ℕ) : Type 0 where
  pub below : (row : ℕ) → row < length sleeps → s ≤ sleep_at sleeps row
  pub met : (row : ℕ) × (row < length sleeps) × (s ≡ sleep_at sleeps row)
