-- What the log tells is what the board holds, so that the promises speak of all jobs, all sleeps and all wakings; and a
-- plan as they ask for exists. Assumes nothing.
use Rattle.std.specs.Prelude.{◌≡◌, ℕ, List, [], ◌∷◌, ◌++◌, Some, None}
use Rattle.table.specs.declared.task.Task.{Task}
use Rattle.table.specs.Tasks.{AllWhole}
use Rattle.rules.specs.declared.slots.Mode.TheVariants.{Asleep, Awake}
use Rattle.rules.specs.declared.slots.Job.{Job}
use Rattle.rules.specs.Views.{job_at, View, Rules, count, fresh}
use Rattle.planner.specs.Plans.{Shortest}
use Rattle.rules.specs.Plans.{Planned}
use Rattle.rules.specs.Steps.{Entry, Idle, Busy, Step, Runs}
use Rattle.rules.specs.Logs.{is_waking, Open, Emptied, Begins}

-- the view is reached from a new board, with whole tasks and whatever sleeps
pub record Reached (R : Rules) (log : List Entry) (v : View) : Type 0 where
  pub whole : AllWhole R.tasks
  pub run : Runs R (fresh (count R)) log v

-- a row is open by the log just if it has a job in the view
abbrev pub OpenExact : Type 0
OpenExact = (R : Rules) (log : List Entry) (v : View) → Reached R log v → (row : ℕ)
    → (Open R.tasks row log → (j : Job) × (job_at v.slots row ≡ Some j))
    × ((j : Job) → job_at v.slots row ≡ Some j → Open R.tasks row log)

-- where a sleep begins by the log, the board is asleep, with the alarm unset and no job
abbrev pub BeginsAsleep : Type 0
BeginsAsleep = (R : Rules) (log : List Entry) (v : View) → Reached R log v → Begins R.tasks log
    → (v.mode ≡ Asleep) × (v.alarm ≡ None) × Idle v.slots

-- whenever a step leaves no job open, a sleep begins by the log
abbrev pub AsleepBegins : Type 0
AsleepBegins = (R : Rules) (log : List Entry) (v : View) → Reached R log v → (e : Entry) (w : View) → Step R v e w
    → Busy v.slots → Idle w.slots → Emptied R.tasks (log ++ (e ∷ []))

-- a sleeping board wakes by just the waking entries
abbrev pub WakesExact : Type 0
WakesExact = (R : Rules) (log : List Entry) (v : View) → Reached R log v → (e : Entry) (w : View) → Step R v e w → v.mode ≡ Asleep
    → (w.mode ≡ Awake → is_waking e ≡ 1) × (is_waking e ≡ 1 → w.mode ≡ Awake)

-- a board that is awake has a job to serve
abbrev pub AwakeBusy : Type 0
AwakeBusy = (R : Rules) (log : List Entry) (v : View) → Reached R log v → v.mode ≡ Awake → Busy v.slots

abbrev pub pair : List Task
pair = record { run = 1; due = 3; gap = 4 } ∷ record { run = 2; due = 5; gap = 6 } ∷ []

-- two tasks with their sleeps are planned as the promises ask, and have a shortest sleep
abbrev pub SomePlan : Type 0
SomePlan = Planned pair (2 ∷ 2 ∷ []) × Shortest (2 ∷ 2 ∷ []) 2
