-- What is seen of a board, and what stays fixed over its life. Assumes nothing.
--   slot_at, job_at   the slot of a row, and its open job
--   opened, closed    a slot after its row's release, and after its job closed
--   fed               a slot whose job was given one tick more
--   View              the clock, the counts, the mode, the slots, and what the alarm means
--   Rules             the tasks, their sleeps, and the alarm's reach and grain
--   fresh             the view of a new board
use Rattle.std.specs.Prelude.{ℕ, ◌+◌, cond, List, length, replicate, Some, None, Option, nat_le, slice_index_or}
use Rattle.table.specs.declared.task.Task.{Task}
use Rattle.table.specs.Tasks.{task_at}
use Rattle.planner.specs.Sleeps.{sleep_at}
use Rattle.rules.specs.declared.slots.Mode.{Mode}
use Rattle.rules.specs.declared.slots.Mode.TheVariants.{Asleep}
use Rattle.rules.specs.declared.slots.Job.{Job}
use Rattle.rules.specs.declared.slots.Slot.{Slot}

-- of a row that was never released
abbrev pub empty : Slot
empty = record { last = None; job = None }

abbrev pub slot_at : List Slot → ℕ → Slot
slot_at slots row = slice_index_or slots row empty

abbrev pub job_at : List Slot → ℕ → Option Job
job_at slots row = (slot_at slots row).job

-- released at the tick now, with a job that must be served by the tick due
abbrev pub opened : ℕ → ℕ → Slot
opened now due = record { last = Some now; job = Some (record { due = due; given = 0 }) }

abbrev pub closed : Slot → Slot
closed s = record { last = s.last; job = None }

-- one tick more for the job j; it closes when it has had its run
abbrev pub fed : ℕ → Slot → Job → Slot
fed run s j =
    cond (nat_le run (j.given + 1)) (closed s)
    (record { last = s.last; job = Some (record { due = j.due; given = j.given + 1 }) })

-- ran counts the ticks given to jobs, slept those spent asleep; the alarm is unset or has ticks left
pub record View : Type 0 where
  pub now : ℕ
  pub ran : ℕ
  pub slept : ℕ
  pub mode : Mode
  pub slots : List Slot
  pub alarm : Option ℕ

pub record Rules : Type 0 where
  pub tasks : List Task
  pub sleeps : List ℕ
  pub reach : ℕ
  pub grain : ℕ

abbrev pub count : Rules → ℕ
count R = length R.tasks

abbrev pub task_of : Rules → ℕ → Task
task_of R row = task_at R.tasks row

abbrev pub sleep_of : Rules → ℕ → ℕ
sleep_of R row = sleep_at R.sleeps row

-- asleep at tick 0 without jobs, over so many tasks, with the alarm unset
abbrev pub fresh : ℕ → View
fresh n = record { now = 0; ran = 0; slept = 0; mode = Asleep; slots = replicate n empty; alarm = None }
