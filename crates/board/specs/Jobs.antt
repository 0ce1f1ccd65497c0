-- What is asked of the slots. Assumes nothing.
--   Working    the row has an open job
--   Foremost   the row whose job comes first, if any is open
use Rattle.std.specs.Prelude.{◌≡◌, ℕ, ◌<◌, List, length, Some, None, Option}
use Rattle.rules.specs.declared.slots.Job.{Job}
use Rattle.rules.specs.declared.slots.Slot.{Slot}
use Rattle.rules.specs.Views.{job_at}
use Rattle.rules.specs.Steps.{Idle, Chosen}

abbrev pub Working : List Slot → ℕ → Type 0
Working slots row = (j : Job) × (job_at slots row ≡ Some j)

abbrev pub Foremost : List Slot → Option ℕ → Type 0
Foremost slots None = Idle slots
Foremost slots (Some row) = (row < length slots) × ((j : Job) × Chosen slots row j)
