-- The turns of open jobs. Assumes nothing.
--   sooner   the order of turns: by due tick, and by row at one tick
--   Queued   some turns are those of the jobs that are open in the slots, each once
use Rattle.std.specs.Prelude.{◌≡◌, ℕ, Bool, List, length, Some, None, sum_by, Option}
use Rattle.std.specs.Ordering.{nat_cmp, on, then_cmp}
use Rattle.queue.specs.Order.{before}
use Rattle.planner.specs.Demand.{sum_to}
use Rattle.rules.specs.declared.slots.Job.{Job}
use Rattle.rules.specs.declared.slots.Slot.{Slot}
use Rattle.rules.specs.Views.{job_at}
use Rattle.board.specs.declared.turn.Turn.{Turn}

abbrev pub sooner : Turn → Turn → Bool
sooner = before (then_cmp (on (λ t. t.due) nat_cmp) (on (λ t. t.row) nat_cmp))

abbrev pub turn_of : ℕ → Job → Turn
turn_of row j = record { due = j.due; row = row }

-- what a measure of turns makes of a row with this open job, if any
abbrev pub worth : (Turn → ℕ) → ℕ → Option Job → ℕ
worth f row None = 0
worth f row (Some j) = f (turn_of row j)

-- whatever is summed over the turns is the sum over the open jobs
abbrev pub Queued : List Slot → List Turn → Type 0
Queued slots turns = (f : Turn → ℕ) → sum_by f turns ≡ sum_to (length slots) (λ row. worth f row (job_at slots row))
