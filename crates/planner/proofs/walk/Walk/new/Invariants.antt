use Rattle.std.proofs.Common.{◌≡◌, length, take}
use Rattle.queue.specs.Queue.{Queue}
use Rattle.planner.specs.Points.{sooner}
use Rattle.planner.proofs.Steps.{Partly}
use Rattle.planner.proofs.walk.Walk.new.Given as goal

abbrev pub invariant-loop-task : goal.invariant-loop-task
invariant-loop-task l =
    (length l.points ≡ 64) × (l.held ≡ l.task-index) × Queue sooner l.points l.held × Partly l.tasks (take l.held l.points) l.held
