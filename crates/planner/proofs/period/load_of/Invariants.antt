use Rattle.std.proofs.Common.{◌≡◌, ◌*◌, ◌/◌, ◌≤◌}
use Rattle.table.specs.Tasks.{task_at}
use Rattle.planner.specs.Demand.{sum_to}
use Rattle.planner.proofs.period.load_of.Given as goal

abbrev pub invariant-loop-task : goal.invariant-loop-task
invariant-loop-task l =
    (l.sum ≡ sum_to l.task-index (λ i. (task_at l.tasks i).run * (l.period / (task_at l.tasks i).gap)))
    × (l.sum ≤ l.task-index * 1000000)
