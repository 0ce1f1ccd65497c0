use Rattle.std.proofs.Common.{ℕ, ◌<◌, ◌≤◌}
use Rattle.table.specs.Tasks.{task_at}
use Rattle.planner.proofs.walk.Walk.next_due.Given as goal

abbrev pub invariant-loop-task : goal.invariant-loop-task
invariant-loop-task l =
    (l.self.at < l.next) × (l.next ≤ l.end)
    × ((i : ℕ) → i < l.task-index → l.self.at < (task_at l.self.tasks.now i).due → l.next ≤ (task_at l.self.tasks.now i).due)
