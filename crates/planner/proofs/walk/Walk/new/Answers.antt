-- Row by row, the first point of each is taken into the queue.
use Rattle.std.proofs.Common.{◌≡◌, ◌+◌, take, sym, refl, ap, subst, arith}
use Rattle.table.specs.Tasks.{task_at}
use Rattle.planner.specs.declared.point.Point.{Point}
use Rattle.planner.proofs.Ordered.{points_linear}
use Rattle.planner.proofs.Steps.{Partly, partly_none, partly_more}
use Rattle.planner.proofs.walk.Walk.new.Goals as goal

pub loop-task-init : goal.loop-task-init
loop-task-init c = (refl, refl, (omega arith, λ k d h. absurd (omega arith)), partly_none _)

pub loop-task-preserved : goal.loop-task-preserved
loop-task-preserved c =
    let told = c.tasks-tasks.ensures in
    let tasks = c.tasks-tasks.result.now in
    let l = c.loop-task in
    let row = l.held in
    let into = rw c.unwrap-held.ensures at c.push.ensures in
    let p : Point = record { time = (task_at tasks l.task-index).due; row = row } in
    let heap = c.push.new.heap in
    let more : c.unwrap-held.result ≡ row + 1 = into.more in (
      omega (arith, c.push.auto.heap),
      omega (arith, more),
      into.queue l.invariant.2,
      subst (Partly tasks (take c.unwrap-held.result heap)) (sym more)
          (partly_more tasks (take row l.points) (take c.unwrap-held.result heap) p told.whole l.invariant.3 (omega arith) (ap (λ n. (task_at tasks n).due) (sym l.invariant.1)) into.held),
    )

pub returns-clause-order : goal.returns-clause-order
returns-clause-order c = points_linear
