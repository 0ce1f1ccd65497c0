-- One row more adds its runs, which take no more than the period.
use Rattle.std.proofs.Common.{◌≡◌, ◌*◌, ◌/◌, length, refl, ap, ◌∙◌, add-one, arith}
use Rattle.table.specs.Rows.{rows_of}
use Rattle.table.specs.Tasks.{task_at}
use Rattle.planner.specs.Demand.{sum_to, load}
use Rattle.planner.proofs.Repeats.{row_load_le}
use Rattle.planner.proofs.period.load_of.Goals as goal

pub loop-task-init : goal.loop-task-init
unfolding sum_to
loop-task-init c = (refl, omega arith)

pub loop-task-preserved : goal.loop-task-preserved
unfolding sum_to
loop-task-preserved c =
    let told = c.tasks-tasks.ensures in
    let l = c.loop-task in (
      rw add-one (omega (arith, l.invariant.0)),
      omega (arith, row_load_le (task_at c.tasks-tasks.result.now l.task-index) c.common-period.result (told.whole l.task-index (omega arith)), c.common-period.ensures.bound),
    )

pub returns : goal.returns
unfolding load
returns c =
    let tasks = c.tasks-tasks.result.now in
    let h = c.common-period.result in
    let e : c.loop-task.task-index ≡ length tasks = omega arith in
    c.loop-task.invariant.0 ∙ ap (λ n. sum_to n (λ i. (task_at tasks i).run * (h / (task_at tasks i).gap))) e
    ∙ ap (λ rows. load rows h) c.tasks-tasks.ensures.value ∙ ap (load (rows_of c.args.table.now)) c.common-period.ensures.value
