-- The plan that was made is stored. A refusal is handed on, and the plan stays as it was emptied.
use Rattle.std.proofs.lemmas.Result.{err_from_is_err_and}
use Rattle.table.specs.Rows.{rows_of, common_of}
use Rattle.planner.proofs.Judging.{judged_made, judged_refused}
use Rattle.planner.proofs.plan.Plan.fill_from.Goals as goal

pub returns : goal.returns
returns c =
    let t = c.args.table.now in
    let told = c.in_ok-self.ensures in
    judged_made (rows_of t) (common_of t) _ c.in_ok-self.field-0 told.windows told.answered

pub returns-in_err-self : goal.returns-in_err-self
returns-in_err-self c =
    let t = c.args.table.now in
    let told = c.in_err-self.ensures in
    let p = err_from_is_err_and c.from_residual.result c.from_residual.ensures.1 in
    rw (p.1, p.2) (judged_refused (rows_of t) (common_of t) _ c.empty.result told.windows told.answered c.empty.ensures)
