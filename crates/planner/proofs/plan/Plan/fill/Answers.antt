use Rattle.std.proofs.lemmas.Result.{err_from_is_err_and}
use Rattle.planner.proofs.Texts.{filled_unread, filled_read}
use Rattle.planner.proofs.plan.Plan.fill.Goals as goal

pub returns-in_err-table : goal.returns-in_err-table
returns-in_err-table c =
    let p = err_from_is_err_and c.from_residual.result c.from_residual.ensures.1 in
    rw (p.1, p.2) (filled_unread c.args.text.now _ c.empty.result c.in_err-table.ensures.computed c.empty.ensures)

pub returns : goal.returns
returns c =
    let r = c.in_ok-table.ensures.computed in
    filled_read c.args.text.now _ r.1 c.fill_from.result c.fill_from.new.self c.fill_from.ensures
