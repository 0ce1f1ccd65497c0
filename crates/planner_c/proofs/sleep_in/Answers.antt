-- A refused text is handed on; of an accepted one the plan tells the sleep, or that there is no such row.
use Rattle.std.proofs.lemmas.Result.{err_from_is_err_and}
use Rattle.planner_c.proofs.Answering.{sleep_quotes, refused_quotes}
use Rattle.planner_c.proofs.sleep_in.Goals as goal

pub returns-in_err-fill : goal.returns-in_err-fill
returns-in_err-fill c =
    let p = err_from_is_err_and c.from_residual.result c.from_residual.ensures.1 in
    rw (p.1, p.2) (refused_quotes c.args.text.now _ c.fill.new.self c.in_err-fill.ensures c.args.row)

pub returns : goal.returns
returns c =
    rw c.ok_or.ensures.value
    (sleep_quotes c.args.text.now _ c.fill.new.self c.in_ok-fill.ensures c.args.row c.sleep.result c.sleep.ensures.value c.sleep.ensures.sleep)
