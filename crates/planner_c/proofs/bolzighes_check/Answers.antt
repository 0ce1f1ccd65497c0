use Rattle.std.proofs.Common.{sym, subst}
use Rattle.planner_c.specs.Calls.{Checks}
use Rattle.planner_c.proofs.Answering.{accepted_checks, refused_checks}
use Rattle.planner_c.proofs.bolzighes_check.Goals as goal

pub returns-in-Ok : goal.returns-in-Ok
returns-in-Ok c =
    let checks = accepted_checks c.args.text.now c.in-Ok.field-0 c.fill.new.self c.in-Ok.ensures in
    record { value = checks.value; checks = checks }

pub returns-in-Err : goal.returns-in-Err
returns-in-Err c =
    let checks : Checks c.args.text.now c.record.result.number =
    subst (λ r. Checks c.args.text.now r.number) (sym c.record.ensures)
    (refused_checks c.args.text.now c.in-Err.refusal c.fill.new.self c.in-Err.ensures) in
    record { value = checks.value; checks = checks }
