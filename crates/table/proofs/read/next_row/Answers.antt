use Rattle.std.proofs.Common.{rules, ◌≡◌, length, Ok, sym, ap, ◌∙◌}
use Rattle.std.proofs.lemmas.List.{length-append}
use Rattle.std.proofs.lemmas.Result.{err_from_is_err_and}
use Rattle.refusal.specs.declared.cases.Refusal.TheVariants.{LineForm}
use Rattle.table.specs.Limits.{at}
use Rattle.table.specs.Lines.{row_line}
use Rattle.table.specs.Readings.{contents, reading}
use Rattle.table.proofs.Lined.{lined_form, lined_limits, lined_name, lined_common, lined_yes, past_found, stuck_found}
use Rattle.table.proofs.Mapped.{mapped_ok, mapped_err}
use Rattle.table.proofs.Texts.{same_parts}
use Rattle.table.proofs.read.next_row.Goals as goal

pub returns-in_err-row : goal.returns-in_err-row
returns-in_err-row c =
    let p = err_from_is_err_and c.from_residual.result c.from_residual.ensures.1 in
    let m = mapped_err _ _ _ c.row_line.result c.map_err.result c.in_err-row.field-0.0 c.map_err.ensures.cases c.in_err-row.was c.row_line.ensures in
    let f = stuck_found row_line c.args.at.rest.now c.args.at.place m.0 m.1 in
    let e : c.in_err-row.field-0.0 ≡ LineForm (at c.args.line m.0) = search (rules, m.2) in
    rw (p.1, p.2, e) (lined_form c.args.line c.args.at.place c.args.at.rest.now (reading (contents c.args.names.now) c.args.draft.now) m.0 f.0 f.1)

pub returns-in_err-limits : goal.returns-in_err-limits
returns-in_err-limits c =
    let p = err_from_is_err_and c.from_residual-in_err-limits.result c.from_residual-in_err-limits.ensures.1 in
    let m = mapped_ok _ _ _ c.row_line.result c.map_err.result _ c.map_err.ensures.cases c.in_ok-row.was c.row_line.ensures in
    rw (p.1, p.2) (lined_limits c.args.line c.args.at.place c.args.at.rest.now (reading (contents c.args.names.now) c.args.draft.now) _ _ _ _ _ _ _ (past_found _ _ _ _ _ _ m.moves) m.task _ (sym c.in_err-limits.ensures))

pub returns-then-name_taken : goal.returns-then-name_taken
returns-then-name_taken c =
    let m = mapped_ok _ _ _ c.row_line.result c.map_err.result _ c.map_err.ensures.cases c.in_ok-row.was c.row_line.ensures in
    lined_name c.args.line c.args.at.place c.args.at.rest.now (reading (contents c.args.names.now) c.args.draft.now) _ _ _ _ _ _ _ (past_found _ _ _ _ _ _ m.moves) m.task (sym c.in_ok-limits.ensures) (sym c.if-name_taken.ensures)

pub returns-in_err-add : goal.returns-in_err-add
returns-in_err-add c =
    let p = err_from_is_err_and c.from_residual-in_err-add.result c.from_residual-in_err-add.ensures.1 in
    let m = mapped_ok _ _ _ c.row_line.result c.map_err.result _ c.map_err.ensures.cases c.in_ok-row.was c.row_line.ensures in
    let over = c.in_err-add.ensures in
    rw (p.1, p.2, over.why) (lined_common c.args.line c.args.at.place c.args.at.rest.now (reading (contents c.args.names.now) c.args.draft.now) _ _ _ _ _ _ _ (past_found _ _ _ _ _ _ m.moves) m.task (sym c.in_ok-limits.ensures) (sym c.if-name_taken.ensures) over.past)

pub returns : goal.returns
returns c =
    let m = mapped_ok _ _ _ c.row_line.result c.map_err.result _ c.map_err.ensures.cases c.in_ok-row.was c.row_line.ensures in
    let f = past_found _ _ _ _ _ _ m.moves in
    let added = c.in_ok-add.ensures in
    let yes = lined_yes c.args.line c.args.at.place c.args.at.rest.now (reading (contents c.args.names.now) c.args.draft.now) _ _ _ _ _ _ _ (past_found _ _ _ _ _ _ m.moves) m.task (sym c.in_ok-limits.ensures) (sym c.if-name_taken.ensures) added.within in
    record {
      yes = yes ∙ ap Ok (same_parts _ _ _ _ _ added.tasks added.common);
      place = f.place;
      rest = f.left;
      room = m.moves.room;
      more = ap length added.tasks ∙ length-append _ _;
    }
