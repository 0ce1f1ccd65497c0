use Rattle.std.proofs.Common.{◌<◌, length, Ok, sym, subst}
use Rattle.std.proofs.lemmas.Result.{MatchResult-at_ok, MatchResult-at_err}
use Rattle.table.specs.Names.{Named}
use Rattle.table.specs.Readings.{Reads}
use Rattle.table.proofs.Mapped.{ok_some, ok_none}
use Rattle.table.proofs.Naming.{table_rows, below, less, met, first_not_stuck, first_passed, row_not_stuck, row_passed, row_named}
use Rattle.table.proofs.Starts.{first_moves, first_halts}
use Rattle.table.proofs.name.name_of.Goals as goal

pub returns-in_err-at : goal.returns-in_err-at
returns-in_err-at c =
    let no = ok_none c.count_line.result c.ok-2.result c.ok-2.ensures.value c.in_err-at.was in
    let stuck = first_halts c.args.text.now c.new.result c.new.ensures.rest c.new.ensures.place no.0 (MatchResult-at_err _ _ no.0 no.1 c.count_line.ensures) in
    rw c.from_residual-in_err-at.ensures (λ rows a. absurd (first_not_stuck c.args.text.now rows a no.0 stuck))

pub loop-init : goal.loop-init
loop-init c rows a =
    let line = ok_some c.count_line.result c.ok-2.result (c.in_ok-at.field-0-0, c.in_ok-at.at) c.ok-2.ensures.value c.in_ok-at.was in
    let moves = first_moves c.args.text.now c.new.result c.new.ensures.rest c.new.ensures.place c.in_ok-at.field-0-0 c.in_ok-at.at (MatchResult-at_ok _ _ (c.in_ok-at.field-0-0, c.in_ok-at.at) line c.count_line.ensures) in
    first_passed c.args.text.now rows a _ _ _ moves

pub returns-in_err-at-2 : goal.returns-in_err-at-2
returns-in_err-at-2 c =
    let table = ok_some c.read.result c.ok.result c.in_ok-ok.field-0 c.ok.ensures.value c.in_ok-ok.was in
    let no = ok_none c.row_line.result c.ok-in-loop.result c.ok-in-loop.ensures.value c.in_err-at-2.was in
    let stuck = MatchResult-at_err _ _ no.0 no.1 c.row_line.ensures in
    rw c.from_residual-in_err-at-2.ensures (λ rows a.
    let at_row = c.loop.invariant rows a in
    let size = table_rows c.args.text.now c.read.result c.in_ok-ok.field-0 c.tasks-rows.result.now c.read.ensures table c.tasks-rows.ensures.value rows a in
    let low = below c.loop.counter c.args.row (length c.tasks-rows.result.now) (length rows) c.loop-test.true c.if-row-rows.false size in
    absurd (row_not_stuck c.args.text.now rows a c.loop.counter low c.loop.at.rest.now c.loop.at.place at_row.0 at_row.1 no.0 stuck))

pub loop-preserved : goal.loop-preserved
loop-preserved c rows a =
    let table = ok_some c.read.result c.ok.result c.in_ok-ok.field-0 c.ok.ensures.value c.in_ok-ok.was in
    let line = ok_some c.row_line.result c.ok-in-loop.result (c.in_ok-at-2.field-0-0, c.in_ok-at-2.field-0-1) c.ok-in-loop.ensures.value c.in_ok-at-2.was in
    let m = MatchResult-at_ok _ _ (c.in_ok-at-2.field-0-0, c.in_ok-at-2.field-0-1) line c.row_line.ensures in
    let at_row = c.loop.invariant rows a in
    let size = table_rows c.args.text.now c.read.result c.in_ok-ok.field-0 c.tasks-rows.result.now c.read.ensures table c.tasks-rows.ensures.value rows a in
    let low = below c.loop.counter c.args.row (length c.tasks-rows.result.now) (length rows) c.loop-test.true c.if-row-rows.false size in
    row_passed c.args.text.now rows a c.loop.counter low c.loop.at.rest.now c.loop.at.place at_row.0 at_row.1 _ _ _ m.moves

pub returns-in_err-found : goal.returns-in_err-found
returns-in_err-found c =
    let table = ok_some c.read.result c.ok.result c.in_ok-ok.field-0 c.ok.ensures.value c.in_ok-ok.was in
    let no = ok_none c.row_line-2.result c.ok-3.result c.ok-3.ensures.value c.in_err-found.was in
    let stuck = MatchResult-at_err _ _ no.0 no.1 c.row_line-2.ensures in
    rw c.from_residual-in_err-found.ensures (λ rows a.
    let at_row = c.loop.invariant rows a in
    let here = met c.loop.counter c.args.row c.loop-test.false c.loop.auto.counter-end in
    let size = table_rows c.args.text.now c.read.result c.in_ok-ok.field-0 c.tasks-rows.result.now c.read.ensures table c.tasks-rows.ensures.value rows a in
    let low = less c.loop.counter (length c.tasks-rows.result.now) (length rows) (subst (λ i. i < length c.tasks-rows.result.now) (sym here) c.if-row-rows.false) size in
    absurd (row_not_stuck c.args.text.now rows a c.loop.counter low c.loop.at.rest.now c.loop.at.place at_row.0 at_row.1 no.0 stuck))

pub returns : goal.returns
returns c =
    let table = ok_some c.read.result c.ok.result c.in_ok-ok.field-0 c.ok.ensures.value c.in_ok-ok.was in
    let read : Reads c.args.text.now (Ok c.in_ok-ok.field-0) = subst (Reads c.args.text.now) table c.read.ensures in
    let line = ok_some c.row_line-2.result c.ok-3.result (c.in_ok-found.found, c.in_ok-found.field-0-1) c.ok-3.ensures.value c.in_ok-found.was in
    let m = MatchResult-at_ok _ _ (c.in_ok-found.found, c.in_ok-found.field-0-1) line c.row_line-2.ensures in
    let here = met c.loop.counter c.args.row c.loop-test.false c.loop.auto.counter-end in (
      (read.says.0, read.says.1),
      λ rows a.
          let at_row = c.loop.invariant rows a in
          let size = table_rows c.args.text.now c.read.result c.in_ok-ok.field-0 c.tasks-rows.result.now c.read.ensures table c.tasks-rows.ensures.value rows a in
          let low = less c.loop.counter (length c.tasks-rows.result.now) (length rows) (subst (λ i. i < length c.tasks-rows.result.now) (sym here) c.if-row-rows.false) size in
          subst (λ i. Named c.args.text.now rows a i c.in_ok-found.found.name.now) here
          (row_named c.args.text.now rows a c.loop.counter low c.loop.at.rest.now c.loop.at.place at_row.0 at_row.1 _ m.run m.due m.gap _ _ m.moves),
    )
