use Rattle.std.proofs.Common.{rules, ◌≡◌, ◌≤◌, ◌+◌, ◌-◌, [], length, Ok, Err, sym, ap, ◌∙◌, ⊎_elim, zero-add, ℕ, Bool, true, false, List, ◌==◌, eqb-true, arith}
use borrow.Author.Tests.{eqb-false}
use Rattle.std.proofs.lemmas.Result.{err_from_is_err_and}
use Rattle.refusal.specs.declared.cases.Refusal.TheVariants.{TextLength, LineForm, RowCount, TextAfter}
use Rattle.table.specs.Lines.{count_line}
use Rattle.table.specs.Readings.{contents, reading}
use Rattle.table.specs.Verdict.{at, rows_from}
use Rattle.table.proofs.Judged.{judged}
use Rattle.table.proofs.Lined.{past_found, stuck_found}
use Rattle.table.proofs.Mapped.{mapped_ok, mapped_err}
use Rattle.table.proofs.Starts.{first_moves, first_halts}
use Rattle.table.proofs.Texts.{too_short, too_long, first_form, count_low, count_high, count_start, row_refused, row_taken, text_after, text_ends, same_parts}
use Rattle.table.proofs.read.read.Goals as goal

some_bytes : (bs : List ℕ) (empty : Bool) → empty ≡ (length bs == 0) → empty ≡ false → 1 ≤ length bs
some_bytes bs empty e is = let other = eqb-false (length bs) 0 (sym e ∙ is) in omega (arith, other)

no_bytes : (bs : List ℕ) (empty : Bool) → empty ≡ (length bs == 0) → empty ≡ true → length bs ≤ 0
no_bytes bs empty e is = let none = eqb-true (length bs) 0 (sym e ∙ is) in omega (arith, none)

pub returns-then-is_empty : goal.returns-then-is_empty
returns-then-is_empty c =
    judged c.args.text.now (Err TextLength)
    (⊎_elim (λ h. too_short c.args.text.now (omega (arith, no_bytes c.args.text.now _ c.is_empty.ensures h))) (λ h. too_long c.args.text.now h.1) c.then-is_empty.either)

pub returns-in_err-count : goal.returns-in_err-count
returns-in_err-count c =
    let p = err_from_is_err_and c.from_residual.result c.from_residual.ensures.1 in
    let m = mapped_err _ _ _ c.count_line.result c.map_err.result c.in_err-count.field-0.0 c.map_err.ensures.cases c.in_err-count.was c.count_line.ensures in
    let f = stuck_found count_line c.args.text.now 0 m.0 (first_halts c.args.text.now c.new.result c.new.ensures.rest c.new.ensures.place m.0 m.1) in
    let e : c.in_err-count.field-0.0 ≡ LineForm (at 1 m.0) = search (rules, m.2) in
    rw (p.1, p.2, e)
    (judged c.args.text.now (Err (LineForm (at 1 m.0)))
    (first_form c.args.text.now (some_bytes c.args.text.now _ c.is_empty.ensures c.if-is_empty.false) c.if-text-gt-MOST_BYTES.false m.0 f.0 (sym (zero-add _) ∙ f.1)))

pub returns-then-rows-lt1 : goal.returns-then-rows-lt1
returns-then-rows-lt1 c =
    let v = mapped_ok _ _ _ c.count_line.result c.map_err.result (c.in_ok-count.count, c.in_ok-count.first_row) c.map_err.ensures.cases c.in_ok-count.was c.count_line.ensures in
    let moves = first_moves c.args.text.now c.new.result c.new.ensures.rest c.new.ensures.place _ c.in_ok-count.first_row v in
    let found = past_found _ _ _ _ _ _ moves in
    judged c.args.text.now (Err (RowCount (at 1 0)))
    (⊎_elim
    (λ h. count_low c.args.text.now (some_bytes c.args.text.now _ c.is_empty.ensures c.if-is_empty.false) c.if-text-gt-MOST_BYTES.false _ _ _ _ v.1 found h)
    (λ h. count_high c.args.text.now (some_bytes c.args.text.now _ c.is_empty.ensures c.if-is_empty.false) c.if-text-gt-MOST_BYTES.false _ _ _ _ v.1 found h.1)
    c.then-rows-lt1.either)

pub loop-row-init : goal.loop-row-init
loop-row-init c =
    let v = mapped_ok _ _ _ c.count_line.result c.map_err.result (c.in_ok-count.count, c.in_ok-count.first_row) c.map_err.ensures.cases c.in_ok-count.was c.count_line.ensures in
    let moves = first_moves c.args.text.now c.new.result c.new.ensures.rest c.new.ensures.place _ c.in_ok-count.first_row v in
    let fresh = c.new-draft.ensures in
    let bs = c.args.text.now in (
      count_start bs (some_bytes c.args.text.now _ c.is_empty.ensures c.if-is_empty.false) c.if-text-gt-MOST_BYTES.false _ _ _ _ v.1 (past_found _ _ _ _ _ _ moves) c.if-rows-lt1.false c.if-rows-gt-MOST_ROWS.false _ (same_parts [] [] _ 1 _ fresh.tasks fresh.common ∙ ap (λ names. reading (contents names) c.new-draft.result) (sym c.new-names.ensures)),
      ap length fresh.tasks,
      ap length c.new-names.ensures,
    )

pub returns-in_err-name : goal.returns-in_err-name
returns-in_err-name c =
    let p = err_from_is_err_and c.from_residual-in_err-name.result c.from_residual-in_err-name.ensures.1 in
    rw (p.1, p.2) (judged c.args.text.now (Err c.in_err-name.field-0.0) (row_refused c.args.text.now c.in_ok-count.count c.loop-row.row c.loop-row.at c.loop-row.names.items c.loop-row.draft c.loop-row.invariant.0 c.loop-row-test.true c.in_err-name.field-0.0 (rw c.deref.ensures.0 at c.in_err-name.ensures)))

pub loop-row-preserved : goal.loop-row-preserved
loop-row-preserved c =
    let i = c.loop-row.row in
    let t = rw c.deref.ensures.0 at c.in_ok-name.ensures in (
      row_taken c.args.text.now c.in_ok-count.count i c.loop-row.at c.loop-row.names.items c.loop-row.draft c.loop-row.invariant.0 c.loop-row-test.true c.in_ok-name.name c.in_ok-name.next c.next_row.new.draft t
          ∙ ap (λ names. rows_from (c.in_ok-count.count - (i + 1)) (i + 1 + 2) c.in_ok-name.next.place c.in_ok-name.next.rest.now (reading (contents names) c.next_row.new.draft)) (sym c.push.ensures.items),
      t.more ∙ ap (λ n. n + 1) c.loop-row.invariant.1,
      c.push.ensures.len ∙ ap (λ n. n + 1) c.loop-row.invariant.2,
    )

pub returns-then-not-is_empty : goal.returns-then-not-is_empty
returns-then-not-is_empty c =
    judged c.args.text.now (Err (TextAfter (at (c.in_ok-count.count + 2) c.loop-row.at.place)))
    (text_after c.args.text.now c.in_ok-count.count c.loop-row.row c.loop-row.at c.loop-row.names.items c.loop-row.draft c.loop-row.invariant.0 c.loop-row-test.false c.loop-row.auto.row-end (some_bytes c.loop-row.at.rest.now _ c.is_empty-2.ensures c.if-not-is_empty.true))

pub returns : goal.returns
returns c =
    let d = c.finish.ensures in
    judged c.args.text.now (Ok c.finish.result) (
      contents c.loop-row.names.items,
      text_ends c.args.text.now c.in_ok-count.count c.loop-row.row c.loop-row.at c.loop-row.names.items c.loop-row.draft c.loop-row.invariant.0 c.loop-row-test.false (no_bytes c.loop-row.at.rest.now _ c.is_empty-2.ensures c.if-not-is_empty.false) _ _ d.tasks d.common,
    )
