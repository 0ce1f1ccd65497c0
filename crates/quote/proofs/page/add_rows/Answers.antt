use Rattle.std.proofs.Common.{◌≡◌, ◌≤◌, length, get_or, Some, vec_items, sym, ap, ◌∙◌, subst, arith}
use Rattle.std.specs.List.{slice_get}
use Rattle.std.proofs.lemmas.Option.{slice_get-get_or}
use Rattle.planner.specs.Plans.{sleeps_of}
use Rattle.quote.specs.Printed.{names_in}
use Rattle.quote.proofs.Pages.{name_there, name_none, row_added, no_name_left, all_added}
use Rattle.quote.proofs.page.add_rows.Goals as goal

pub loop-row-preserved : goal.loop-row-preserved
loop-row-preserved c =
    let listed = c.sleeps-sleep-items in
    let row = c.loop-row.row in
    let sleep : Some (get_or listed.result.now row 0) ≡ slice_get (sleeps_of c.args.plan.now) row =
    sym (slice_get-get_or listed.result.now row 0 (omega arith)) ∙ ap (λ xs. slice_get xs row) listed.ensures.value in
    row_added (vec_items c.loop-row.page) (vec_items c.args.page.now) (names_in c.args.text.now) (sleeps_of c.args.plan.now) row c.loop-row.invariant
    c.in-Some.name.now (get_or listed.result.now row 0) (vec_items c.add_sleep.new.page)
    (name_there c.args.text.now row c.in-Some.name c.in-Some.ensures) sleep c.in_ok-add_sleep.ensures

pub returns-after-loop-row : goal.returns-after-loop-row
returns-after-loop-row c =
    all_added (vec_items c.loop-row.page) (vec_items c.args.page.now) (names_in c.args.text.now) (sleeps_of c.args.plan.now) c.loop-row.row c.loop-row.invariant
    (subst (λ xs. length xs ≤ c.loop-row.row) c.sleeps-sleep-items.ensures.value c.loop-row-test.false)

pub returns-in_default : goal.returns-in_default
returns-in_default c =
    no_name_left (vec_items c.loop-row.page) (vec_items c.args.page.now) (names_in c.args.text.now) (sleeps_of c.args.plan.now) c.loop-row.row c.loop-row.invariant
    (name_none c.args.text.now c.loop-row.row c.in_default.ensures)
