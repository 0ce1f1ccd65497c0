use Rattle.std.proofs.Common.{◌≡◌, ◌++◌, drop, vec_items}
use Rattle.planner.specs.Plans.{sleeps_of}
use Rattle.quote.specs.Printed.{sleep_texts, names_in}
use Rattle.quote.proofs.page.add_rows.Given as goal

abbrev pub invariant-loop-row : goal.invariant-loop-row
invariant-loop-row l =
    vec_items l.page ++ sleep_texts (drop l.row (names_in l.text)) (drop l.row (sleeps_of l.plan))
    ≡ vec_items l.initial.page ++ sleep_texts (names_in l.text) (sleeps_of l.plan)
