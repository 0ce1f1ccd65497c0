use Rattle.std.proofs.Common.{◌++◌, ap, ◌∙◌}
use Rattle.planner.specs.Computed.{shortest_of}
use Rattle.planner.specs.Plans.{sleeps_of}
use Rattle.quote.specs.Printed.{sleep_texts, shortest_line_of, names_in}
use Rattle.quote.proofs.Quoting.{refused_page, accepted_page}
use Rattle.quote.proofs.page.quote_text.Goals as goal

pub returns-in_ok-add_shortest-in-Ok : goal.returns-in_ok-add_shortest-in-Ok
returns-in_ok-add_shortest-in-Ok c =
    let plan = c.fill.new.self in
    accepted_page c.args.text.now _ tt plan c.in-Ok.ensures
    (c.in_ok-add_shortest-in-Ok.ensures
    ∙ ap (λ xs. xs ++ shortest_line_of (shortest_of (sleeps_of plan)))
    (c.in_ok-add_rows-in-Ok.ensures ∙ ap (λ xs. xs ++ sleep_texts (names_in c.args.text.now) (sleeps_of plan)) (c.in_ok-page-in-Ok.ensures.items ∙ c.as_bytes.ensures.value ∙ c.in_ok-first-in-Ok.ensures)))

pub returns-in_ok-page-in-Err : goal.returns-in_ok-page-in-Err
returns-in_ok-page-in-Err c =
    refused_page c.args.text.now _ c.in-Err.refusal c.fill.new.self c.in-Err.ensures
    (c.in_ok-page-in-Err.ensures.items ∙ c.as_bytes-in-Err.ensures.value ∙ c.in_ok-line-in-Err.ensures.ok)
