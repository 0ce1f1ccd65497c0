-- The second write to the row's slot is the one that stays.
use Rattle.std.proofs.Common.{set, ap, ◌∙◌}
use Rattle.std.proofs.lemmas.List.{set-set}
use Rattle.rules.specs.Views.{opened}
use Rattle.board.specs.declared.jobs.Jobs.{Jobs}
use Rattle.board.proofs.jobs.Jobs.open.Goals as goal
use Rattle.board.proofs.jobs.Jobs.open.Goals.{then-is_some, else-is_some}

pub returns : goal.returns
returns c =
    let row = c.args.known.row in
    let new = opened c.args.at c.args.due in
    c.enter.ensures
    ∙ (elim c.if-is_some.branch [
      | then-is_some w ↦
          ap (λ (s : Jobs). set s.slots row new) w.self-is
          ∙ (ap (λ slots. set slots row new) w.close.ensures ∙ set-set c.args.self.now.slots row _ new)
      | else-is_some w ↦ ap (λ (s : Jobs). set s.slots row new) w.self-is
    ])
