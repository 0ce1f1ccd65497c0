use Rattle.std.proofs.Common.{subst}
use Rattle.figures.specs.Figures.{cutter_text}
use Rattle.planner.specs.Texts.{Filled}
use Rattle.figures.proofs.Calls.{cutter_filled, cutter_unrefused}
use Rattle.figures.proofs.cutter.cutter_plan.Goals as goal

pub unwrap-requires : goal.unwrap-requires
unwrap-requires c = cutter_unrefused c.fill.result c.fill.new.self c.fill.ensures

pub returns : goal.returns
returns c =
    let f = cutter_filled _ c.fill.new.self (subst (λ r. Filled cutter_text r c.fill.new.self) c.unwrap.ensures c.fill.ensures) in
    record { tasks = f.0; sleeps = f.1 }
