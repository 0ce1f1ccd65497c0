use Rattle.std.proofs.Common.{refl}
use Rattle.figures.proofs.Cases.{test_tells, figures}
use Rattle.figures.proofs.list.figures_hold.Goals as goal

pub returns : goal.returns
returns c = record { tells = test_tells; hold = figures; count = refl }
