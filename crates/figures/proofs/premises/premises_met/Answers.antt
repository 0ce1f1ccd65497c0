use Rattle.std.proofs.Common.{refl}
use Rattle.figures.proofs.Witnesses.{premises}
use Rattle.figures.proofs.premises.premises_met.Goals as goal

pub returns : goal.returns
returns c = record { met = premises; lasts = refl }
