-- The promises are proved in proofs/Due.antt, proofs/Sleep.antt and proofs/Longer.antt.
use Rattle.rules.proofs.Promises.{promises_kept}
use Rattle.rules.proofs.promises_stand.Goals as goal

pub returns : goal.returns
returns c = record { kept = promises_kept }
