-- The theorem is proved in proofs/Progress.antt.
use Rattle.rules.specs.Views.{count, fresh}
use Rattle.rules.proofs.Sane.{sane_runs, sane_fresh}
use Rattle.rules.proofs.Progress.{goes}
use Rattle.rules.proofs.rules_go_on.Goals as goal

pub returns : goal.returns
returns c = record { answered = λ R ok fine log v k call. goes R fine v (sane_runs R ok log (fresh (count R)) v (sane_fresh R) k) call }
