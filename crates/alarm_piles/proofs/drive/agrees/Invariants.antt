use Rattle.std.proofs.Common.{◌≡◌}
use Rattle.alarm.specs.Meaning.{waiting}
use Rattle.alarm_piles.proofs.drive.agrees.Given as goal

abbrev pub invariant-loop-rest : goal.invariant-loop-rest
invariant-loop-rest g l = g.L.Alarm.meaning l.alarm ≡ waiting l.rest
