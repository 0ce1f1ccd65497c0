use Rattle.std.proofs.Common.{◌≡◌, ◌+◌, ◌-◌}
use Rattle.alarm.specs.Meaning.{waiting}
use Rattle.alarm_piles.proofs.drive.rings_at.Given as goal

-- what is left is what of the wait is not passed
abbrev pub invariant-loop-passed : goal.invariant-loop-passed
invariant-loop-passed g l = g.L.Alarm.meaning l.alarm ≡ waiting (l.wait + 1 - l.passed)
