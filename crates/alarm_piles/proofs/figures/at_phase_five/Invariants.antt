use Rattle.std.proofs.Common.{◌≡◌, None}
use Rattle.alarm_piles.proofs.figures.at_phase_five.Given as goal

-- each tick moves the phase on by one, and it stays unset
abbrev pub invariant-loop-tick : goal.invariant-loop-tick
invariant-loop-tick l = (l.divider.phase ≡ l._tick) × (l.divider.laps.rest ≡ None)
