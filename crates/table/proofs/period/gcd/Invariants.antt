use Rattle.table.proofs.Divisors.{Euclid}
use Rattle.table.proofs.period.gcd.Given as goal

abbrev pub invariant-loop-low : goal.invariant-loop-low
invariant-loop-low l = Euclid l.a l.b l.high l.low

abbrev pub decreases-loop-low : goal.decreases-loop-low
decreases-loop-low l = l.low
