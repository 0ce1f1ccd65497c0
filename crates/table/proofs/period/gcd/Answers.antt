use Rattle.std.proofs.Common.{arith}
use Rattle.table.proofs.Divisors.{euclid_more, euclid_all}
use Rattle.table.proofs.period.gcd.Goals as goal

pub loop-low-preserved : goal.loop-low-preserved
loop-low-preserved c = euclid_more _ _ _ _ c.loop-low.invariant (omega arith)

pub returns : goal.returns
returns c = euclid_all _ _ _ _ c.loop-low.invariant (omega arith)
