use Rattle.std.proofs.Common.{arith}
use Rattle.table.proofs.Divisors.{least_multiple, least_unique, lcm_least}
use Rattle.table.proofs.period.least_multiple.Goals as goal

pub returns : goal.returns
returns c =
    let least = least_multiple c.args.a c.args.b c.gcd.result (omega arith) (omega arith) c.gcd.ensures in
    rw (c.from.ensures, c.from-2.ensures) (record { value = least_unique _ _ _ _ least (lcm_least c.args.a c.args.b (omega arith) (omega arith)); least = least })
