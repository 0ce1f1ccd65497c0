use Rattle.std.proofs.Common.{refl, arith}
use native.Mathlib.Nat.{one-dvd}
use Rattle.table.proofs.rows.Rows.new.Goals as goal

pub invariant_of-result : goal.invariant_of-result
invariant_of-result c = record {
  size = refl;
  within = omega arith;
  whole = λ row h. absurd (omega arith);
  bounded = λ row h. absurd (omega arith);
  positive = omega arith;
  short = omega arith;
  multiple = λ row h. absurd (omega arith);
  least = λ x h. one-dvd x;
}
