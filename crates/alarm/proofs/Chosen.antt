-- Which boundary a divider chooses. At a phase p the boundaries stand where the ticks and p make a multiple of the period, so the
-- quotient q of k + p by the period counts the boundaries up to k, and q periods, less the phase, end at the last of them.
use Rattle.std.proofs.Common.{◌≡◌, ℕ, zero, suc, ◌+◌, ◌-◌, ◌*◌, ◌/◌, ◌<◌, ◌≤◌, refl, inl, inr, arith}
use Rattle.alarm.specs.Boundaries.{Nearest, period, divider_reach}

by_count : (p k m q : ℕ) → p < period → k ≤ divider_reach → q ≡ (k + p) / period → m ≡ q * period - p → Nearest p k m
by_count p k m zero hp hk count e = record {
  within = omega arith;
  one = inl (omega arith);
  largest = λ j hj l. omega arith;
}
by_count p k m (suc r) hp hk count e = record {
  within = omega arith;
  one = inr (r, (omega arith, omega arith));
  largest = λ j hj l. omega arith;
}

pub quotient_chooses : (p k m : ℕ) → p < period → k ≤ divider_reach → m ≡ (k + p) / period * period - p → Nearest p k m
quotient_chooses p k m hp hk e = by_count p k m ((k + p) / period) hp hk refl e
