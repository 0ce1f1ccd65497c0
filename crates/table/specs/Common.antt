-- Common divisors and common multiples. Assumes nothing.
--   Measure         the greatest common divisor, by what it divides and what divides it
--   LeastMultiple   the least common multiple: a multiple of both, and a divisor of every such
--   gcd, lcm        the same computed, by Euclid's steps; common of a list of gaps
use Rattle.std.specs.Prelude.{ℕ, zero, suc, ◌+◌, ◌*◌, ◌/◌, ◌%◌, ◌≤◌, cond, ◌==◌}
use Rattle.std.specs.Int.{◌∣◌}

-- g divides a and b, and what divides the same multiple of both divides that multiple of g
pub record Measure (a b g : ℕ) : Type 0 where
  pub some : 1 ≤ g
  pub left : g ∣ a
  pub right : g ∣ b
  pub greatest : (d x : ℕ) → d ∣ x * a → d ∣ x * b → d ∣ x * g

pub record LeastMultiple (a b m : ℕ) : Type 0 where
  pub some : 1 ≤ m
  pub left : a ∣ m
  pub right : b ∣ m
  pub least : (x : ℕ) → a ∣ x → b ∣ x → m ∣ x

-- at most so many of Euclid's steps
unfoldable pub euclid : ℕ → ℕ → ℕ → ℕ
euclid zero a b = a
euclid (suc n) a b = cond (b == 0) a (euclid n b (a % b))

-- each step lessens the second number
unfoldable pub gcd : ℕ → ℕ → ℕ
gcd a b = euclid (b + 1) a b

unfoldable pub lcm : ℕ → ℕ → ℕ
lcm a b = a / gcd a b * b
