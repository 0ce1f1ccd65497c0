-- What an alarm means: unset, or a number of ticks left, at least 1. Assumes nothing.
--   waiting n   so many ticks left, or unset where that is none
--   onward a    the meaning one tick later
--   rings a     whether that tick rings
use Rattle.std.specs.Prelude.{ℕ, ◌-◌, Bool, false, cond, Some, None, Option, ◌==◌}

abbrev pub waiting : ℕ → Option ℕ
waiting n = cond (n == 0) None (Some n)

abbrev pub onward : Option ℕ → Option ℕ
onward None = None
onward (Some t) = waiting (t - 1)

abbrev pub rings : Option ℕ → Bool
rings None = false
rings (Some t) = t == 1
