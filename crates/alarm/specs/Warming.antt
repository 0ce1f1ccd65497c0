-- A ramp's warm-up, and how its wait comes from that of the alarm below. Assumes nothing.
--   warm_up_limit   the longest warm-up
--   warmed          the wait of a ramp over an alarm that chose the wait `b`
--   Ramped          a ramp that is set to n waits for m, and the alarm below goes from x to y
--   Level           how the ramp's ticks left stand to what the alarm below has left
use Rattle.std.specs.Prelude.{◌≡◌, ℕ, ◌+◌, ◌-◌, ◌<◌, ◌≤◌, cond, Some, None, Option, ◌==◌}
use Rattle.alarm.specs.declared.base.Alarm.{Ghosts}
use Rattle.alarm.specs.Effects.{SetTo, Cleared}

abbrev pub warm_up_limit : ℕ
warm_up_limit = 1000

-- 0 stays 0; any other wait is followed by the warm-up
abbrev pub warmed : ℕ → ℕ → ℕ
warmed warm b = cond (b == 0) 0 (b + warm)

-- a number within the warm-up clears the alarm below; for a larger one that is set to the rest
abbrev pub Ramped : {S : Type 0} → Ghosts S → (warm n m : ℕ) → S → S → Type 0
Ramped below warm n m x y =
    (n ≤ warm → (m ≡ 0) × Cleared below x y) × (warm < n → (b : ℕ) × ((m ≡ warmed warm b) × SetTo below x (n - warm) b y))

-- the whole warm-up is still to come while the alarm below is set, so just the warm-up is left when that rings
abbrev pub Level : (warm : ℕ) → (below left : Option ℕ) → Type 0
Level warm None None = Unit {0}
Level warm None (Some left) = left ≤ warm
Level warm (Some b) left = left ≡ Some (b + warm)
