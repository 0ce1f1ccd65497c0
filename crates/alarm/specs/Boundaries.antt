-- The boundaries of a divider, and which of them it chooses. Assumes nothing.
--   period     the ticks from a boundary to the next
--   most       how many boundaries ahead it can count
--   boundary   the ticks from a phase to the boundary that comes after `j` others
--   until      the ticks left where so many boundaries are
--   Nearest    the boundary that is chosen
use Rattle.std.specs.Prelude.{◌≡◌, ℕ, ◌+◌, ◌-◌, ◌*◌, ◌<◌, ◌≤◌, ◌⊎◌, Some, None, Option}

abbrev pub period : ℕ
period = 32

abbrev pub most : ℕ
most = 255

-- the last boundary that it can count to, seen from phase 0
abbrev pub divider_reach : ℕ
divider_reach = most * period

abbrev pub boundary : ℕ → ℕ → ℕ
boundary phase j = (period - phase) + period * j

-- the last of the boundaries left is where the wait ends
abbrev pub until : (phase : ℕ) → (laps : Option ℕ) → Option ℕ
until phase None = None
until phase (Some k) = Some (period * k - phase)

-- `m` is the largest of the boundaries ahead that is at most `k`, or 0 if there is none
pub record Nearest (phase k m : ℕ) : Type 0 where
  pub within : m ≤ k
  pub one : (m ≡ 0) ⊎ ((j : ℕ) × ((j < most) × (m ≡ boundary phase j)))
  pub largest : (j : ℕ) → j < most → boundary phase j ≤ k → boundary phase j ≤ m
