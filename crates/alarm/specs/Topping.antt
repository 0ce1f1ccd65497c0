-- How a top-up sets the alarm below again and again. Assumes nothing.
--   top_up_reach   the longest wait
--   Resumed        a pass of a top-up leaves it a rest, and the alarm below goes from x to y
--   Covers         the alarm below is not set past what is left
use Rattle.std.specs.Prelude.{◌≡◌, ℕ, ◌≤◌, Bool, true, false, Some, None, Option}
use Rattle.alarm.specs.declared.base.Alarm.{Ghosts}
use Rattle.alarm.specs.Effects.{SetTo, Passed}
use Rattle.alarm.specs.Meaning.{rings}

abbrev pub top_up_reach : ℕ
top_up_reach = 1000000

-- where the alarm below rang and a rest is left, it is set again; else it stays as its pass left it
abbrev pub Again : {S : Type 0} → Ghosts S → (rang : Bool) → S → Option ℕ → S → Type 0
Again below true z (Some rest) y = (b : ℕ) × SetTo below z rest b y
Again below true z None y = y ≡ z
Again below false z rest y = y ≡ z

-- the pass is handed on, whatever is left
abbrev pub Resumed : {S : Type 0} → Ghosts S → S → Option ℕ → S → Type 0
Resumed {S} below x rest y = (z : S) × (Passed below x z × Again below (rings (below.meaning x)) z rest y)

abbrev pub Covers : (below left : Option ℕ) → Type 0
Covers None left = Unit {0}
Covers (Some b) None = ⊥
Covers (Some b) (Some left) = b ≤ left
