-- What a call does to an alarm of any kind: the state `x` before the call, `y` after it. Assumes nothing.
--   Ghosts    the ghost members of an alarm: its meaning, reach and grain, and what its kind promises besides
--   SetTo     x was set to n, chose the wait m, and became y
--   Cleared   x was cleared, and became y
--   Passed    x let a tick go by, and became y
use Rattle.std.specs.Prelude.{◌≡◌, ℕ, ◌+◌, ◌<◌, ◌≤◌, min, None}
use Rattle.alarm.specs.declared.base.Alarm.{Ghosts}
use Rattle.alarm.specs.Meaning.{waiting, onward}

-- the wait keeps both bounds, and is what is left
abbrev pub SetTo : {S : Type 0} → Ghosts S → S → ℕ → ℕ → S → Type 0
SetTo alarm x n m y =
    (m ≤ min n (alarm.reach x)) × (min n (alarm.reach x) < m + alarm.grain x) × (alarm.meaning y ≡ waiting m)
    × (alarm.reach y ≡ alarm.reach x) × (alarm.grain y ≡ alarm.grain x) × alarm.sets x n m y

-- nothing is left
abbrev pub Cleared : {S : Type 0} → Ghosts S → S → S → Type 0
Cleared alarm x y =
    (alarm.meaning y ≡ None) × (alarm.reach y ≡ alarm.reach x) × (alarm.grain y ≡ alarm.grain x) × alarm.clears x y

-- a tick less is left
abbrev pub Passed : {S : Type 0} → Ghosts S → S → S → Type 0
Passed alarm x y =
    (alarm.meaning y ≡ onward (alarm.meaning x)) × (alarm.reach y ≡ alarm.reach x) × (alarm.grain y ≡ alarm.grain x)
    × alarm.passes x y
