-- An alarm's figure: the wait that a pile of kinds chooses, and the pass at which it rings. Assumes nothing.
--   Pile        a pile of kinds, with what decides its wait: a divider's phase, a ramp's warm-up
--   State       what the code keeps of such a pile
--   ghosts_of   what its calls promise
--   At          the state has that phase and that warm-up
--   wait_of     the wait that it chooses, computed
--   Waits       set to so many, it waits for so many: the effects of its calls allow no other wait
--   RingsAt     set to so many, it rings at that pass, and at none before
use Rattle.std.specs.Prelude.{◌≡◌, ℕ, ◌+◌, ◌-◌, ◌*◌, ◌/◌, ◌<◌, min, cond, ◌==◌, nat_le}
use Rattle.std.specs.Borrow.{RattleType}
use mir.Syntax.{Dict}
use Rattle.alarm.specs.declared.base.Alarm.{Ghosts}
use Rattle.alarm.specs.contracts.counter.Counter as the_counter
use Rattle.alarm.specs.contracts.counter.CounterAlarm.TheImpl as counter_alarm
use Rattle.alarm.specs.contracts.divider.Divider as the_divider
use Rattle.alarm.specs.contracts.divider.DividerAlarm.TheImpl as divider_alarm
use Rattle.alarm.specs.contracts.ramp.Ramp as the_ramp
use Rattle.alarm.specs.contracts.ramp.RampAlarm.TheImpl as ramp_alarm
use Rattle.alarm.specs.contracts.topup.TopUp as the_top_up
use Rattle.alarm.specs.contracts.topup.TopUpAlarm.TheImpl as top_up_alarm
use Rattle.alarm.specs.Boundaries.{period, divider_reach}
use Rattle.alarm.specs.Counting.{counter_reach}
use Rattle.alarm.specs.Effects.{SetTo, Passed}
use Rattle.alarm.specs.Meaning.{rings}
use Rattle.alarm.specs.Topping.{top_up_reach}
use Rattle.alarm.specs.Warming.{warmed}

pub data Pile : Type 0 where
  counter : Pile
  divider : (phase : ℕ) → Pile
  ramp : (warm : ℕ) → (below : Pile) → Pile
  top_up : (below : Pile) → Pile

-- the pile as a type of the code
abbrev pub type_of : Pile → RattleType
type_of counter = the_counter.the_row
type_of (divider phase) = the_divider.the_row
type_of (ramp warm below) = the_ramp.the_row (type_of below)
type_of (top_up below) = the_top_up.the_row (type_of below)

abbrev pub State : Pile → Type 0
State pile = (type_of pile).Denot

-- what its calls promise, and the code's table of them
abbrev pub alarm_of : (pile : Pile) → Ghosts (State pile) × Dict
alarm_of counter = (counter_alarm.ghosts, counter_alarm.dict)
alarm_of (divider phase) = (divider_alarm.ghosts, divider_alarm.dict)
alarm_of (ramp warm below) = (
  ramp_alarm.ghosts (type_of below) (alarm_of below).0 (alarm_of below).1,
  ramp_alarm.dict (type_of below) (alarm_of below).0 (alarm_of below).1,
)
alarm_of (top_up below) = (
  top_up_alarm.ghosts (type_of below) (alarm_of below).0 (alarm_of below).1,
  top_up_alarm.dict (type_of below) (alarm_of below).0 (alarm_of below).1,
)

abbrev pub ghosts_of : (pile : Pile) → Ghosts (State pile)
ghosts_of pile = (alarm_of pile).0

abbrev pub At : (pile : Pile) → State pile → Type 0
At counter x = Unit {0}
At (divider phase) x = x.phase ≡ phase
At (ramp warm below) x = (x.warm ≡ warm) × At below x.below
At (top_up below) x = At below x.below

-- the ticks from a phase to the last boundary within k
abbrev pub last_boundary : ℕ → ℕ → ℕ
last_boundary phase k = (k + phase) / period * period - phase

-- a ramp's wait, from that of the alarm below
abbrev pub ramp_wait : ℕ → ℕ → (ℕ → ℕ) → ℕ
ramp_wait warm n below = cond (nat_le n warm) 0 (warmed warm (below (n - warm)))

unfoldable pub wait_of : Pile → ℕ → ℕ
wait_of counter n = min n counter_reach
wait_of (divider phase) n = last_boundary phase (min n divider_reach)
wait_of (ramp warm below) n = ramp_wait warm n (wait_of below)
wait_of (top_up below) n = min n top_up_reach

abbrev pub Waits : Pile → ℕ → ℕ → Type 0
Waits pile n wait = (x y : State pile) (m : ℕ) → At pile x → SetTo (ghosts_of pile) x n m y → m ≡ wait

-- the run is the states after the set and after each pass; the pass from `run i` is the one after i others
abbrev pub RingsAt : Pile → ℕ → ℕ → Type 0
RingsAt pile n at =
    (x : State pile) (m : ℕ) (run : ℕ → State pile) → At pile x → SetTo (ghosts_of pile) x n m (run 0)
    → ((i : ℕ) → Passed (ghosts_of pile) (run i) (run (i + 1)))
    → (i : ℕ) → i < at → rings ((ghosts_of pile).meaning (run i)) ≡ (i + 1 == at)
