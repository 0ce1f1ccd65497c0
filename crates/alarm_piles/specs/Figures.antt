-- A table of figures, told of the four kinds by the effects that their calls promise. Assumes nothing.
--   Waits     an alarm in such a state, set to so many, waits for so many: the effects allow no other wait
--   RingsAt   an alarm in such a state, set to so many, rings first at that pass
use Rattle.std.specs.Prelude.{◌≡◌, ℕ, ◌+◌, ◌<◌, ◌==◌}
use Rattle.alarm.specs.declared.base.Alarm.{Ghosts}
use Rattle.alarm.specs.declared.counter.Counter.{Counter}
use Rattle.alarm.specs.declared.divider.Divider.{Divider}
use Rattle.alarm.specs.declared.ramp.Ramp.{Ramp}
use Rattle.alarm.specs.declared.topup.TopUp.{TopUp}
use Rattle.alarm.specs.contracts.counter.Counter as the_counter
use Rattle.alarm.specs.contracts.counter.CounterAlarm.TheImpl as counter
use Rattle.alarm.specs.contracts.divider.Divider as the_divider
use Rattle.alarm.specs.contracts.divider.DividerAlarm.TheImpl as divider
use Rattle.alarm.specs.contracts.ramp.RampAlarm.TheImpl as ramp
use Rattle.alarm.specs.contracts.topup.TopUpAlarm.TheImpl as topup
use Rattle.alarm.specs.Effects.{SetTo, Passed}
use Rattle.alarm.specs.Meaning.{rings}

abbrev pub Waits : {S : Type 0} → Ghosts S → (S → Type 0) → ℕ → ℕ → Type 0
Waits {S} alarm At n wait = (x y : S) (m : ℕ) → At x → SetTo alarm x n m y → m ≡ wait

-- the run is the states after the set and after each pass; the pass from `run i` is the one after i others
abbrev pub RingsAt : {S : Type 0} → Ghosts S → (S → Type 0) → ℕ → ℕ → Type 0
RingsAt {S} alarm At n at =
    (x : S) (m : ℕ) (run : ℕ → S) → At x → SetTo alarm x n m (run 0) → ((i : ℕ) → Passed alarm (run i) (run (i + 1)))
    → (i : ℕ) → i < at → rings (alarm.meaning (run i)) ≡ (i + 1 == at)

abbrev pub ramp_over_counter : Ghosts (Ramp Counter)
ramp_over_counter = ramp.ghosts the_counter.the_row counter.ghosts counter.dict

abbrev pub ramp_over_divider : Ghosts (Ramp Divider)
ramp_over_divider = ramp.ghosts the_divider.the_row divider.ghosts divider.dict

abbrev pub top_up_over_divider : Ghosts (TopUp Divider)
top_up_over_divider = topup.ghosts the_divider.the_row divider.ghosts divider.dict

pub record Figures : Type 0 where
  pub counter_set_70 : Waits counter.ghosts (λ _. Unit {0}) 70 70
  pub counter_set_100000 : Waits counter.ghosts (λ _. Unit {0}) 100000 65535
  pub divider_at_5_set_70 : Waits divider.ghosts (λ x. x.phase ≡ 5) 70 59
  pub divider_at_5_set_10000 : Waits divider.ghosts (λ x. x.phase ≡ 5) 10000 8155
  pub divider_at_0_set_31 : Waits divider.ghosts (λ x. x.phase ≡ 0) 31 0
  pub ramp_of_10_set_10 : Waits ramp_over_counter (λ x. x.warm ≡ 10) 10 0
  pub ramp_of_10_set_11 : Waits ramp_over_counter (λ x. x.warm ≡ 10) 11 11
  pub ramp_of_10_set_70 : Waits ramp_over_counter (λ x. x.warm ≡ 10) 70 70
  pub ramp_of_10_over_divider_at_5_set_80 : Waits ramp_over_divider (λ x. (x.warm ≡ 10) × (x.below.phase ≡ 5)) 80 69
  pub top_up_set_70 : RingsAt top_up_over_divider (λ x. x.below.phase ≡ 5) 70 70
