use Rattle.std.proofs.Common.{◌≡◌, ◌-◌, ap, ◌∙◌, arith, rules}
use Rattle.alarm.specs.Meaning.{waiting}
use Rattle.alarm_piles.specs.Figures.{top_up_over_divider}
use Rattle.alarm.proofs.Passing.{rings_after}
use Rattle.alarm.proofs.Single.{divider_chooses}
use Rattle.alarm_piles.proofs.figures.figures_hold.Goals as goal

pub returns : goal.returns
returns c = record {
  counter_set_70 = λ x y m at s. s.5.0;
  counter_set_100000 = λ x y m at s. s.5.0;
  divider_at_5_set_70 = λ x y m at s. omega (arith, divider_chooses x y 70 m s);
  divider_at_5_set_10000 = λ x y m at s. omega (arith, divider_chooses x y 10000 m s);
  divider_at_0_set_31 = λ x y m at s. omega (arith, divider_chooses x y 31 m s);
  ramp_of_10_set_10 = λ x y m at s. (s.5.2.0 (omega arith)).0;
  ramp_of_10_set_11 = λ x y m at s. let below = s.5.2.1 (omega arith) in search rules;
  ramp_of_10_set_70 = λ x y m at s. let below = s.5.2.1 (omega arith) in search rules;
  ramp_of_10_over_divider_at_5_set_80 = λ x y m at s.
      let below = s.5.2.1 (omega arith) in
      let chosen = divider_chooses x.below y.below (80 - x.warm) below.0 below.1.1 in
      let wait : below.0 ≡ 59 = omega arith in
      search rules;
  top_up_set_70 = λ x m run at s passes i h. rings_after top_up_over_divider run 70 (s.2 ∙ ap waiting s.5.0) passes i h;
}
