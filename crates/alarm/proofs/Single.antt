-- A divider has one wait to choose. The quotient q of k + p by the period counts the boundaries up to k: the wait is no
-- smaller than the q-th, by being the largest, and no larger, since the next lies past k; without any it is 0.
use Rattle.std.proofs.Common.{◌≡◌, ℕ, zero, suc, ◌+◌, ◌-◌, ◌*◌, ◌/◌, ◌<◌, ◌≤◌, min, refl, ⊎_elim, arith}
use Rattle.alarm.specs.declared.divider.Divider.{Divider}
use Rattle.alarm.specs.contracts.divider.DividerAlarm.TheImpl as divider_alarm
use Rattle.alarm.specs.Boundaries.{Nearest, period, divider_reach}
use Rattle.alarm.specs.Effects.{SetTo}

by_quotient : (p k m q : ℕ) → p < period → k ≤ divider_reach → q ≡ (k + p) / period → Nearest p k m → m ≡ q * period - p
by_quotient p k m zero hp hk e near = ⊎_elim (λ none. omega arith) (λ some. omega (arith, near.within)) near.one
by_quotient p k m (suc r) hp hk e near =
    let most = near.largest r (omega arith) (omega arith) in
    ⊎_elim (λ none. omega arith) (λ some. omega (arith, near.within)) near.one

pub nearest_is_one : (p k m : ℕ) → p < period → k ≤ divider_reach → Nearest p k m → m ≡ (k + p) / period * period - p
nearest_is_one p k m hp hk near = by_quotient p k m ((k + p) / period) hp hk refl near

pub divider_chooses : (x y : Divider) (n m : ℕ) → SetTo divider_alarm.ghosts x n m y
    → m ≡ (min n divider_reach + x.phase) / period * period - x.phase
divider_chooses x y n m s = nearest_is_one x.phase (min n divider_reach) m x.turning (omega arith) s.5.0
