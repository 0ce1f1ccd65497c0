-- The demand of one row. It grows with the window, and never asks for more ticks than the window has, since a run is no
-- longer than its due and its gap.
use Rattle.std.proofs.Common.{◌≡◌, ℕ, ◌+◌, ◌-◌, ◌*◌, ◌/◌, ◌<◌, ◌≤◌, leb, ◌⊎◌, inl, inr, le_trans, mul_comm, mul-le-mul_left, le-div_iff_mul-le, mul-add, div-mul-le_self, arith}
use Rattle.std.proofs.lemmas.Bool.{cases_lt, cond-true, cond-false, le-leb, lt-leb}
use Rattle.table.specs.Tasks.{Whole}
use Rattle.planner.specs.Demand.{demand}
use Rattle.table.specs.declared.task.Task.{Task}

pub demand_none : (r : Task) (x : ℕ) → x < r.due → demand r x ≡ 0
unfolding demand
demand_none r x h = cond-false (leb r.due x) _ _ (lt-leb r.due x h)

pub demand_some : (r : Task) (x : ℕ) → r.due ≤ x → demand r x ≡ r.run * (1 + (x - r.due) / r.gap)
unfolding demand
demand_some r x h = cond-true (leb r.due x) _ _ (le-leb r.due x h)

pub div_mono : (x y k : ℕ) → 0 < k → x ≤ y → x / k ≤ y / k
div_mono x y k p h = (le-div_iff_mul-le p).1 (le_trans (div-mul-le_self x k) h)

pub demand_mono : (r : Task) (x y : ℕ) → Whole r → x ≤ y → demand r x ≤ demand r y
demand_mono r x y w h = go (cases_lt x r.due)
  where
    go : (x < r.due) ⊎ (r.due ≤ x) → demand r x ≤ demand r y
    go (inl l) = omega (arith, demand_none r x l)
    go (inr l) =
        let k : 1 + (x - r.due) / r.gap ≤ 1 + (y - r.due) / r.gap =
        omega (arith, div_mono (x - r.due) (y - r.due) r.gap (omega arith) (omega arith)) in
        omega (arith, demand_some r x l, demand_some r y (omega arith), mul-le-mul_left r.run k)

pub demand_le : (r : Task) (x : ℕ) → Whole r → demand r x ≤ x
demand_le r x w = go (cases_lt x r.due)
  where
    go : (x < r.due) ⊎ (r.due ≤ x) → demand r x ≤ x
    go (inl l) = omega (arith, demand_none r x l)
    go (inr l) =
        let q : ℕ = (x - r.due) / r.gap in
        let a : q * r.run ≤ q * r.gap = mul-le-mul_left q (omega arith) in
        let b : q * r.gap ≤ x - r.due = div-mul-le_self (x - r.due) r.gap in
        omega (arith, demand_some r x l, mul_comm r.run (1 + q), mul_comm q r.run, mul-add r.run 1 q)
