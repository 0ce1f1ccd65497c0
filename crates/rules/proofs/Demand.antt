-- A release moves one run of its row's demand into a job, and leaves the demand of a window that is a gap shorter.
use Rattle.std.proofs.Common.{◌≡◌, ℕ, ◌+◌, ◌-◌, ◌*◌, ◌/◌, ◌<◌, ◌≤◌, cond, leb, ◌⊎◌, ap, inl, inr, arith}
use native.Mathlib.Nat.{div-eq_of_lt, div-eq-sub-div}
use Rattle.std.proofs.lemmas.Bool.{cases_lt, cond-true, cond-false, le-leb, lt-leb}
use Rattle.table.specs.declared.task.Task.{Task}
use Rattle.table.specs.Tasks.{Whole}
use Rattle.planner.proofs.Demand.{demand_none, demand_some}
use Rattle.planner.specs.Demand.{demand}

-- one release: a run for the job, and the rest a gap later
pub demand_release : (r : Task) (x : ℕ) → Whole r → demand r x ≡ cond (leb r.due x) r.run 0 + demand r (x - r.gap)
demand_release r x w = go (cases_lt x r.due)
  where
    go : (x < r.due) ⊎ (r.due ≤ x) → demand r x ≡ cond (leb r.due x) r.run 0 + demand r (x - r.gap)
    go (inl l) =
        omega (
          arith,
          demand_none r x l,
          demand_none r (x - r.gap) (omega arith),
          cond-false (leb r.due x) r.run 0 (lt-leb r.due x l),
        )
    go (inr l) = split (cases_lt (x - r.gap) r.due)
      where
        job : cond (leb r.due x) r.run 0 ≡ r.run
        job = cond-true (leb r.due x) r.run 0 (le-leb r.due x l)

        split : (x - r.gap < r.due) ⊎ (r.due ≤ x - r.gap)
            → demand r x ≡ cond (leb r.due x) r.run 0 + demand r (x - r.gap)
        split (inl k) =
            let q : (x - r.due) / r.gap ≡ 0 = div-eq_of_lt (omega arith) in
            let m : r.run * (1 + (x - r.due) / r.gap) ≡ r.run * 1 = ap (λ n. r.run * (1 + n)) q in
            omega (arith, demand_some r x l, demand_none r (x - r.gap) k, job, m)
        split (inr k) =
            let q : (x - r.due) / r.gap ≡ (x - r.due - r.gap) / r.gap + 1 = div-eq-sub-div (omega arith) (omega arith) in
            let s : x - r.due - r.gap ≡ x - r.gap - r.due = omega arith in
            let q' : (x - r.due) / r.gap ≡ (x - r.gap - r.due) / r.gap + 1 = rw (← s) q in
            let m : r.run * (1 + (x - r.due) / r.gap) ≡ r.run * (1 + ((x - r.gap - r.due) / r.gap + 1)) =
            ap (λ n. r.run * (1 + n)) q' in
            omega (arith, demand_some r x l, demand_some r (x - r.gap) k, job, m)
