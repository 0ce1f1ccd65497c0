-- The smallest margin so far on a leg of the walk. The need stays as it is from one point to the next, while the window
-- grows; so of the windows between two points the first has the smallest margin, and only the points need to be looked at.
use Rattle.std.proofs.Common.{◌≡◌, ℕ, ◌+◌, ◌-◌, ◌<◌, ◌≤◌, min, ◌⊎◌, List, inl, inr, arith}
use Rattle.std.proofs.lemmas.Bool.{cases_lt, cases_eq}
use Rattle.table.specs.declared.task.Task.{Task}
use Rattle.planner.specs.Demand.{need}
use Rattle.planner.specs.Standing.{horizon}

-- the smallest margin before any window was seen: the largest number of 32 bits
abbrev pub unseen : ℕ
unseen = 4294967295

-- what a leg from `from` knows before `at`
pub record SoFar (tasks : List Task) (from until at least : ℕ) : Type 0 where
  pub start : from ≤ at
  pub fresh : at ≡ from → least ≡ unseen
  pub below : (t : ℕ) → from ≤ t → t < min at until → least + need tasks t ≤ t
  pub met : from < at → (t : ℕ) × (from ≤ t) × (t < until) × (least + need tasks t ≡ t)

pub so_far_more : (tasks : List Task) (from until at next least total : ℕ) → SoFar tasks from until at least → at < until → until ≤ horizon
    → at < next → total ≤ at → ((t : ℕ) → at ≤ t → t < next → need tasks t ≡ total)
    → SoFar tasks from until next (min least (at - total))
so_far_more tasks from until at next least total s u b n h steady =
    record {
      start = omega (arith, s.start);
      fresh = λ e. absurd (omega (arith, s.start));
      below = λ t a c. low t a c (cases_lt t at);
      met = λ _. tight (cases_lt least (at - total)) (cases_eq at from);
    }
  where
    low : (t : ℕ) → from ≤ t → t < min next until → (t < at) ⊎ (at ≤ t) → min least (at - total) + need tasks t ≤ t
    low t a c (inl l) = omega (arith, s.below t a (omega arith))
    low t a c (inr l) = omega (arith, steady t l (omega arith))

    tight : (least < at - total) ⊎ (at - total ≤ least) → (at ≡ from) ⊎ (at ≡ from → ⊥)
        → (t : ℕ) × (from ≤ t) × (t < until) × (min least (at - total) + need tasks t ≡ t)
    tight (inr l) _ = (at, s.start, u, omega (arith, steady at (omega arith) n))
    tight (inl l) (inl e) = absurd (omega (arith, s.fresh e))
    tight (inl l) (inr e) =
        let m = s.met (omega (arith, s.start, e)) in
        (m.0, m.1, m.2, omega (arith, m.3))
