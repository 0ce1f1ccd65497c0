-- The margins of the windows of a stretch, and the first window without room. Assumes nothing.
--   LeastMargin    the smallest margin of the windows from `from` on that are shorter than `until`
--   FirstFailure   the shortest window from `from` on that demands more ticks than it has
--   Overdemands    the refusal that names that window
--   Failing        some window demands more ticks than it has
use Rattle.std.specs.Prelude.{◌≡◌, ℕ, ◌+◌, ◌<◌, ◌≤◌, List}
use Rattle.refusal.specs.declared.cases.Refusal.{Refusal}
use Rattle.refusal.specs.declared.cases.Refusal.TheVariants.{Overdemand}
use Rattle.table.specs.declared.task.Task.{Task}
use Rattle.planner.specs.Demand.{need}

pub record LeastMargin (tasks : List Task) (from until margin : ℕ) : Type 0 where
  pub below : (t : ℕ) → from ≤ t → t < until → margin + need tasks t ≤ t
  pub met : (t : ℕ) × (from ≤ t) × (t < until) × (margin + need tasks t ≡ t)

pub record FirstFailure (tasks : List Task) (from t : ℕ) : Type 0 where
  pub after : from ≤ t
  pub fails : t < need tasks t
  pub before : (x : ℕ) → from ≤ x → x < t → need tasks x ≤ x

abbrev pub Overdemands : List Task → ℕ → Refusal → Type 0
Overdemands tasks from e = (t : ℕ) × FirstFailure tasks from t × (e ≡ Overdemand t)

abbrev pub Failing : List Task → Type 0
Failing tasks = (t : ℕ) × (1 ≤ t) × (t < need tasks t)
