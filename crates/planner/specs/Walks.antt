-- How a walk over a table's demand points goes on. Assumes nothing.
use Rattle.std.specs.Prelude.{◌≡◌, ℕ}
use Rattle.planner.specs.declared.walk.Walk.{Walk}

-- the walk `after` stands at `until`, over the same tasks; what it has taken by then is a fact of its type
pub record Onward (before : Walk) (until : ℕ) (after : Walk) : Type 0 where
  pub tasks : after.tasks.now ≡ before.tasks.now
  pub at : after.at ≡ until
