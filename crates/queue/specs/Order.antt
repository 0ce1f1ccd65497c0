-- The strict side of a total order, which a queue asks of its elements. Assumes nothing.
--   before R x y   x comes strictly before y by the comparison R, so that `before R y x ≡ false` says that x is at most y
use Rattle.std.specs.Prelude.{◌≡◌, Bool, true, false}
use Rattle.std.specs.declared.cmp.Ordering.{Ordering}
use Rattle.std.specs.Ordering.{is_lt}

abbrev pub before : {X : Type 0} → (X → X → Ordering) → X → X → Bool
before R x y = is_lt (R x y)

-- before is the strict side of a total order in which elements may be equal and yet not the same
pub record Ranked {X : Type 0} (before : X → X → Bool) : Type 0 where
  -- no two come before one another
  pub one_way : (x y : X) → before x y ≡ true → before y x ≡ false
  -- being at most carries on
  pub chain : (x y z : X) → before y x ≡ false → before z y ≡ false → before z x ≡ false

-- before is the strict side of a total order
pub record Linear {X : Type 0} (before : X → X → Bool) : Type 0 where
  -- no two come before one another
  pub one_way : (x y : X) → before x y ≡ true → before y x ≡ false
  -- being at most carries on
  pub chain : (x y z : X) → before y x ≡ false → before z y ≡ false → before z x ≡ false
  -- elements of which neither comes before the other are the same
  pub apart : (x y : X) → before x y ≡ false → before y x ≡ false → x ≡ y
