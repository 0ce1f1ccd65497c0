-- The order of demand points: by time, and by row at one time. Assumes nothing.
--   by_time   how two points compare
--   sooner    the first of two points comes strictly before the second
use Rattle.std.specs.Prelude.{Bool}
use Rattle.std.specs.Ordering.{nat_cmp, on, then_cmp}
use Rattle.std.specs.declared.cmp.Ordering.{Ordering}
use Rattle.queue.specs.Order.{before}
use Rattle.planner.specs.declared.point.Point.{Point}

abbrev pub by_time : Point → Point → Ordering
by_time = then_cmp (on (λ p. p.time) nat_cmp) (on (λ p. p.row) nat_cmp)

abbrev pub sooner : Point → Point → Bool
sooner = before by_time
