-- Demand points go by a linear order: two of which neither comes first are the same.
use Rattle.std.proofs.Common.{◌≡◌, rules}
use Rattle.std.specs.declared.cmp.Ordering.TheVariants.{Equal}
use Rattle.std.specs.Cmp.{IsTotalOrder}
use Rattle.std.specs.Cmp.Rules.{comparing}
use Rattle.queue.specs.Order.{Linear}
use Rattle.queue.proofs.Order.{linear}
use Rattle.planner.specs.declared.point.Point.{Point}
use Rattle.planner.specs.Points.{by_time, sooner}

total : IsTotalOrder by_time
total = search (comparing, rules)

alone : (x y : Point) → by_time x y ≡ Equal → x ≡ y
alone x y e = search (comparing, rules)

pub points_linear : Linear sooner
points_linear = linear by_time total alone
