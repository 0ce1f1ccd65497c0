use Rattle.std.proofs.Common.{◌≡◌, ◌+◌, ◌-◌, ◌≤◌, length, get_or, take, sum_by}
use Rattle.std.specs.List.{AllByRecursion}
use Rattle.planner.proofs.walk.Walk.take_all.Given as goal

abbrev pub invariant-loop-first : goal.invariant-loop-first
invariant-loop-first l =
    (l.self.tasks.now ≡ l.initial.self.tasks.now) × (l.self.at ≡ l.initial.self.at)
    × (l.first ≡ get_or l.self.points 0 l.first)
    × AllByRecursion (λ p. l.first.time ≤ p.time) (take (length l.self.tasks.now) l.self.points)

abbrev pub decreases-loop-first : goal.decreases-loop-first
decreases-loop-first l = sum_by (λ p. l.self.at + 1 - p.time) (take (length l.self.tasks.now) l.self.points)
