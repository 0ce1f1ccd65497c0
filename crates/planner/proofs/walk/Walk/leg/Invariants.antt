use Rattle.std.proofs.Common.{◌≡◌, ◌-◌, ◌≤◌}
use Rattle.planner.proofs.Legs.{SoFar}
use Rattle.planner.proofs.walk.Walk.leg.Given as goal

abbrev pub invariant-loop-self : goal.invariant-loop-self
invariant-loop-self l =
    (l.self.tasks.now ≡ l.initial.self.tasks.now) × (l.self.at ≤ l.until)
    × SoFar l.self.tasks.now l.initial.self.at l.until l.self.at l.least

abbrev pub decreases-loop-self : goal.decreases-loop-self
decreases-loop-self l = l.until - l.self.at
