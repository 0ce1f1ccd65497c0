-- From point to point the need stays, so the margin at each point is the smallest up to the next.
use Rattle.std.proofs.Common.{◌≡◌, ℕ, ◌+◌, ◌<◌, ◌≤◌, length, get_or, take, sym, ◌∙◌, subst, arith}
use Rattle.std.specs.List.{AllByRecursion}
use Rattle.planner.specs.Demand.{need}
use Rattle.planner.specs.Standing.{Stands}
use Rattle.planner.specs.declared.point.Point.{Point}
use Rattle.planner.specs.declared.walk.Walk.{Walk}
use Rattle.planner.proofs.Steps.{first_waits, stands_from, need_from}
use Rattle.planner.proofs.Legs.{SoFar, so_far_more}
use Rattle.planner.proofs.walk.Walk.leg.Goals as goal

-- the first point lies ahead of where the walk stands
ahead : (walk : Walk) (first : Point) → first ≡ get_or walk.points 0 first → walk.at ≤ first.time
ahead walk first value = (first_waits walk.tasks.now walk.points walk.at walk.total first walk.readable.some walk.stands value).ahead

-- between the tick before the walk's and its first point the need is what it was asked for
steady : (walk : Walk) (first : Point) (at : ℕ) → walk.at ≡ at + 1 → need walk.tasks.now at ≡ walk.total
    → AllByRecursion (λ p. first.time ≤ p.time) (take (length walk.tasks.now) walk.points)
    → (t : ℕ) → at ≤ t → t < first.time → need walk.tasks.now t ≡ walk.total
steady walk first at next value least =
    need_from walk.tasks.now walk.points at first.time walk.total
    (subst (λ now. Stands walk.tasks.now walk.points now walk.total) next walk.stands) value least

pub invariant_of-self : goal.invariant_of-self
invariant_of-self c =
    let walk = c.take_all.new.self in
    let first = c.first.result in
    let told = c.first.ensures in
    record {
      readable = walk.readable;
      stands = stands_from walk.tasks.now walk.points walk.at first.time c.min-self.result walk.total walk.stands told.least
          (omega (arith, ahead walk first told.value, c.take_all.ensures.next)) (omega arith);
    }

pub loop-self-preserved : goal.loop-self-preserved
loop-self-preserved c =
    let l = c.loop-self in
    let walk = c.take_all.new.self in
    let after = c.take_all.ensures in
    let at = l.self.at in
    let later = c.min-self.result in
    let told = c.first.ensures in
    let on : at < later = omega (arith, ahead walk c.first.result told.value, after.next) in
    let so_far : SoFar walk.tasks.now c.args.self.now.at c.args.until at l.least =
    subst (λ tasks. SoFar tasks c.args.self.now.at c.args.until at l.least) (sym after.tasks) l.invariant.2 in
    let value : need walk.tasks.now at ≡ walk.total = subst (λ tasks. need tasks at ≡ walk.total) (sym after.tasks) after.value in (
      after.tasks ∙ l.invariant.0,
      omega arith,
      subst (SoFar walk.tasks.now c.args.self.now.at c.args.until later) (sym c.min-least.ensures)
          (so_far_more walk.tasks.now c.args.self.now.at c.args.until at later l.least walk.total so_far (omega arith) (omega arith) on (omega arith)
          (λ t a b. steady walk c.first.result at after.next value told.least t a (omega arith))),
    )
