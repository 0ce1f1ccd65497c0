-- Each point where the walk stands gives way to its row's next, which lies past it, so that fewer are left; then the total
-- is the need, and the walk stands a tick on.
use Rattle.std.proofs.Common.{◌≡◌, ◌+◌, ◌*◌, ◌≤◌, length, get_or, take, mul-le-mul_right, arith}
use Rattle.std.specs.List.{AllByRecursion}
use Rattle.std.proofs.ByRecursion.{All-weaker}
use Rattle.std.proofs.lemmas.List.{length-take}
use Rattle.planner.specs.Demand.{need}
use Rattle.planner.specs.declared.point.Point.{Point}
use Rattle.planner.specs.declared.walk.Walk.{Walk}
use Rattle.planner.proofs.Steps.{first_waits, taken, asked_small, need_before, stands_later, all_later}
use Rattle.planner.proofs.walk.Walk.take_all.Goals as goal

-- once no point is left where the walk stands
past : (walk : Walk) (first : Point) → first ≡ get_or walk.points 0 first → (first.time ≡ walk.at → ⊥)
    → AllByRecursion (λ p. first.time ≤ p.time) (take (length walk.tasks.now) walk.points)
    → AllByRecursion (λ p. walk.at + 1 ≤ p.time) (take (length walk.tasks.now) walk.points)
past walk first value gone least =
    let w = first_waits walk.tasks.now walk.points walk.at walk.total first walk.readable.some walk.stands value in
    all_later _ _ _ (omega (arith, w.ahead, gone)) least

pub overflow_add-self : goal.overflow_add-self
overflow_add-self c =
    let walk = c.loop-first.self in
    let tasks = walk.tasks.now in
    let n = length tasks in
    let first = c.loop-first.first in
    let ok = walk.readable in
    let w = first_waits tasks walk.points walk.at walk.total first ok.some walk.stands c.loop-first.invariant.2 in
    let small = asked_small tasks (take n walk.points) walk.at walk.total ok.whole ok.bounded walk.stands.standing in
    let few : length (take n walk.points) ≤ 64 = omega (arith, length-take n walk.points, ok.few) in
    let big : length (take n walk.points) * (walk.at + 100000) ≤ 64 * (walk.at + 100000) = mul-le-mul_right _ few in
    omega (arith, small, big, c.loop-first.invariant.1, ok.whole first.row w.inside, ok.bounded first.row w.inside)

pub invariant_of-self : goal.invariant_of-self
invariant_of-self c =
    let walk = c.loop-first.self in
    let ok = walk.readable in
    record {
      readable = ok;
      stands = (taken walk.tasks.now walk.points c.replace_first.new.heap walk.at walk.total c.loop-first.first _
          ok.some ok.whole walk.stands c.loop-first.invariant.2 c.loop-first-test.true (rw c.unwrap.ensures at c.replace_first.ensures)).stands;
    }

pub loop-first-smaller : goal.loop-first-smaller
loop-first-smaller c =
    let walk = c.loop-first.self in
    let ok = walk.readable in
    (taken walk.tasks.now walk.points c.replace_first.new.heap walk.at walk.total c.loop-first.first _
    ok.some ok.whole walk.stands c.loop-first.invariant.2 c.loop-first-test.true (rw c.unwrap.ensures at c.replace_first.ensures)).less

pub invariant_of-self-2 : goal.invariant_of-self-2
invariant_of-self-2 c =
    let walk = c.loop-first.self in
    let after = past walk c.loop-first.first c.loop-first.invariant.2 c.loop-first-test.false c.loop-first.invariant.3 in
    record {
      readable = walk.readable;
      stands = record { queue = walk.stands.queue; standing = stands_later walk.tasks.now _ walk.at (walk.at + 1) walk.total (omega arith) walk.stands.standing after };
    }

pub returns-clause-value : goal.returns-clause-value
returns-clause-value c =
    let walk = c.loop-first.self in
    let after = past walk c.loop-first.first c.loop-first.invariant.2 c.loop-first-test.false c.loop-first.invariant.3 in
    let met : need walk.tasks.now walk.at ≡ walk.total =
    need_before walk.tasks.now _ walk.at walk.total walk.at walk.stands.standing (omega arith) (All-weaker _ _ (λ p h. omega arith) _ after) in
    cc
