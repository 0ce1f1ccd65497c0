-- No row was released yet.
use Rattle.std.proofs.Common.{length, refl, arith}
use Rattle.planner.specs.Plans.{planned}
use Rattle.planner.proofs.Plans.{few}
use Rattle.board.proofs.Keeping.{past_fresh, below_fresh, front_fresh}
use Rattle.board.proofs.inner.Core.new.Goals as goal

pub invariant_of-result : goal.invariant_of-result
invariant_of-result c =
    record {
      clock = omega arith;
      given = omega arith;
      rest = omega arith;
      past = past_fresh c.new.result.slots c.new.ensures.slots;
      listed = below_fresh _ c.new.result.slots c.new.ensures.slots;
    }

pub returns : goal.returns
returns c =
    let p = c.args.plan in
    record {
      plan = refl;
      now = refl;
      ran = refl;
      slept = refl;
      mode = refl;
      slots = front_fresh (length (planned p)) c.new.result.slots (omega (arith, few p)) c.new.ensures.slots;
    }
