-- Of no tasks there is nothing to show.
use Rattle.std.proofs.Common.{length, replicate, take, sym, refl, subst, arith}
use Rattle.table.specs.Drafts.{common_so_far}
use Rattle.planner.specs.Demand.{need, load, sum_to, Loads, Accepted}
use Rattle.planner.specs.Sleeps.{Rested, Tight}
use Rattle.planner.proofs.plan.Plan.empty.Goals as goal

pub invariant_of-result : goal.invariant_of-result
unfolding need load sum_to
invariant_of-result c =
    let rows = c.new.result in
    let h = common_so_far rows in
    let none = sym c.new.ensures.tasks in
    record {
      sizes = refl;
      loads = subst (λ tasks. Loads tasks h 0) none refl;
      room = omega arith;
      accepted = subst Accepted none (λ t l. omega arith);
      rested = subst (λ tasks. Rested tasks (take (length tasks) (replicate 64 0))) none (λ row t l d. absurd (omega arith));
      tight = subst (λ tasks. Tight tasks h (take (length tasks) (replicate 64 0))) none (λ row l. absurd (omega arith));
    }
