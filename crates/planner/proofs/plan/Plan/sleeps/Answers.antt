use Rattle.planner.proofs.Plans.{plan_sleeps}
use Rattle.planner.proofs.plan.Plan.sleeps.Goals as goal

pub returns-clause-each : goal.returns-clause-each
returns-clause-each c = rw c.count.ensures.tasks (plan_sleeps c.args.self.now)
