-- What is the smallest of the sleeps is what is computed as such.
use Rattle.std.proofs.Common.{◌≡◌, ◌≤◌, [], length, MatchOption, rules}
use Rattle.planner.specs.Plans.{planned, sleeps_of, Shortest}
use Rattle.planner.proofs.Plans.{shortest_told}
use Rattle.planner.proofs.plan.Plan.shortest.Goals as goal

pub returns-clause-value : goal.returns-clause-value
returns-clause-value c =
    let plan = c.args.self.now in
    let told : MatchOption c.min.result (planned plan ≡ []) (λ s. (1 ≤ length (planned plan)) × Shortest (sleeps_of plan) s) = search rules in
    shortest_told plan c.min.result told
