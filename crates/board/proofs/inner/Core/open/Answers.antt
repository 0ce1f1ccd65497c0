-- One slot is written, that of a row of the plan.
use Rattle.std.proofs.Common.{◌≡◌, ◌+◌, set, refl, ap, ◌∙◌, subst, arith}
use Rattle.std.proofs.lemmas.Grind.{common_steps}
use Rattle.std.proofs.lemmas.Option.{gets}
use Rattle.table.specs.Tasks.{task_at}
use Rattle.planner.specs.Plans.{planned, sleeps_of}
use Rattle.planner.specs.Sleeps.{sleep_at}
use Rattle.rules.specs.Steps.{Apart}
use Rattle.rules.specs.Views.{slot_at, opened}
use Rattle.board.proofs.Keeping.{opens}
use Rattle.board.proofs.inner.Core.open.Goals as goal

pub returns-clause-answer : goal.returns-clause-answer
returns-clause-answer c =
    let s = c.args.self.now in
    let row = c.args.row in
    let same = c.in_ok-known.ensures.0 in
    let task : c.unwrap-task.result ≡ task_at (planned s.plan) row = grind (arith, common_steps, gets) in
    let sleep : c.unwrap-sleep.result ≡ sleep_at (sleeps_of s.plan) row = grind (arith, common_steps, gets) in
    let apart = subst (λ r. Apart (slot_at s.jobs.slots r).last c.unwrap-task.result.gap s.now) same c.if-not-is_apart.ensures in
    let slots = c.open.ensures
    ∙ (ap (λ r. set s.jobs.slots r (opened s.now (s.now + c.from.result))) same ∙ ap (λ due. set s.jobs.slots row (opened s.now (s.now + due))) c.from.ensures) in
    opens s _ row c.unwrap-sleep.result c.unwrap-task.result c.in_ok-known.ensures.1 task apart sleep refl refl refl refl refl slots
