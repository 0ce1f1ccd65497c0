-- The row's job is closed, and then the board settles.
use Rattle.std.proofs.Common.{◌≡◌, ◌<◌, Some, sym, subst, refl, ap, ◌∙◌, arith}
use Rattle.rules.specs.declared.slots.Slot.{Slot}
use Rattle.rules.specs.Views.{job_at}
use Rattle.board.specs.Cores.{rows, Shuts}
use Rattle.board.proofs.Keeping.{shuts}
use Rattle.board.proofs.inner.Core.close.Goals as goal

pub returns-clause-answer : goal.returns-clause-answer
returns-clause-answer c =
    let s = c.args.self.now in
    let row = c.in_ok-known.known.row in
    let l : row < rows s = omega (arith, c.in_ok-known.ensures) in
    let job : c.slot.result.job ≡ Some c.in_ok-job.job = grind (arith, c.in_ok-job.ensures) in
    let e : job_at s.jobs.slots row ≡ Some c.in_ok-job.job = ap (λ (x : Slot). x.job) (sym c.slot.ensures) ∙ job in
    subst (λ r. Shuts s r c.settle.new.self) c.in_ok-known.ensures.0
    (shuts s _ _ row c.in_ok-job.job l e c.if-not-has_begun.ensures refl refl refl refl refl c.close.ensures c.settle.ensures.same c.settle.ensures.settled)
