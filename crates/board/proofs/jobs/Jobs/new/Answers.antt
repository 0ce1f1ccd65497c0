-- No turn is held, and no job is open.
use Rattle.std.proofs.Common.{◌≡◌, replicate, [], sym, subst, refl, arith, rules}
use Rattle.rules.specs.declared.slots.Slot.{Slot}
use Rattle.rules.specs.Views.{empty}
use Rattle.board.specs.Turns.{Queued}
use Rattle.board.proofs.Ordered.{turns_linear}
use Rattle.board.proofs.Queueing.{queued_fresh}
use Rattle.board.proofs.jobs.Jobs.new.Goals as goal

pub invariant_of-result : goal.invariant_of-result
invariant_of-result c =
    let blank : c.default.result ≡ empty = search rules in
    record {
      size = refl;
      places = refl;
      within = omega arith;
      ordered = (λ k d l. absurd (omega arith));
      queued = subst (λ (slot : Slot). Queued (replicate 64 slot) []) (sym blank) queued_fresh;
    }

pub returns-clause-order : goal.returns-clause-order
returns-clause-order c = turns_linear
