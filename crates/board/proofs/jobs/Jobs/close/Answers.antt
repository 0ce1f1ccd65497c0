-- The row's job is open, so its turn is held, and leaves with it.
use Rattle.std.proofs.Common.{rules, ◌<◌, length, take, refl, ◌∙◌, inl, inr, arith}
use Rattle.std.proofs.lemmas.Bool.{some_since}
use Rattle.std.proofs.lemmas.List.{length-set}
use Rattle.std.proofs.lemmas.Option.{MatchOption-at_some}
use Rattle.rules.specs.Views.{slot_at, closed}
use Rattle.queue.specs.Queue.{Left}
use Rattle.board.specs.Turns.{sooner, turn_of}
use Rattle.board.proofs.Queueing.{open_held, queued_left}
use Rattle.board.proofs.jobs.Jobs.close.Goals as goal

pub unwrap-self-requires : goal.unwrap-self-requires
unwrap-self-requires c =
    let s = c.args.self.now in
    let row = c.args.known.row in
    let job = c.unwrap-due.result in
    let held = open_held s.slots (take s.held s.turns) row job s.queued c.unwrap-due.ensures in
    some_since c.remove.result _ _ (c.remove.ensures.exact (λ y same. search rules))
    (λ h. elim h.0 [
      | inl over ↦ omega (arith, over)
      | inr gone ↦ gone held
    ])

pub invariant_of-self : goal.invariant_of-self
invariant_of-self c =
    let s = c.args.self.now in
    let row = c.args.known.row in
    let job = c.unwrap-due.result in
    let e : Left sooner (turn_of row job) s.turns s.held c.remove.new.heap c.unwrap-self.result =
    MatchOption-at_some _ _ c.unwrap-self.result c.unwrap-self.ensures (c.remove.ensures.exact (λ y same. search rules)) in
    let l : row < length s.slots = omega arith in
    let q = e.queue (omega arith, s.ordered) in
    record {
      size = length-set s.slots row _ ∙ s.size;
      places = omega arith;
      within = omega (arith, e.less);
      ordered = q.1;
      queued = queued_left s.slots (take s.held s.turns) _ row (closed (slot_at s.slots row)) job l c.unwrap-due.ensures refl s.queued e.held;
    }
