-- The row has no job, so there is a place left, and its turn enters with its job.
use Rattle.std.proofs.Common.{ℕ, ◌<◌, ◌≤◌, length, take, Some, Ok, Err, Result, MatchResult, refl, ◌∙◌, arith}
use Rattle.std.specs.Result.{IsOk}
use Rattle.std.proofs.lemmas.List.{length-take-le, length-set}
use Rattle.std.proofs.lemmas.Result.{MatchResult-at_ok}
use Rattle.board.specs.declared.turn.Turn.{Turn}
use Rattle.board.proofs.Queueing.{place_left, queued_entered}
use Rattle.board.proofs.jobs.Jobs.enter.Goals as goal

-- a push that is refused was made to a full queue
pushes : (r : Result ℕ Turn) (P : ℕ → Type 0) (Q : Turn → Type 0) → MatchResult r P Q → ((x : Turn) → Q x → ⊥) → IsOk r
pushes (Ok n) P Q m f = refl
pushes (Err x) P Q m f = absurd (f x m)

pub unwrap-self-requires : goal.unwrap-self-requires
unwrap-self-requires c =
    let s = c.args.self.now in
    let fits : s.held ≤ length s.turns = omega arith in
    let l : c.args.known.row < length s.slots = omega arith in
    let left = place_left s.slots (take s.held s.turns) c.args.known.row s.queued l c.requires in
    let n = length-take-le s.held s.turns fits in
    pushes c.push.result _ _ c.push.ensures (λ x full. omega (arith, full.1))

pub invariant_of-self : goal.invariant_of-self
invariant_of-self c =
    let s = c.args.self.now in
    let row = c.args.known.row in
    let e = MatchResult-at_ok _ _ c.unwrap-self.result c.unwrap-self.ensures c.push.ensures in
    let l : row < length s.slots = omega arith in
    let q = e.queue (omega arith, s.ordered) in
    record {
      size = length-set s.slots row _ ∙ s.size;
      places = omega arith;
      within = omega (arith, q.0);
      ordered = q.1;
      queued = queued_entered s.slots (take s.held s.turns) _ row (record { last = Some c.args.at; job = Some (record { due = c.args.due; given = 0 }) }) (record { due = c.args.due; given = 0 }) l c.requires refl s.queued e.held;
    }
