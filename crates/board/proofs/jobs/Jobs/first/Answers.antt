-- The first of the queue is that of the chosen job; an empty queue is that of no open job.
use Rattle.std.proofs.Common.{◌≡◌, None, MatchOption, rules, arith}
use Rattle.std.specs.Option.{IsSomeAnd}
use Rattle.board.specs.declared.turn.Turn.{Turn}
use Rattle.board.proofs.Queueing.{foremost_row}
use Rattle.board.proofs.jobs.Jobs.first.Goals as goal

pub returns : goal.returns
returns c =
    let s = c.args.self.now in
    let row : MatchOption c.peek.result (c.map.result ≡ None) (λ (x : Turn). IsSomeAnd c.map.result (λ i. i ≡ x.row)) = search rules in
    foremost_row s.slots s.turns s.held c.peek.result c.map.result s.queued (omega arith, s.ordered) c.peek.ensures row
