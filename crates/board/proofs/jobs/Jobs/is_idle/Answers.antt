-- As many turns are held as jobs are open.
use Rattle.std.proofs.Common.{◌≤◌, length, take, arith}
use Rattle.std.proofs.lemmas.List.{length-take-le}
use Rattle.board.proofs.Queueing.{idle_or_busy}
use Rattle.board.proofs.jobs.Jobs.is_idle.Goals as goal

pub returns : goal.returns
returns c =
    let s = c.args.self.now in
    let fits : s.held ≤ length s.turns = omega arith in
    idle_or_busy s.slots (take s.held s.turns) s.held s.queued (length-take-le s.held s.turns fits)
