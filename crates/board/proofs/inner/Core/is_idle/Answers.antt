-- The slots past the plan's rows have no job.
use Rattle.std.proofs.Common.{length}
use Rattle.planner.specs.Plans.{planned}
use Rattle.board.proofs.Keeping.{idle_or_busy_front}
use Rattle.board.proofs.inner.Core.is_idle.Goals as goal

pub returns : goal.returns
returns c =
    let s = c.args.self.now in
    idle_or_busy_front (length (planned s.plan)) s.jobs.slots c.is_idle.result s.listed c.is_idle.ensures
