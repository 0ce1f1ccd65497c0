-- The answer is the core's, and nothing moves.
use Rattle.board.proofs.Acts.{reports_any}
use Rattle.board.proofs.board.Board.report.Goals as goal

pub returns : goal.returns
returns g c = reports_any g.T.Alarm c.args.self.now c.args.row c.status.result c.status.ensures
