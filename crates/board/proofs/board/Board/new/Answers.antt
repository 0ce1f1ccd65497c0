-- The promises are proved of every run of the rules, in the crate of the rules; a plan's type has what they ask of it.
use Rattle.board.proofs.Acts.{same_rules}
use Rattle.board.proofs.Making.{new_view, promised}
use Rattle.board.proofs.board.Board.new.Goals as goal

pub returns-clause-promise : goal.returns-clause-promise
returns-clause-promise g c =
    let p = c.args.plan in
    let k = c.clear.ensures in
    let v = new_view p c.new.result (g.T.Alarm.meaning c.clear.new.self) c.new.ensures k.left in
    let r = same_rules c.new.result.plan p (g.T.Alarm.reach c.clear.new.self) (g.T.Alarm.reach c.args.alarm)
    (g.T.Alarm.grain c.clear.new.self) (g.T.Alarm.grain c.args.alarm) c.new.ensures.plan k.reach k.grain in
    promised p _ _ _ _ v r
