-- Each call adds a step, and its record to the answers.
use Rattle.std.proofs.Common.{length}
use Rattle.board_c.proofs.Writing.{within, at_end, answering_more, answered}
use Rattle.board_c.proofs.answer_all.Goals as goal

pub loop-i-preserved : goal.loop-i-preserved
loop-i-preserved g c =
    answering_more g.T.Alarm c.new-board.result c.loop-i.board c.act.new.self c.loop-i.i c.args.calls.now c.args.answers.now c.loop-i.answers c.decode.result c.act.result c.from.result
    c.loop-i-test.true (within c.loop-i.i (length c.args.calls.now) (length c.args.answers.now) (length c.loop-i.answers) c.loop-i-test.true c.requires c.loop-i.auto.answers)
    c.loop-i.invariant c.decode.ensures c.act.ensures.does c.from.ensures

pub returns : goal.returns
returns g c =
    let n = c.new-board.ensures in
    answered g.T.Alarm c.args.plan c.args.alarm c.new-board.result c.loop-i.board c.loop-i.i c.args.calls.now c.args.answers.now c.loop-i.answers
    (record { view = n.fresh; rules = n.rules; cleared = n.cleared }) n.promise (at_end c.loop-i.i (length c.args.calls.now) c.loop-i-test.false c.loop-i.auto.i-end) c.loop-i.invariant
