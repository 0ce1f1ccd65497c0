-- Each call adds a step, and its answer to the list.
use Rattle.std.proofs.Common.{vec_items}
use Rattle.std.proofs.lemmas.List.{take_more, take_all}
use Rattle.rules.specs.declared.calls.Call.TheVariants.{Release}
use Rattle.board.proofs.Making.{acting_more, replays}
use Rattle.board.proofs.replay.replay.Goals as goal

pub loop-call-preserved : goal.loop-call-preserved
loop-call-preserved g c =
    acting_more g.T.Alarm _ _ _ _ _ _ _ _ c.act.result c.loop-call.invariant c.act.ensures.does
    (take_more c.args.calls.now c.loop-call.call-index (Release 0) c.loop-call-test.true) c.in_ok-push.ensures.items

pub returns : goal.returns
returns g c =
    let n = c.new-board.ensures in
    let told =
    replays g.T.Alarm c.args.plan c.args.alarm c.new-board.result c.loop-call.board _ c.args.calls.now (vec_items c.loop-call.answers)
    (record { view = n.fresh; rules = n.rules; cleared = n.cleared }) n.promise
    (take_all c.loop-call.call-index c.args.calls.now c.loop-call-test.false) c.loop-call.invariant in
    record { promise = told.replayed; acts = told }
