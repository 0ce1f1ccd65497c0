-- Each arm is one step of the rules: proofs/Acts.antt has the lemma of each.
use Rattle.std.proofs.Common.{sym, refl}
use Rattle.board.proofs.Keeping.{rung}
use Rattle.board.proofs.Acts.{turned_away, opened_asleep, opened_awake, dozed, served, shut, told_of}
use Rattle.board.proofs.board.Board.act.Goals as goal

pub returns-in_err-sleep-in-Release-Asleep-clause-does : goal.returns-in_err-sleep-in-Release-Asleep-clause-does
returns-in_err-sleep-in-Release-Asleep-clause-does g c =
    let e = c.in_err-sleep-in-Release-Asleep.ensures in
    turned_away g.T.Alarm c.args.self.now _ _ _ _ _ c.in-Release-Asleep.is-0 c.from_residual.ensures.1 e.answer e.refused

pub returns-in_err-open-in-Release-Awake-clause-does : goal.returns-in_err-open-in-Release-Awake-clause-does
returns-in_err-open-in-Release-Awake-clause-does g c =
    let e = c.in_err-open-in-Release-Awake.ensures in
    turned_away g.T.Alarm c.args.self.now _ _ _ _ _ c.in-Release-Awake.is-0 c.from_residual-in_err-open-in-Release-Awake.ensures.1 e.answer e.refused

pub returns-in_err-doze-in-Tick-Asleep-clause-does : goal.returns-in_err-doze-in-Tick-Asleep-clause-does
returns-in_err-doze-in-Tick-Asleep-clause-does g c =
    let e = c.in_err-doze-in-Tick-Asleep.ensures in
    turned_away g.T.Alarm c.args.self.now _ _ _ _ _ c.in-Tick-Asleep.is-0 c.from_residual-in_err-doze-in-Tick-Asleep.ensures.1 e.answer e.refused

pub returns-in_err-who-in-Tick-Awake-clause-does : goal.returns-in_err-who-in-Tick-Awake-clause-does
returns-in_err-who-in-Tick-Awake-clause-does g c =
    let e = c.in_err-who-in-Tick-Awake.ensures in
    turned_away g.T.Alarm c.args.self.now _ _ _ _ _ c.in-Tick-Awake.is-0 c.from_residual-in_err-who-in-Tick-Awake.ensures.1 e.answer e.refused

pub returns-in_err-close-in-Done-default-clause-does : goal.returns-in_err-close-in-Done-default-clause-does
returns-in_err-close-in-Done-default-clause-does g c =
    let e = c.in_err-close-in-Done-default.ensures in
    turned_away g.T.Alarm c.args.self.now _ _ _ _ _ c.in-Done-default.is-0 c.from_residual-in_err-close-in-Done-default.ensures.1 e.answer e.refused

pub returns-in_err-status-in-Report-default-clause-does : goal.returns-in_err-status-in-Report-default-clause-does
returns-in_err-status-in-Report-default-clause-does g c =
    turned_away g.T.Alarm c.args.self.now _ _ _ _ c.args.self.now.core c.in-Report-default.is-0 c.from_residual-in_err-status-in-Report-default.ensures.1
    c.in_err-status-in-Report-default.ensures refl

pub returns-in_ok-sleep-in-Release-Asleep-clause-does : goal.returns-in_ok-sleep-in-Release-Asleep-clause-does
returns-in_ok-sleep-in-Release-Asleep-clause-does g c =
    opened_asleep g.T.Alarm c.args.self.now _ _ _ c.open.new.self _ c.in-Release-Asleep.is-0 (sym c.in-Release-Asleep.ensures)
    c.in_ok-sleep-in-Release-Asleep.ensures.answer c.arm.ensures

pub returns-in_ok-open-in-Release-Awake-clause-does : goal.returns-in_ok-open-in-Release-Awake-clause-does
returns-in_ok-open-in-Release-Awake-clause-does g c =
    opened_awake g.T.Alarm c.args.self.now _ _ _ c.open-in-Release-Awake.new.self c.in-Release-Awake.is-0 (sym c.in-Release-Awake.ensures)
    c.in_ok-open-in-Release-Awake.ensures.answer

pub returns-in_ok-doze-in-Tick-Asleep-clause-does : goal.returns-in_ok-doze-in-Tick-Asleep-clause-does
returns-in_ok-doze-in-Tick-Asleep-clause-does g c =
    let p = c.pass-rang.ensures in
    let z = rung c.pass-rang.result c.args.self.now.core c.doze.new.self c.ring.new.self c.in_ok-doze-in-Tick-Asleep.ensures.answer
    c.ring.ensures.same c.ring.ensures.mode in
    dozed g.T.Alarm c.args.self.now _ _ _ c.pass-rang.new.self c.in-Tick-Asleep.is-0 (sym c.in-Tick-Asleep.ensures) p.rings (p.left, p.reach, p.grain, p.passes) z

pub returns-in_ok-who-in-Tick-Awake-clause-does : goal.returns-in_ok-who-in-Tick-Awake-clause-does
returns-in_ok-who-in-Tick-Awake-clause-does g c =
    let p = c.pass-rang-in-Tick-Awake.ensures in
    let k = c.calm.ensures in
    served g.T.Alarm c.args.self.now _ _ _ c.serve.new.self c.pass-rang-in-Tick-Awake.new.self c.calm.new.self c.in-Tick-Awake.is-0 (sym c.in-Tick-Awake.ensures)
    p.rings (p.left, p.reach, p.grain, p.passes) c.in_ok-who-in-Tick-Awake.ensures.answer k.core k.calmed k.rules

pub returns-in_ok-close-in-Done-default-clause-does : goal.returns-in_ok-close-in-Done-default-clause-does
returns-in_ok-close-in-Done-default-clause-does g c =
    let k = c.calm-in-Done-default.ensures in
    shut g.T.Alarm c.args.self.now _ _ c.close.new.self c.calm-in-Done-default.new.self c.in-Done-default.is-0 c.in_ok-close-in-Done-default.ensures.answer
    k.core k.calmed k.rules

pub returns-in_ok-status-in-Report-default-clause-does : goal.returns-in_ok-status-in-Report-default-clause-does
returns-in_ok-status-in-Report-default-clause-does g c =
    told_of g.T.Alarm c.args.self.now _ _ _ c.in-Report-default.is-0 c.in_ok-status-in-Report-default.ensures
