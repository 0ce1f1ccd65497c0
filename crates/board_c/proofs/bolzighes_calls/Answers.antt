-- Each of the three alarms is new.
use Rattle.std.proofs.Common.{◌∙◌, inl, inr}
use Rattle.alarm.specs.contracts.counter.CounterAlarm.TheImpl as counter
use Rattle.alarm.specs.contracts.divider.Divider as the_divider
use Rattle.alarm.specs.contracts.divider.DividerAlarm.TheImpl as divider
use Rattle.alarm.specs.contracts.topup.TopUpAlarm.TheImpl as topup
use Rattle.board_c.proofs.bolzighes_calls.Goals as goal

pub returns-in-0 : goal.returns-in-0
returns-in-0 c =
    inr (record {
      places = c.if-answers-calls.false;
      plan = c.fill.new.self;
      filled = c.in-Ok.ensures;
      piled = inl (c.in-0.is, (c.new.result, rw c.number.ensures (c.answer_over.ensures counter.dict)));
    })

pub returns-in-1 : goal.returns-in-1
returns-in-1 c =
    inr (record {
      places = c.if-answers-calls.false;
      plan = c.fill.new.self;
      filled = c.in-Ok.ensures;
      piled = inr (inl (c.in-1.is, (c.new-in-1.result, c.new-in-1.ensures.phase, rw c.number-in-1.ensures (c.answer_over-in-1.ensures divider.dict))));
    })

pub returns-in-2 : goal.returns-in-2
returns-in-2 c =
    inr (record {
      places = c.if-answers-calls.false;
      plan = c.fill.new.self;
      filled = c.in-Ok.ensures;
      piled = inr (inr (c.in-2.is, (c.new-in-2-2.result, c.new-in-2-2.ensures.below.3 ∙ c.new-in-2.ensures.phase, rw c.number-in-2.ensures (c.answer_over-in-2.ensures (topup.dict the_divider.the_row divider.ghosts divider.dict)))));
    })
