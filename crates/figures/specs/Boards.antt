-- What the alarm of a board over a counter has left. Assumes nothing.
use Rattle.std.specs.Prelude.{ℕ, Option}
use Rattle.alarm.specs.declared.counter.Counter.{Counter}
use Rattle.alarm.specs.contracts.counter.CounterAlarm.TheImpl as counter_alarm
use Rattle.board.specs.declared.board.Board.{Board}
use Rattle.board.specs.Boards.{view_of}

abbrev pub left_on : Board Counter → Option ℕ
left_on b = (view_of counter_alarm.ghosts b).alarm
