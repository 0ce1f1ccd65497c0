-- The calls made so far lead from the new board to this one.
use Rattle.std.proofs.Common.{take, vec_items}
use Rattle.board.proofs.Making.{Acting}
use Rattle.board.proofs.replay.replay.Given as goal

abbrev pub invariant-loop-call : goal.invariant-loop-call
invariant-loop-call g l = Acting g.T.Alarm l.initial.board (take l.call-index l.calls) (vec_items l.answers) l.board
