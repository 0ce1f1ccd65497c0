-- The calls made so far lead from the new board to this one, and their answers are written.
use Rattle.board_c.proofs.Writing.{Answering}
use Rattle.board_c.proofs.answer_all.Given as goal

abbrev pub invariant-loop-i : goal.invariant-loop-i
invariant-loop-i g l = Answering g.T.Alarm l.initial.board l.i l.calls l.initial.answers l.answers l.board
