-- Each exit is the parts read so far with the one that was stuck.
use Rattle.std.proofs.Common.{List, [], ◌∷◌, ◌++◌, codes}
use Rattle.table.specs.Form.{Piece, mark, word}
use Rattle.table.specs.Lines.{a_number, exactly}
use Rattle.table.proofs.Along.{halted, past_join, stuck_first, stuck_then}
use Rattle.table.proofs.cursor.Cursor.count_line.Goals as goal

-- what follows the parts of the line
abbrev after_number : List Piece
after_number = mark 41 ∷ mark 10 ∷ []

abbrev after_title : List Piece
after_title = mark 32 ∷ word a_number ∷ after_number

pub returns-in_err-title : goal.returns-in_err-title
returns-in_err-title c =
    halted _ c.from_residual.result c.from_residual.ensures.1 (stuck_first (exactly (codes "table") ++ after_title) c.in_err-title.ensures)

pub returns-in_err-gap : goal.returns-in_err-gap
returns-in_err-gap c =
    halted _ c.from_residual-in_err-gap.result c.from_residual-in_err-gap.ensures.1 (stuck_then c.in_ok-title.ensures (stuck_first after_title c.in_err-gap.ensures))

pub returns-in_err-digits : goal.returns-in_err-digits
returns-in_err-digits c =
    halted _ c.from_residual-in_err-digits.result c.from_residual-in_err-digits.ensures.1 (stuck_then c.in_ok-title.ensures (stuck_then c.in_ok-gap.ensures (stuck_first (word a_number ∷ after_number) c.in_err-digits.ensures)))

pub returns-in_err-count : goal.returns-in_err-count
returns-in_err-count c =
    halted _ c.from_residual-in_err-count.result c.from_residual-in_err-count.ensures.1 (stuck_then c.in_ok-title.ensures (stuck_then c.in_ok-gap.ensures (stuck_then c.in_ok-digits.ensures (stuck_first after_number c.in_err-count.ensures))))

pub returns-in_err-end : goal.returns-in_err-end
returns-in_err-end c =
    halted _ c.from_residual-in_err-end.result c.from_residual-in_err-end.ensures.1 (stuck_then c.in_ok-title.ensures (stuck_then c.in_ok-gap.ensures (stuck_then c.in_ok-digits.ensures (stuck_then c.in_ok-count.ensures.2 (stuck_first (mark 10 ∷ []) c.in_err-end.ensures)))))

pub returns-in_err-next : goal.returns-in_err-next
returns-in_err-next c =
    halted _ c.from_residual-in_err-next.result c.from_residual-in_err-next.ensures.1 (stuck_then c.in_ok-title.ensures (stuck_then c.in_ok-gap.ensures (stuck_then c.in_ok-digits.ensures (stuck_then c.in_ok-count.ensures.2 (stuck_then c.in_ok-end.ensures (c.in_err-next.ensures))))))

pub returns : goal.returns
returns c =
    let v = c.in_ok-count.ensures in
    (v.0, v.1, past_join c.in_ok-title.ensures (past_join c.in_ok-gap.ensures (past_join c.in_ok-digits.ensures (past_join c.in_ok-count.ensures.2 (past_join c.in_ok-end.ensures c.in_ok-next.ensures)))), v.3)
