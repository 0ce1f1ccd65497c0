-- Each exit is the parts read so far with the one that was stuck.
use Rattle.std.proofs.Common.{List, [], ◌∷◌, ◌++◌}
use Rattle.table.specs.Form.{Piece, mark, word}
use Rattle.table.specs.Lines.{a_number, exactly}
use Rattle.table.proofs.Along.{halted, past_join, stuck_first, stuck_then}
use Rattle.table.proofs.cursor.Cursor.field.Goals as goal

-- what follows the parts of a field
abbrev after_number : List Piece
after_number = mark 41 ∷ []

abbrev after_title : List Piece
after_title = mark 32 ∷ word a_number ∷ mark 41 ∷ []

pub returns-in_err-bracket : goal.returns-in_err-bracket
returns-in_err-bracket c =
    halted _ c.from_residual.result c.from_residual.ensures.1 (stuck_first (mark 40 ∷ (exactly c.args.title.now ++ after_title)) c.in_err-bracket.ensures)

pub returns-in_err-named : goal.returns-in_err-named
returns-in_err-named c =
    halted _ c.from_residual-in_err-named.result c.from_residual-in_err-named.ensures.1 (stuck_then c.in_ok-bracket.ensures (stuck_first (exactly c.args.title.now ++ after_title) c.in_err-named.ensures))

pub returns-in_err-gap : goal.returns-in_err-gap
returns-in_err-gap c =
    halted _ c.from_residual-in_err-gap.result c.from_residual-in_err-gap.ensures.1 (stuck_then c.in_ok-bracket.ensures (stuck_then c.in_ok-named.ensures (stuck_first after_title c.in_err-gap.ensures)))

pub returns-in_err-digits : goal.returns-in_err-digits
returns-in_err-digits c =
    halted _ c.from_residual-in_err-digits.result c.from_residual-in_err-digits.ensures.1 (stuck_then c.in_ok-bracket.ensures (stuck_then c.in_ok-named.ensures (stuck_then c.in_ok-gap.ensures (stuck_first (word a_number ∷ after_number) c.in_err-digits.ensures))))

pub returns-in_err-value : goal.returns-in_err-value
returns-in_err-value c =
    halted _ c.from_residual-in_err-value.result c.from_residual-in_err-value.ensures.1 (stuck_then c.in_ok-bracket.ensures (stuck_then c.in_ok-named.ensures (stuck_then c.in_ok-gap.ensures (stuck_then c.in_ok-digits.ensures (stuck_first after_number c.in_err-value.ensures)))))

pub returns-in_err-next : goal.returns-in_err-next
returns-in_err-next c =
    halted _ c.from_residual-in_err-next.result c.from_residual-in_err-next.ensures.1 (stuck_then c.in_ok-bracket.ensures (stuck_then c.in_ok-named.ensures (stuck_then c.in_ok-gap.ensures (stuck_then c.in_ok-digits.ensures (stuck_then c.in_ok-value.ensures.2 (c.in_err-next.ensures))))))

pub returns : goal.returns
returns c =
    let v = c.in_ok-value.ensures in
    (v.0, v.1, past_join c.in_ok-bracket.ensures (past_join c.in_ok-named.ensures (past_join c.in_ok-gap.ensures (past_join c.in_ok-digits.ensures (past_join c.in_ok-value.ensures.2 c.in_ok-next.ensures)))), v.3)
