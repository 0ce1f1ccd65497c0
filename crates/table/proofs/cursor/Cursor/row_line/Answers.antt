-- Each exit is the parts read so far with the one that was stuck.
use Rattle.std.proofs.Common.{◌≡◌, ℕ, List, [], ◌∷◌, ◌++◌, codes}
use Rattle.table.specs.Form.{Piece, mark, word}
use Rattle.table.specs.Lines.{a_name, a_field, exactly, decimal, task_from}
use Rattle.table.proofs.Along.{halted, past_join, stuck_first, stuck_then}
use Rattle.table.proofs.cursor.Cursor.row_line.Goals as goal

task_is : (a b e : ℕ) (run due gap : List ℕ) → a ≡ decimal run → b ≡ decimal due → e ≡ decimal gap → record { run = a; due = b; gap = e } ≡ task_from run due gap
task_is a b e run due gap r d g = cc

-- what follows the parts of the line
abbrev after_gap : List Piece
after_gap = mark 41 ∷ mark 10 ∷ []

abbrev after_due : List Piece
after_due = a_field (codes "gap") ++ after_gap

abbrev after_run : List Piece
after_run = a_field (codes "due") ++ after_due

abbrev after_name : List Piece
after_name = a_field (codes "run") ++ after_run

abbrev after_title : List Piece
after_title = mark 32 ∷ word a_name ∷ after_name

pub returns-in_err-title : goal.returns-in_err-title
returns-in_err-title c =
    halted _ c.from_residual.result c.from_residual.ensures.1 (stuck_first (exactly (codes "task") ++ after_title) c.in_err-title.ensures)

pub returns-in_err-space : goal.returns-in_err-space
returns-in_err-space c =
    halted _ c.from_residual-in_err-space.result c.from_residual-in_err-space.ensures.1 (stuck_then c.in_ok-title.ensures (stuck_first after_title c.in_err-space.ensures))

pub returns-in_err-letters : goal.returns-in_err-letters
returns-in_err-letters c =
    halted _ c.from_residual-in_err-letters.result c.from_residual-in_err-letters.ensures.1 (stuck_then c.in_ok-title.ensures (stuck_then c.in_ok-space.ensures (stuck_first (word a_name ∷ after_name) c.in_err-letters.ensures)))

pub returns-in_err-name : goal.returns-in_err-name
returns-in_err-name c =
    halted _ c.from_residual-in_err-name.result c.from_residual-in_err-name.ensures.1 (stuck_then c.in_ok-title.ensures (stuck_then c.in_ok-space.ensures (stuck_then c.in_ok-letters.ensures (stuck_first after_name c.in_err-name.ensures))))

pub returns-in_err-run : goal.returns-in_err-run
returns-in_err-run c =
    halted _ c.from_residual-in_err-run.result c.from_residual-in_err-run.ensures.1 (stuck_then c.in_ok-title.ensures (stuck_then c.in_ok-space.ensures (stuck_then c.in_ok-letters.ensures (stuck_then c.in_ok-name.ensures (stuck_first after_run c.in_err-run.ensures)))))

pub returns-in_err-due : goal.returns-in_err-due
returns-in_err-due c =
    halted _ c.from_residual-in_err-due.result c.from_residual-in_err-due.ensures.1 (stuck_then c.in_ok-title.ensures (stuck_then c.in_ok-space.ensures (stuck_then c.in_ok-letters.ensures (stuck_then c.in_ok-name.ensures (stuck_then c.in_ok-run.ensures.2 (stuck_first after_due c.in_err-due.ensures))))))

pub returns-in_err-gap : goal.returns-in_err-gap
returns-in_err-gap c =
    halted _ c.from_residual-in_err-gap.result c.from_residual-in_err-gap.ensures.1 (stuck_then c.in_ok-title.ensures (stuck_then c.in_ok-space.ensures (stuck_then c.in_ok-letters.ensures (stuck_then c.in_ok-name.ensures (stuck_then c.in_ok-run.ensures.2 (stuck_then c.in_ok-due.ensures.2 (stuck_first after_gap c.in_err-gap.ensures)))))))

pub returns-in_err-end : goal.returns-in_err-end
returns-in_err-end c =
    halted _ c.from_residual-in_err-end.result c.from_residual-in_err-end.ensures.1 (stuck_then c.in_ok-title.ensures (stuck_then c.in_ok-space.ensures (stuck_then c.in_ok-letters.ensures (stuck_then c.in_ok-name.ensures (stuck_then c.in_ok-run.ensures.2 (stuck_then c.in_ok-due.ensures.2 (stuck_then c.in_ok-gap.ensures.2 (stuck_first (mark 10 ∷ []) c.in_err-end.ensures))))))))

pub returns-in_err-next : goal.returns-in_err-next
returns-in_err-next c =
    halted _ c.from_residual-in_err-next.result c.from_residual-in_err-next.ensures.1 (stuck_then c.in_ok-title.ensures (stuck_then c.in_ok-space.ensures (stuck_then c.in_ok-letters.ensures (stuck_then c.in_ok-name.ensures (stuck_then c.in_ok-run.ensures.2 (stuck_then c.in_ok-due.ensures.2 (stuck_then c.in_ok-gap.ensures.2 (stuck_then c.in_ok-end.ensures (c.in_err-next.ensures)))))))))

pub returns : goal.returns
returns c =
    let r = c.in_ok-run.ensures in
    let d = c.in_ok-due.ensures in
    let g = c.in_ok-gap.ensures in
    record {
      run = r.0;
      due = d.0;
      gap = g.0;
      task = task_is _ _ _ r.0 d.0 g.0 r.1 d.1 g.1;
      some = r.3;
      moves = past_join c.in_ok-title.ensures (past_join c.in_ok-space.ensures (past_join c.in_ok-letters.ensures (past_join c.in_ok-name.ensures (past_join c.in_ok-run.ensures.2 (past_join c.in_ok-due.ensures.2 (past_join c.in_ok-gap.ensures.2 (past_join c.in_ok-end.ensures c.in_ok-next.ensures)))))));
    }
