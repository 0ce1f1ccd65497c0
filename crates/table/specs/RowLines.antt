-- What is read of a row's line. Assumes nothing.
--   MovesOver   the cursor moves over a row's line, whose name and numbers are the row's
use Rattle.std.specs.Prelude.{◌≡◌, ℕ, ◌≤◌, List, [], ◌∷◌}
use Rattle.table.specs.Lines.{row_line, task_from}
use Rattle.table.specs.Steps.{Moves}
use Rattle.table.specs.declared.cursor.Cursor.{Cursor}
use Rattle.table.specs.declared.line.Row.{Row}

pub record MovesOver (c : Cursor) (row : Row) (d : Cursor) : Type 0 where
  pub run : List ℕ
  pub due : List ℕ
  pub gap : List ℕ
  pub task : row.task ≡ task_from run due gap
  pub some : 1 ≤ row.task.run
  pub moves : Moves row_line c (row.name.now ∷ run ∷ due ∷ gap ∷ []) d
