-- A row's name as a part of the text itself. Assumes nothing.
--   Named   the part is the name of this row of a text with these rows: at which place it stands, and how long it is
--   Names   the answer for a text and a row: that part, or none for a refused text or a missing row
use Rattle.std.specs.Prelude.{◌≡◌, ℕ, ◌+◌, ◌<◌, ◌≤◌, List, length, take, drop, Some, None, Option}
use Rattle.std.specs.Borrow.{Bor}
use Rattle.table.specs.Lines.{row_title}
use Rattle.table.specs.Texts.{RowText, place_after, name_at, Accepts}

-- the row's line stands behind those of the rows before it, and the name in it behind how such a line begins
pub record Named (text : List ℕ) (rows : List RowText) (accepts : Accepts text rows) (row : ℕ) (part : List ℕ) : Type 0 where
  pub stands : row < length rows
  pub name : part ≡ name_at rows row
  pub place : part ≡ take (length (name_at rows row)) (drop (place_after accepts.first (take row rows) + length row_title) text)

abbrev pub Names : List ℕ → ℕ → Option (Bor (List ℕ)) → Type 0
Names text row (Some part) = ((rows : List RowText) × Accepts text rows) × ((rows : List RowText) (accepts : Accepts text rows) → Named text rows accepts row part.now)
Names text row None = (rows : List RowText) → Accepts text rows → length rows ≤ row
