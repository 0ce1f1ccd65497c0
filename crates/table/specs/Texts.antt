-- What the text of a table is, and why another text is refused: the law of the whole text. Assumes nothing.
--   RowText     a row as a text has it: the bytes of its line, and the name and the task that they write
--   Written     these bytes are a row's line with this name and this task; CountWritten the same of the first line
--   Within      the limits of a row's numbers
--   Fresh       no row has this name; Apart no two rows have the same
--   Begun       the text begins as a good text does: the first line, these rows, and then the rest
--   Accepts     the text is the first line and as many rows as it says, and nothing after
--   Next        this row's line stands next, at this position
--   Refuses     the text begins as a good text does, and the next check says no
use Rattle.std.specs.Prelude.{◌≡◌, ℕ, ◌+◌, ◌<◌, ◌≤◌, ◌⊎◌, List, [], ◌∷◌, ◌++◌, map, length, ◌≢◌, slice_index_or}
use Rattle.std.specs.List.{flat_map, AllByRecursion}
use Rattle.refusal.specs.declared.cases.Position.{Position}
use Rattle.refusal.specs.declared.cases.Refusal.{Refusal}
use Rattle.refusal.specs.declared.cases.Refusal.TheVariants.{TextLength, LineForm, RowCount, RunAboveDue, DueAboveGap, GapLimit, NameTaken, CommonLimit, TextAfter, Overload, Overdemand, NoSuchRow, TooSoon, ClockEnd, NoOpenJob, NotBegun, WarmUpLimit}
use Rattle.table.specs.Form.{Form, Stops, NoLine}
use Rattle.table.specs.Limits.{most_bytes, most_rows, most_gap, most_common, at}
use Rattle.table.specs.Lines.{count_line, row_line, decimal, task_from}
use Rattle.table.specs.Tasks.{LeastCommon}
use Rattle.table.specs.declared.task.Task.{Task}

pub record RowText : Type 0 where
  pub line : List ℕ
  pub name : List ℕ
  pub task : Task

abbrev pub Written : RowText → Type 0
Written row = (run : List ℕ) × (due : List ℕ) × (gap : List ℕ) × Form row_line row.line (row.name ∷ run ∷ due ∷ gap ∷ []) × (row.task ≡ task_from run due gap)

abbrev pub CountWritten : List ℕ → ℕ → Type 0
CountWritten line count = (digits : List ℕ) × Form count_line line (digits ∷ []) × (count ≡ decimal digits)

-- the lines of rows, one after the other
abbrev pub lines : List RowText → List ℕ
lines rows = flat_map (λ row. row.line) rows

-- the place behind the first line and these rows
abbrev pub place_after : List ℕ → List RowText → ℕ
place_after first rows = length (first ++ lines rows)

abbrev pub tasks : List RowText → List Task
tasks rows = map (λ row. row.task) rows

-- the name of a row, rows counting from 0
abbrev pub name_at : List RowText → ℕ → List ℕ
name_at rows i = slice_index_or (map (λ row. row.name) rows) i []

abbrev pub Sized : List ℕ → Type 0
Sized text = (1 ≤ length text) × (length text ≤ most_bytes)

abbrev pub Within : Task → Type 0
Within t = (t.run ≤ t.due) × (t.due ≤ t.gap) × (t.gap ≤ most_gap)

abbrev pub Fresh : List RowText → List ℕ → Type 0
Fresh rows name = (i : ℕ) → i < length rows → name_at rows i ≢ name

abbrev pub Apart : List RowText → Type 0
Apart rows = (i j : ℕ) → i < j → j < length rows → name_at rows i ≢ name_at rows j

-- the common period is within its limit, or past it
abbrev pub ShortPeriod : List Task → Type 0
ShortPeriod ts = (h : ℕ) × LeastCommon ts h × (h ≤ most_common)

abbrev pub LongPeriod : List Task → Type 0
LongPeriod ts = (h : ℕ) × LeastCommon ts h × (most_common < h)

-- what is left of the text, rest, begins at the place
pub record Begun (text : List ℕ) (count : ℕ) (rows : List RowText) (place : ℕ) (rest : List ℕ) : Type 0 where
  pub sized : Sized text
  pub first : List ℕ
  pub counted : CountWritten first count
  pub countable : (1 ≤ count) × (count ≤ most_rows)
  pub parts : text ≡ (first ++ lines rows) ++ rest
  pub begins : place ≡ place_after first rows
  pub few : length rows ≤ count
  pub written : AllByRecursion Written rows
  pub within : AllByRecursion (λ row. Within row.task) rows
  pub apart : Apart rows
  pub short : ShortPeriod (tasks rows)

abbrev pub Accepts : List ℕ → List RowText → Type 0
Accepts text rows = Begun text (length rows) rows (length text) []

-- row i stands in line i + 2
pub record Next (text : List ℕ) (rows : List RowText) (row : RowText) (here : Position) : Type 0 where
  pub count : ℕ
  pub place : ℕ
  pub after : List ℕ
  pub begun : Begun text count rows place (row.line ++ after)
  pub more : length rows < count
  pub written : Written row
  pub position : here ≡ at (length rows + 2) place

-- the first line has not its form
pub record BadFirst (text : List ℕ) (here : Position) : Type 0 where
  pub sized : Sized text
  pub p : ℕ
  pub stops : Stops count_line text p
  pub none : NoLine count_line text
  pub position : here ≡ at 1 p

-- the first line has its form, and its count is outside its limits
pub record BadCount (text : List ℕ) (here : Position) : Type 0 where
  pub sized : Sized text
  pub first : List ℕ
  pub count : ℕ
  pub after : List ℕ
  pub parts : text ≡ first ++ after
  pub counted : CountWritten first count
  pub past : (count < 1) ⊎ (most_rows < count)
  pub position : here ≡ at 1 0

-- a row's line has not its form
pub record BadRow (text : List ℕ) (here : Position) : Type 0 where
  pub count : ℕ
  pub rows : List RowText
  pub place : ℕ
  pub rest : List ℕ
  pub begun : Begun text count rows place rest
  pub more : length rows < count
  pub p : ℕ
  pub stops : Stops row_line rest p
  pub none : NoLine row_line rest
  pub position : here ≡ at (length rows + 2) (place + p)

-- a row's line stands next, the checks before say yes, and this one says no
abbrev pub BadTask : List ℕ → Position → (List RowText → RowText → Type 0) → Type 0
BadTask text here Says-no = (rows : List RowText) × (row : RowText) × Next text rows row here × Says-no rows row

-- something stands after the last row
pub record After (text : List ℕ) (here : Position) : Type 0 where
  pub rows : List RowText
  pub place : ℕ
  pub rest : List ℕ
  pub begun : Begun text (length rows) rows place rest
  pub some : 1 ≤ length rest
  pub position : here ≡ at (length rows + 2) place

abbrev pub Refuses : List ℕ → Refusal → Type 0
Refuses text TextLength = (length text < 1) ⊎ (most_bytes < length text)
Refuses text (LineForm here) = BadFirst text here ⊎ BadRow text here
Refuses text (RowCount here) = BadCount text here
Refuses text (RunAboveDue here) = BadTask text here (λ rows row. row.task.due < row.task.run)
Refuses text (DueAboveGap here) = BadTask text here (λ rows row. (row.task.run ≤ row.task.due) × (row.task.gap < row.task.due))
Refuses text (GapLimit here) = BadTask text here (λ rows row. (row.task.run ≤ row.task.due) × (row.task.due ≤ row.task.gap) × (most_gap < row.task.gap))
Refuses text (NameTaken here) = BadTask text here (λ rows row. Within row.task × ((i : ℕ) × (i < length rows) × (name_at rows i ≡ row.name)))
Refuses text (CommonLimit here) = BadTask text here (λ rows row. Within row.task × Fresh rows row.name × LongPeriod (tasks (rows ++ (row ∷ []))))
Refuses text (TextAfter here) = After text here
Refuses text (Overload load) = ⊥
Refuses text (Overdemand window) = ⊥
Refuses text NoSuchRow = ⊥
Refuses text TooSoon = ⊥
Refuses text ClockEnd = ⊥
Refuses text NoOpenJob = ⊥
Refuses text NotBegun = ⊥
Refuses text WarmUpLimit = ⊥
