-- A text's figure: how it is read. Assumes nothing.
--   ended      lines as a text: each is followed by a line end
--   Typed      the text is that of a table with these tasks and this common period
--   Untyped    the text is refused with this number, this line and this place
-- and a test for each, which only computes.
use Rattle.std.specs.Prelude.{◌≡◌, ℕ, Bool, true, false, ◌&&◌, List, [], ◌∷◌, ◌++◌, Ok, Err, Result, ◌==◌}
use Rattle.refusal.specs.declared.cases.Refusal.{Refusal}
use Rattle.refusal.specs.Records.{record_of, located}
use Rattle.table.specs.declared.task.Task.{Task}
use Rattle.table.specs.Limits.{at}
use Rattle.table.specs.Tasks.{LeastCommon}
use Rattle.table.specs.Texts.{RowText, tasks, Accepts, Refuses}
use Rattle.table.specs.Verdict.{Reading, verdict}
use Rattle.figures.specs.Tables.{is_same_record}

abbrev pub ended : List (List ℕ) → List ℕ
ended [] = []
ended (line ∷ lines) = line ++ (10 ∷ ended lines)

pub record Typed (text : List ℕ) (wanted : List Task) (h : ℕ) : Type 0 where
  pub rows : List RowText
  pub accepts : Accepts text rows
  pub same : tasks rows ≡ wanted
  pub period : LeastCommon wanted h

-- the refusals of rows are of layer 2
pub record Untyped (text : List ℕ) (number line place : ℕ) : Type 0 where
  pub why : Refusal
  pub refuses : Refuses text why
  pub told : record_of why ≡ located number 2 (at line place)

-- the three numbers of a task agree, and of each task of two lists
abbrev pub is_same_task : Task → Task → Bool
is_same_task t s = t.run == s.run && (t.due == s.due && t.gap == s.gap)

abbrev pub are_same_tasks : List Task → List Task → Bool
are_same_tasks [] [] = true
are_same_tasks [] (s ∷ more) = false
are_same_tasks (t ∷ others) [] = false
are_same_tasks (t ∷ others) (s ∷ more) = is_same_task t s && are_same_tasks others more

-- the checks compute these tasks and this common period, or a refusal with this record
abbrev pub read_as : Result Reading Refusal → List Task → ℕ → Bool
read_as (Ok r) wanted h = are_same_tasks r.tasks wanted && r.common == h
read_as (Err why) wanted h = false

abbrev pub unread_as : Result Reading Refusal → ℕ → ℕ → ℕ → Bool
unread_as (Ok r) number line place = false
unread_as (Err why) number line place = is_same_record (record_of why) (located number 2 (at line place))

-- the tests of a text's figure
unfoldable pub typed : List ℕ → List Task → ℕ → Bool
typed text wanted h = read_as (verdict text) wanted h

unfoldable pub untyped : List ℕ → ℕ → ℕ → ℕ → Bool
untyped text number line place = unread_as (verdict text) number line place
