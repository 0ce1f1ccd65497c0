-- The verdict on a text: the checks of a table, asked in turn, each refusal with its line and place. Assumes nothing.
--   Reading            what the lines so far say: the rows' names, their tasks, and the common period of these
--   name_in, task_in   what the row's line at the front of a text says
--   limited            the checks of a row's numbers: run against due, due against gap, the gap's limit
--   joined             the row's name must be new, and the common period with it within its limit
--   lined              the whole check of one line: its form, its numbers, its name, the common period
--   rows_from          so many lines, and then the text's end
--   verdict            the whole text
use Rattle.std.specs.Prelude.{ℕ, zero, suc, ◌+◌, Bool, false, cond, ◌&&◌, ◌||◌, List, [], ◌∷◌, ◌++◌, length, drop, Ok, Err, Result, ◌==◌, nat_le, nat_lt, slice_index_or}
use Rattle.std.specs.Str.{bytes_eq}
use Rattle.refusal.specs.declared.cases.Position.{Position}
use Rattle.refusal.specs.declared.cases.Refusal.{Refusal}
use Rattle.refusal.specs.declared.cases.Refusal.TheVariants.{TextLength, LineForm, RowCount, RunAboveDue, DueAboveGap, GapLimit, NameTaken, CommonLimit, TextAfter}
use Rattle.table.specs.Common.{lcm}
pub use Rattle.table.specs.Limits.{most_bytes, most_rows, most_gap, most_common, at}
use Rattle.table.specs.Lines.{count_line, row_line, decimal, task_from}
use Rattle.table.specs.Scan.{reaches, fitting, words_of}
use Rattle.table.specs.declared.task.Task.{Task}

pub record Reading : Type 0 where
  pub names : List (List ℕ)
  pub tasks : List Task
  pub common : ℕ

abbrev pub nothing_read : Reading
nothing_read = record { names = []; tasks = []; common = 1 }

abbrev pub with_row : Reading → List ℕ → Task → Reading
with_row r name task = record { names = r.names ++ (name ∷ []); tasks = r.tasks ++ (task ∷ []); common = lcm r.common task.gap }

-- the name is one of these
abbrev pub taken : List ℕ → List (List ℕ) → Bool
taken name [] = false
taken name (other ∷ names) = bytes_eq other name || taken name names

-- the next check, where the last one said yes
module _ {X Y : Type 0} where
  abbrev pub then_ask : Result X Refusal → (X → Result Y Refusal) → Result Y Refusal
  then_ask (Ok x) next = next x
  then_ask (Err e) next = Err e

abbrev pub limited : Position → Task → Result (Unit {0}) Refusal
limited here t =
    cond (nat_lt t.due t.run) (Err (RunAboveDue here))
    (cond (nat_lt t.gap t.due) (Err (DueAboveGap here))
    (cond (nat_lt most_gap t.gap) (Err (GapLimit here)) (Ok tt)))

unfoldable pub joined : Position → Reading → List ℕ → Task → Result Reading Refusal
joined here r name t =
    cond (taken name r.names) (Err (NameTaken here))
    (cond (nat_lt most_common (lcm r.common t.gap)) (Err (CommonLimit here)) (Ok (with_row r name t)))

-- the name and the task in the row's line at the front of a text
abbrev pub name_in : List ℕ → List ℕ
name_in bs = slice_index_or (words_of row_line bs) 0 []

abbrev pub task_in : List ℕ → Task
task_in bs = task_from (slice_index_or (words_of row_line bs) 1 []) (slice_index_or (words_of row_line bs) 2 []) (slice_index_or (words_of row_line bs) 3 [])

-- the count in the first line
abbrev pub count_in : List ℕ → ℕ
count_in bs = decimal (slice_index_or (words_of count_line bs) 0 [])

unfoldable pub lined : ℕ → ℕ → List ℕ → Reading → Result Reading Refusal
lined line place bs r =
    cond (fitting row_line bs)
    (then_ask (limited (at line place) (task_in bs)) (λ _. joined (at line place) r (name_in bs) (task_in bs)))
    (Err (LineForm (at line (place + reaches row_line bs))))

unfoldable pub rows_from : ℕ → ℕ → ℕ → List ℕ → Reading → Result Reading Refusal
rows_from zero line place bs r = cond (length bs == 0) (Ok r) (Err (TextAfter (at line place)))
rows_from (suc n) line place bs r =
    then_ask (lined line place bs r) (λ s. rows_from n (line + 1) (place + reaches row_line bs) (drop (reaches row_line bs) bs) s)

unfoldable pub counted : List ℕ → Result Reading Refusal
counted bs =
    cond (nat_le 1 (count_in bs) && nat_le (count_in bs) most_rows)
    (rows_from (count_in bs) 2 (reaches count_line bs) (drop (reaches count_line bs) bs) nothing_read)
    (Err (RowCount (at 1 0)))

unfoldable pub verdict : List ℕ → Result Reading Refusal
verdict bs =
    cond (nat_le 1 (length bs) && nat_le (length bs) most_bytes)
    (cond (fitting count_line bs) (counted bs) (Err (LineForm (at 1 (reaches count_line bs)))))
    (Err TextLength)
