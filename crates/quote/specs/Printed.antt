-- The bytes that are printed for a table's text. Assumes nothing.
--   plan_text       (plan 3 (load 106) (common 112)) and a line end
--   sleep_text      (sleep head 4) and a line end; sleep_texts those of all rows
--   shortest_text   (shortest 4) and a line end
--   printed         the plan of an accepted text, or the record of its refusal
use Rattle.std.specs.Prelude.{◌≡◌, ℕ, List, [], ◌∷◌, ◌++◌, length, Some, None, Ok, Err, codes, decimal, Option, Result}
use Rattle.refusal.specs.Printed.{record_text}
use Rattle.refusal.specs.declared.cases.Refusal.{Refusal}
use Rattle.table.specs.Verdict.{Reading, verdict}
use Rattle.planner.specs.Computed.{computed, shortest_of}
use Rattle.planner.specs.Demand.{load}
use Rattle.planner.specs.Texts.{answer_to}

-- a line's end
abbrev pub line_end : List ℕ
line_end = 10 ∷ []

abbrev pub plan_text : ℕ → ℕ → ℕ → List ℕ
plan_text count load common =
    codes "(plan " ++ (decimal count ++ (codes " (load " ++ (decimal load ++ (codes ") (common " ++ (decimal common ++ (codes "))" ++ line_end))))))

abbrev pub sleep_text : List ℕ → ℕ → List ℕ
sleep_text name sleep = codes "(sleep " ++ (name ++ (codes " " ++ (decimal sleep ++ (codes ")" ++ line_end))))

-- row by row, as long as there is a name and a sleep
abbrev pub sleep_texts : List (List ℕ) → List ℕ → List ℕ
sleep_texts [] sleeps = []
sleep_texts (name ∷ names) [] = []
sleep_texts (name ∷ names) (sleep ∷ sleeps) = sleep_text name sleep ++ sleep_texts names sleeps

abbrev pub shortest_text : ℕ → List ℕ
shortest_text shortest = codes "(shortest " ++ (decimal shortest ++ (codes ")" ++ line_end))

-- nothing, where there are no rows
abbrev pub shortest_line_of : Option ℕ → List ℕ
shortest_line_of None = []
shortest_line_of (Some shortest) = shortest_text shortest

abbrev pub refused_text : Refusal → List ℕ
refused_text e = record_text e ++ line_end

abbrev pub planned_text : Reading → Result (List ℕ) Refusal → List ℕ
planned_text r (Ok sleeps) =
    plan_text (length r.tasks) (load r.tasks r.common) r.common ++ (sleep_texts r.names sleeps ++ shortest_line_of (shortest_of sleeps))
planned_text r (Err e) = refused_text e

abbrev pub read_text : Result Reading Refusal → List ℕ
read_text (Ok r) = planned_text r (computed r.tasks r.common)
read_text (Err e) = refused_text e

unfoldable pub printed : List ℕ → List ℕ
printed text = read_text (verdict text)

-- why the text is refused, if it is
abbrev pub refusal_in : Result (List ℕ) Refusal → Option Refusal
refusal_in (Ok sleeps) = None
refusal_in (Err e) = Some e

-- the names of the rows of a text that is read well
abbrev pub names_in_reading : Result Reading Refusal → List (List ℕ)
names_in_reading (Ok r) = r.names
names_in_reading (Err e) = []

abbrev pub names_in : List ℕ → List (List ℕ)
names_in text = names_in_reading (verdict text)

-- the page and the refusal are those of the text
pub record Printed (text page : List ℕ) (refusal : Option Refusal) : Type 0 where
  pub bytes : page ≡ printed text
  pub why : refusal ≡ refusal_in (answer_to text)
