-- What the two calls answer, by the planner's answer to the text. Assumes nothing.
--   refused_from   what is added to a refusal's number where a sleep is asked for
--   checked        0 for an accepted text, else the refusal's number
--   quoted         the row's sleep, or the number of the refusal, raised: the text's, else that of a missing row
--   raised         the number of an answer that is a sleep or a refusal
--   Checks         the answer to a text: that number, which is 0 exactly for an accepted table
--   Quotes         the answer to a text and a row: that number, which is not raised exactly for a row of an accepted
--                  table, and is then the row's sleep
use Rattle.std.specs.Prelude.{◌≡◌, ℕ, ◌+◌, ◌<◌, List, length, Some, None, Ok, Err, Option, Result}
use Rattle.std.specs.List.{slice_get}
use Rattle.refusal.specs.Records.{number_of}
use Rattle.refusal.specs.declared.cases.Refusal.{Refusal}
use Rattle.refusal.specs.declared.cases.Refusal.TheVariants.{NoSuchRow}
use Rattle.table.specs.Texts.{RowText, tasks, Accepts}
use Rattle.planner.specs.Demand.{Accepted, IsSleep}
use Rattle.planner.specs.Texts.{answer_to}

abbrev pub refused_from : ℕ
refused_from = 1000000

abbrev pub checked : Result (List ℕ) Refusal → ℕ
checked (Ok sleeps) = 0
checked (Err e) = number_of e

abbrev pub sleep_or : Option ℕ → ℕ
sleep_or (Some sleep) = sleep
sleep_or None = 1000000 + number_of NoSuchRow

abbrev pub quoted : Result (List ℕ) Refusal → ℕ → ℕ
quoted (Ok sleeps) row = sleep_or (slice_get sleeps row)
quoted (Err e) row = 1000000 + number_of e

-- a sleep, or the number of the refusal, raised
abbrev pub raised : Result ℕ Refusal → ℕ
raised (Ok sleep) = sleep
raised (Err e) = 1000000 + number_of e

pub record Checks (text : List ℕ) (r : ℕ) : Type 0 where
  pub value : r ≡ checked (answer_to text)
  -- 0 exactly where the text is that of a table of which no window can demand more ticks than it has
  pub only_accepted : r ≡ 0 → (rows : List RowText) × Accepts text rows × Accepted (tasks rows)
  pub all_accepted : (rows : List RowText) → Accepts text rows → Accepted (tasks rows) → r ≡ 0

pub record Quotes (text : List ℕ) (row r : ℕ) : Type 0 where
  pub value : r ≡ quoted (answer_to text) row
  -- a row of an accepted table gets its sleep, and no other answer can be taken for one
  pub sleeps : (rows : List RowText) → Accepts text rows → Accepted (tasks rows) → row < length rows
      → (r < refused_from) × IsSleep (tasks rows) row r
  pub only_sleeps : r < refused_from → (rows : List RowText) × Accepts text rows × Accepted (tasks rows) × (row < length rows)
