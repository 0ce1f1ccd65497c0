-- What the reader holds while it reads, as a reading. Assumes nothing.
--   contents   the bytes of parts of the text
--   reading    the names and a draft of the tasks
--   Takes      a row's line is read, its checks say yes, and it is taken into the draft
--   Reads      the answer to a text: accepted with these rows exactly when the text is that of a table with them, and
--              refused exactly when the checks, asked in turn, come to that refusal
use Rattle.std.specs.Prelude.{◌≡◌, ℕ, ◌+◌, List, [], ◌∷◌, ◌++◌, length, drop, Ok, Err, Result}
use Rattle.std.specs.Borrow.{Bor}
use Rattle.refusal.specs.declared.cases.Refusal.{Refusal}
use Rattle.table.specs.Drafts.{drafted, common_so_far}
use Rattle.table.specs.Lines.{row_line}
use Rattle.table.specs.Rows.{rows_of, common_of}
use Rattle.table.specs.Scan.{reaches}
use Rattle.table.specs.Tasks.{LeastCommon}
use Rattle.table.specs.Texts.{RowText, tasks, Accepts, Refuses}
use Rattle.table.specs.Verdict.{Reading, lined, verdict}
use Rattle.table.specs.declared.cursor.Cursor.{Cursor}
use Rattle.table.specs.declared.rows.Rows.{Rows}
use Rattle.table.specs.declared.rows.Table.{Table}
use Rattle.table.specs.declared.task.Task.{Task}

abbrev pub contents : List (Bor (List ℕ)) → List (List ℕ)
contents [] = []
contents (x ∷ xs) = x.now ∷ contents xs

abbrev pub reading : List (List ℕ) → Rows → Reading
reading names d = record { names = names; tasks = drafted d; common = common_so_far d }

pub record Takes (line : ℕ) (at : Cursor) (names : List (List ℕ)) (before : Rows) (name : List ℕ) (next : Cursor) (after : Rows) : Type 0 where
  pub yes : lined line at.place at.rest.now (reading names before) ≡ Ok (reading (names ++ (name ∷ [])) after)
  pub place : next.place ≡ at.place + reaches row_line at.rest.now
  pub rest : next.rest.now ≡ drop (reaches row_line at.rest.now) at.rest.now
  pub room : next.place + length next.rest.now ≡ at.place + length at.rest.now
  pub more : length (drafted after) ≡ length (drafted before) + 1

-- the computed verdict: its tasks and common period are those of the table
abbrev pub Computed : List ℕ → Result Table Refusal → Type 0
Computed text (Ok table) = (names : List (List ℕ)) × (verdict text ≡ Ok (record { names = names; tasks = rows_of table; common = common_of table }))
Computed text (Err e) = verdict text ≡ Err e

-- a table is of an accepted text and has its tasks and their common period; a refusal is of a text that is refused so
abbrev pub Says : List ℕ → Result Table Refusal → Type 0
Says text (Ok table) = (rows : List RowText) × Accepts text rows × (rows_of table ≡ tasks rows) × LeastCommon (rows_of table) (common_of table)
Says text (Err e) = Refuses text e

-- a table with these tasks
abbrev pub Holds : Result Table Refusal → List Task → Type 0
Holds (Ok table) ts = rows_of table ≡ ts
Holds (Err e) ts = ⊥

-- the answer is right, there is no other, and it is the one that is computed
pub record Reads (text : List ℕ) (r : Result Table Refusal) : Type 0 where
  pub says : Says text r
  pub accepted : (rows : List RowText) → Accepts text rows → Holds r (tasks rows)
  pub refused : (e : Refusal) → Refuses text e → r ≡ Err e
  pub computed : Computed text r
