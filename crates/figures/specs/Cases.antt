-- One worked figure: what it says, and a test that computes whether it passes. Assumes nothing.
--   Case        a figure of one of the kinds
--   Holds       what it says, by the definitions that the contracts cite
--   passes      the test
--   TestTells   what passes the test holds
use Rattle.std.specs.Prelude.{◌≡◌, ℕ, Bool, true, ◌&&◌, List, [], ◌∷◌, ◌==◌}
use Rattle.std.specs.Str.{bytes_eq}
use Rattle.table.specs.declared.task.Task.{Task}
use Rattle.rules.specs.declared.calls.Call.{Call}
use Rattle.rules.specs.Promises.{exact}
use Rattle.figures.specs.Tables.{Quoted, Declined, Nearby, by_share, quoted, declined, nearby}
use Rattle.figures.specs.Texts.{Typed, Untyped, typed, untyped}
use Rattle.figures.specs.Piles.{Pile, Waits, RingsAt, wait_of}
use Rattle.figures.specs.Sleeping.{Leads, leads}

-- read: a text, its tasks and common period; unread: a text, and number, line and place of its refusal;
-- accepted: common period, load, sleeps; refused: common period, number and value of the record; waits: an alarm, what it
-- is set to, its wait; rings: an alarm, what it is set to, the pass that rings; left: a board with these sleeps over an
-- exact alarm of this reach, the calls, and the ticks that its alarm has left after them; share and near: what two other
-- rules would make of an accepted table's rows
pub data Case : Type 0 where
  read : (text : List ℕ) → List Task → (h : ℕ) → Case
  unread : (text : List ℕ) → (number line place : ℕ) → Case
  accepted : List Task → (h load : ℕ) → (sleeps : List ℕ) → Case
  refused : List Task → (h number value : ℕ) → Case
  waits : Pile → (n wait : ℕ) → Case
  rings : Pile → (n pass : ℕ) → Case
  share : List Task → (h : ℕ) → (sleeps : List ℕ) → Case
  near : List Task → (h row margin : ℕ) → Case
  left : List Task → (sleeps : List ℕ) → (reach : ℕ) → List Call → (ticks : ℕ) → Case

abbrev pub Holds : Case → Type 0
Holds (read text tasks h) = Typed text tasks h
Holds (unread text number line place) = Untyped text number line place
Holds (accepted tasks h load sleeps) = Quoted tasks h load sleeps
Holds (refused tasks h number value) = Declined tasks h number value
Holds (waits pile n wait) = Waits pile n wait
Holds (rings pile n pass) = RingsAt pile n pass
Holds (share tasks h sleeps) = by_share h 0 tasks ≡ sleeps
Holds (near tasks h row margin) = Nearby tasks row margin
Holds (left tasks sleeps reach calls ticks) = Leads (exact tasks sleeps reach) calls ticks

unfoldable pub passes : Case → Bool
passes (read text tasks h) = typed text tasks h
passes (unread text number line place) = untyped text number line place
passes (accepted tasks h load sleeps) = quoted tasks h load sleeps
passes (refused tasks h number value) = declined tasks h number value
passes (waits pile n wait) = wait_of pile n == wait
passes (rings pile n pass) = wait_of pile n == pass
passes (share tasks h sleeps) = bytes_eq (by_share h 0 tasks) sleeps
passes (near tasks h row margin) = nearby tasks h row margin
passes (left tasks sleeps reach calls ticks) = leads (exact tasks sleeps reach) calls ticks

abbrev pub TestTells : Type 0
TestTells = (c : Case) → passes c ≡ true → Holds c

-- every figure of a list passes
unfoldable pub all_cases_pass : List Case → Bool
all_cases_pass [] = true
all_cases_pass (c ∷ cs) = passes c && all_cases_pass cs
