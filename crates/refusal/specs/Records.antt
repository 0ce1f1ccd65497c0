-- The record of each refusal: its number, its layer, and the line, place and value that it names. Assumes nothing.
use Rattle.std.specs.Prelude.{ℕ}
use Rattle.refusal.specs.declared.cases.Position.{Position}
use Rattle.refusal.specs.declared.cases.Refusal.{Refusal}
use Rattle.refusal.specs.declared.cases.Refusal.TheVariants.{TextLength, LineForm, RowCount, RunAboveDue, DueAboveGap, GapLimit, NameTaken, CommonLimit, TextAfter, Overload, Overdemand, NoSuchRow, TooSoon, ClockEnd, NoOpenJob, NotBegun, WarmUpLimit}
use Rattle.refusal.specs.declared.record.Record.{Record}

-- of a refusal that names nothing
abbrev pub plain : ℕ → ℕ → Record
plain number layer = record { number = number; layer = layer; line = 0; place = 0; value = 0 }

-- of a refusal that names a line and a place in the text
abbrev pub located : ℕ → ℕ → Position → Record
located number layer at = record { number = number; layer = layer; line = at.line; place = at.place; value = 0 }

-- of a refusal that names a value
abbrev pub valued : ℕ → ℕ → ℕ → Record
valued number layer value = record { number = number; layer = layer; line = 0; place = 0; value = value }

-- layer 1 is the text, 2 its rows, 3 the plan, 4 the board and 5 an alarm
abbrev pub record_of : Refusal → Record
record_of TextLength = plain 1 1
record_of (LineForm at) = located 2 1 at
record_of (RowCount at) = located 3 2 at
record_of (RunAboveDue at) = located 4 2 at
record_of (DueAboveGap at) = located 5 2 at
record_of (GapLimit at) = located 6 2 at
record_of (NameTaken at) = located 7 2 at
record_of (CommonLimit at) = located 8 2 at
record_of (TextAfter at) = located 9 2 at
record_of (Overload load) = valued 10 3 load
record_of (Overdemand window) = valued 11 3 window
record_of NoSuchRow = plain 12 4
record_of TooSoon = plain 13 4
record_of ClockEnd = plain 14 4
record_of NoOpenJob = plain 15 4
record_of NotBegun = plain 16 4
record_of WarmUpLimit = plain 17 5

-- the number alone
abbrev pub number_of : Refusal → ℕ
number_of e = (record_of e).number
