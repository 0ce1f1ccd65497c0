-- The sentence by which a refusal is told to a person. Assumes nothing.
--   reason_of   what is wrong, in a few words
--   sentence    with the line and the byte, or the value, where the refusal names one
use Rattle.std.specs.Prelude.{ℕ, cond, List, ◌++◌, codes, decimal, nat_lt}
use Rattle.refusal.specs.declared.cases.Refusal.{Refusal}
use Rattle.refusal.specs.declared.cases.Refusal.TheVariants.{TextLength, LineForm, RowCount, RunAboveDue, DueAboveGap, GapLimit, NameTaken, CommonLimit, TextAfter, Overload, Overdemand, NoSuchRow, TooSoon, ClockEnd, NoOpenJob, NotBegun, WarmUpLimit}
use Rattle.refusal.specs.Records.{record_of}

abbrev pub reason_of : Refusal → List ℕ
reason_of TextLength = codes "the text is empty or has more than 8192 bytes"
reason_of (LineForm at) = codes "here the line leaves the form of a table's line, or the text stops short"
reason_of (RowCount at) = codes "the count of rows is not 1 to 64"
reason_of (RunAboveDue at) = codes "the run is above the due"
reason_of (DueAboveGap at) = codes "the due is above the gap"
reason_of (GapLimit at) = codes "the gap is above 100000 ticks"
reason_of (NameTaken at) = codes "an earlier row has this name"
reason_of (CommonLimit at) = codes "the common period of the rows so far is above 1000000 ticks"
reason_of (TextAfter at) = codes "something stands after the last row"
reason_of (Overload load) = codes "in a common period the rows ask for more ticks than it has: they ask for"
reason_of (Overdemand window) = codes "a window of time can demand more ticks than it has: the shortest has"
reason_of NoSuchRow = codes "there is no such row"
reason_of TooSoon = codes "the row's gap since its last release is not over"
reason_of ClockEnd = codes "the clock has reached its last tick"
reason_of NoOpenJob = codes "the row has no open job"
reason_of NotBegun = codes "the row's job has had no tick yet"
reason_of WarmUpLimit = codes "a warm-up has 1 to 1000 ticks"

abbrev pub sentence : Refusal → List ℕ
sentence e =
    cond (nat_lt 0 (record_of e).line)
    (codes "Refused at line " ++ (decimal (record_of e).line ++ (codes ", byte " ++ (decimal (record_of e).place ++ (codes ": " ++ (reason_of e ++ codes "."))))))
    (cond (nat_lt 0 (record_of e).value)
    (codes "Refused: " ++ (reason_of e ++ (codes " " ++ (decimal (record_of e).value ++ codes " ticks."))))
    (codes "Refused: " ++ (reason_of e ++ codes ".")))
