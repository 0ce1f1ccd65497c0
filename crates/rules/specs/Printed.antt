-- The bytes that are printed of a call. Assumes nothing.
--   call_text   the call as it is typed, with its row if it names one: release 2
use Rattle.std.specs.Prelude.{ℕ, List, ◌++◌, codes, decimal}
use Rattle.rules.specs.declared.calls.Call.{Call}
use Rattle.rules.specs.declared.calls.Call.TheVariants.{Release, Done, Tick, Report}

abbrev pub call_text : Call → List ℕ
call_text (Release row) = codes "release " ++ decimal row
call_text (Done row) = codes "done " ++ decimal row
call_text Tick = codes "tick"
call_text (Report row) = codes "report " ++ decimal row
