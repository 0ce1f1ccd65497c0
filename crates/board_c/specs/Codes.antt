-- Calls and answers as numbers. Assumes nothing.
--   decoded   the call that a number stands for: four times the row, and 0 for a release, 1 for a done, 2 for a tick,
--             3 for a report
--   encoded   the record of what a call answered: its kind, and what that names
use Rattle.std.specs.Prelude.{ℕ, ◌/◌, ◌%◌, cond, Some, None, Ok, Err, Option, Result, ◌==◌}
use Rattle.refusal.specs.declared.cases.Refusal.{Refusal}
use Rattle.refusal.specs.Records.{number_of}
use Rattle.rules.specs.declared.calls.Call.{Call}
use Rattle.rules.specs.declared.calls.Call.TheVariants.{Release, Done, Tick, Report}
use Rattle.rules.specs.declared.calls.Answer.{Answer}
use Rattle.rules.specs.declared.calls.Answer.TheVariants.{Released, Closed, Ticked, Reported}
use Rattle.rules.specs.declared.slots.Job.{Job}
use Rattle.rules.specs.Logs.{one}
use Rattle.board_c.specs.declared.record.AnswerRecord.{AnswerRecord}

abbrev pub decoded : ℕ → Call
decoded n =
    cond (n % 4 == 0) (Release (n / 4))
    (cond (n % 4 == 1) (Done (n / 4)) (cond (n % 4 == 2) Tick (Report (n / 4))))

-- of a kind that names nothing
abbrev pub blank : ℕ → AnswerRecord
blank n = record { now = 0; ran = 0; slept = 0; due = 0; row = 0; kind = n; number = 0; busy = 0; rang = 0; given = 0 }

-- the fields of a report that tell of the row's open job, if any
abbrev pub with_job : Option Job → AnswerRecord → AnswerRecord
with_job None r = r
with_job (Some j) r = record r { busy = 1; due = j.due; given = j.given }

abbrev pub encoded : Result Answer Refusal → AnswerRecord
encoded (Ok Released) = blank 0
encoded (Ok Closed) = blank 1
encoded (Ok (Ticked None rang)) =
    record { now = 0; ran = 0; slept = 0; due = 0; row = 0; kind = 2; number = 0; busy = 0; rang = one rang; given = 0 }
encoded (Ok (Ticked (Some row) rang)) =
    record { now = 0; ran = 0; slept = 0; due = 0; row = row; kind = 2; number = 0; busy = 1; rang = one rang; given = 0 }
encoded (Ok (Reported s)) =
    with_job s.job (record { now = s.now; ran = s.ran; slept = s.slept; due = 0; row = 0; kind = 3; number = 0; busy = 0; rang = 0; given = 0 })
encoded (Err why) =
    record { now = 0; ran = 0; slept = 0; due = 0; row = 0; kind = 4; number = number_of why; busy = 0; rang = 0; given = 0 }
