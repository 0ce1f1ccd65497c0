-- A board's figure: what its alarm has left after some calls, all made while it sleeps. Assumes nothing.
--   Leads      the calls, made on a new board over an exact alarm, are accepted and lead to that many ticks left
--   Quietly    releases that are accepted and ticks in which nothing runs or rings
-- and the rules of a sleeping board over an exact alarm, computed, which has no choice:
--   fits         the board sleeps, and the call is a release or a tick that is accepted
--   entry_for    what the log then has of the call
--   view_after   what is then seen of the board; where `fits` says no, both mean nothing
use Rattle.std.specs.Prelude.{◌≡◌, ℕ, ◌+◌, min, Bool, true, false, cond, not, ◌&&◌, List, [], ◌∷◌, Some, None, Ok, Option, Result, ◌==◌, nat_le, nat_lt, slice_set}
use Rattle.refusal.specs.declared.cases.Refusal.{Refusal}
use Rattle.alarm.specs.Meaning.{waiting, onward, rings}
use Rattle.rules.specs.declared.slots.Mode.{Mode}
use Rattle.rules.specs.declared.slots.Mode.TheVariants.{Asleep, Awake}
use Rattle.rules.specs.declared.calls.Call.{Call}
use Rattle.rules.specs.declared.calls.Call.TheVariants.{Release, Done, Tick, Report}
use Rattle.rules.specs.declared.calls.Answer.{Answer}
use Rattle.rules.specs.declared.calls.Answer.TheVariants.{Released, Ticked}
use Rattle.rules.specs.Views.{slot_at, opened, View, Rules, count, task_of, sleep_of, fresh}
use Rattle.rules.specs.Plans.{limit}
use Rattle.rules.specs.Steps.{Entry, Entry.released, Entry.done, Entry.ticked, mode_for, mode_after, Runs}
use Rattle.rules.specs.Logs.{calls_of, answers_of}

-- a release that is accepted, or a tick in which nothing runs or rings
abbrev pub Quiet : Call → Result Answer Refusal → Type 0
Quiet (Release row) answer = answer ≡ Ok Released
Quiet Tick answer = answer ≡ Ok (Ticked None false)
Quiet (Done row) answer = ⊥
Quiet (Report row) answer = ⊥

abbrev pub Quietly : List Call → List (Result Answer Refusal) → Type 0
Quietly [] [] = Unit {0}
Quietly [] (answer ∷ answers) = ⊥
Quietly (call ∷ calls) [] = ⊥
Quietly (call ∷ calls) (answer ∷ answers) = Quiet call answer × Quietly calls answers

-- there is such a run, and every run with these calls is one
pub record Leads (R : Rules) (calls : List Call) (left : ℕ) : Type 0 where
  pub exists : (log : List Entry) × (w : View) × Runs R (fresh (count R)) log w × (calls_of log ≡ calls)
  pub always : (log : List Entry) (w : View) → Runs R (fresh (count R)) log w → calls_of log ≡ calls
      → Quietly calls (answers_of log) × (w.alarm ≡ Some left)

-- the board is asleep
abbrev pub sleeping : Mode → Bool
sleeping Asleep = true
sleeping Awake = false

-- at least gap ticks are past since the last release, if there was one
abbrev pub apart : Option ℕ → ℕ → ℕ → Bool
apart None gap now = true
apart (Some t) gap now = nat_le (t + gap) now

-- the call is accepted
abbrev pub fits_call : Rules → View → Call → Bool
fits_call R v (Release row) = nat_lt row (count R) && apart (slot_at v.slots row).last (task_of R row).gap v.now
fits_call R v Tick = nat_lt v.now limit
fits_call R v (Done row) = false
fits_call R v (Report row) = false

abbrev pub fits : Rules → View → Call → Bool
fits R v call = sleeping v.mode && fits_call R v call

-- an exact alarm waits for what it is set to, up to its reach
abbrev pub answered : Rules → ℕ → ℕ
answered R row = min (sleep_of R row) R.reach

-- whether the alarm is set: it is unset, or has more left than the sleep
abbrev pub asked : Option ℕ → ℕ → Bool
asked None sleep = true
asked (Some left) sleep = nat_lt sleep left

abbrev pub entry_for : Rules → View → Call → Entry
entry_for R v (Release row) = released row (cond (asked v.alarm (sleep_of R row)) (Some (answered R row)) None)
entry_for R v Tick = ticked None (rings v.alarm)
entry_for R v (Done row) = done row
entry_for R v (Report row) = done row

-- the view after a release that leaves this mode and this alarm
abbrev pub opened_in : Rules → View → ℕ → Mode → Option ℕ → View
opened_in R v row mode alarm =
    record {
      now = v.now;
      ran = v.ran;
      slept = v.slept;
      mode = mode;
      slots = slice_set v.slots row (opened v.now (v.now + (task_of R row).due));
      alarm = alarm;
    }

abbrev pub view_after : Rules → View → Call → View
view_after R v (Release row) =
    cond (asked v.alarm (sleep_of R row))
    (opened_in R v row (mode_for (answered R row)) (waiting (answered R row)))
    (opened_in R v row v.mode v.alarm)
view_after R v Tick =
    record {
      now = v.now + 1;
      ran = v.ran;
      slept = v.slept + 1;
      mode = mode_after (rings v.alarm);
      slots = v.slots;
      alarm = onward v.alarm;
    }
view_after R v (Done row) = v
view_after R v (Report row) = v

-- all calls fit, one after the other
unfoldable pub fit_all : Rules → View → List Call → Bool
fit_all R v [] = true
fit_all R v (call ∷ calls) = fits R v call && fit_all R (view_after R v call) calls

-- the log of the calls, and the view at its end
unfoldable pub log_of : Rules → View → List Call → List Entry
log_of R v [] = []
log_of R v (call ∷ calls) = entry_for R v call ∷ log_of R (view_after R v call) calls

unfoldable pub end_of : Rules → View → List Call → View
end_of R v [] = v
end_of R v (call ∷ calls) = end_of R (view_after R v call) calls

-- not a tick that rings
abbrev pub hushed : View → Call → Bool
hushed v (Release row) = true
hushed v Tick = not (rings v.alarm)
hushed v (Done row) = true
hushed v (Report row) = true

-- no tick of the calls rings
unfoldable pub hushed_all : Rules → View → List Call → Bool
hushed_all R v [] = true
hushed_all R v (call ∷ calls) = hushed v call && hushed_all R (view_after R v call) calls

-- so many ticks are left
abbrev pub leaves : Option ℕ → ℕ → Bool
leaves None left = false
leaves (Some n) left = n == left

-- the test of a board's figure
unfoldable pub leads : Rules → List Call → ℕ → Bool
leads R calls left =
    fit_all R (fresh (count R)) calls && (hushed_all R (fresh (count R)) calls && leaves (end_of R (fresh (count R)) calls).alarm left)
