-- What can be told from a log alone: the calls on a board since it was new, what they answered, and the waits that its
-- alarm answered. Refused calls and reports count for nothing. Assumes nothing.
--   is_tick, is_run, is_release, is_done, is_waking, is_refused   1 for an entry of that kind, else 0
--   tally, ticks      how many entries of a kind, and how many ticks, a log has
--   up_to n           the shortest part from the start that has n ticks
--   since_release     what follows the first release
--   Unserved, Open    a job is open from its release until its row has run in as many ticks as its run, or was done
--   Emptied, Begins   a sleep begins with the new board, and with each tick or done that closes the only open job
--   Ends              it ends with the next tick that rang, or the next release to which the alarm answered 0
--   Missed            a job was open when the clock reached its due tick
--   calls_of          the calls that were made
--   answers_of        what they answered
use Rattle.std.specs.Prelude.{◌≡◌, ℕ, zero, suc, ◌+◌, ◌<◌, Bool, true, false, ◌⊎◌, List, [], ◌∷◌, ◌++◌, Some, None, Ok, Err, Option, Result, ◌==◌}
use Rattle.refusal.specs.declared.cases.Refusal.{Refusal}
use Rattle.table.specs.declared.task.Task.{Task}
use Rattle.table.specs.Tasks.{task_at}
use Rattle.rules.specs.declared.calls.Call.{Call}
use Rattle.rules.specs.declared.calls.Call.TheVariants.{Release, Done, Tick, Report}
use Rattle.rules.specs.declared.calls.Answer.{Answer}
use Rattle.rules.specs.declared.calls.Answer.TheVariants.{Released, Closed, Ticked, Reported}
use Rattle.rules.specs.Steps.{Entry, Entry.released, Entry.done, Entry.ticked, Entry.reported, Entry.refused}

abbrev pub one : Bool → ℕ
one true = 1
one false = 0

-- how often an entry counts by f, which answers 1 or 0
abbrev pub tally : (Entry → ℕ) → List Entry → ℕ
tally f [] = 0
tally f (e ∷ log) = f e + tally f log

-- an accepted tick
abbrev pub is_tick : Entry → ℕ
is_tick (released row wait) = 0
is_tick (done row) = 0
is_tick (ticked who rang) = 1
is_tick (reported row status) = 0
is_tick (refused call why) = 0

-- a tick that answered the row
abbrev pub is_run : ℕ → Entry → ℕ
is_run r (released row wait) = 0
is_run r (done row) = 0
is_run r (ticked None rang) = 0
is_run r (ticked (Some row) rang) = one (row == r)
is_run r (reported row status) = 0
is_run r (refused call why) = 0

-- an accepted release of the row
abbrev pub is_release : ℕ → Entry → ℕ
is_release r (released row wait) = one (row == r)
is_release r (done row) = 0
is_release r (ticked who rang) = 0
is_release r (reported row status) = 0
is_release r (refused call why) = 0

-- an accepted done of the row
abbrev pub is_done : ℕ → Entry → ℕ
is_done r (released row wait) = 0
is_done r (done row) = one (row == r)
is_done r (ticked who rang) = 0
is_done r (reported row status) = 0
is_done r (refused call why) = 0

-- a tick that answered a ring, or a release to which the alarm answered 0
abbrev pub is_waking : Entry → ℕ
is_waking (released row None) = 0
is_waking (released row (Some zero)) = 1
is_waking (released row (Some (suc m))) = 0
is_waking (done row) = 0
is_waking (ticked who rang) = one rang
is_waking (reported row status) = 0
is_waking (refused call why) = 0

abbrev pub is_refused : Entry → ℕ
is_refused (released row wait) = 0
is_refused (done row) = 0
is_refused (ticked who rang) = 0
is_refused (reported row status) = 0
is_refused (refused call why) = 1

abbrev pub ticks : List Entry → ℕ
ticks log = tally is_tick log

abbrev pub up_to : ℕ → List Entry → List Entry
up_to zero log = []
up_to (suc n) [] = []
up_to (suc n) (released row wait ∷ log) = released row wait ∷ up_to (suc n) log
up_to (suc n) (done row ∷ log) = done row ∷ up_to (suc n) log
up_to (suc n) (ticked who rang ∷ log) = ticked who rang ∷ up_to n log
up_to (suc n) (reported row status ∷ log) = reported row status ∷ up_to (suc n) log
up_to (suc n) (refused call why ∷ log) = refused call why ∷ up_to (suc n) log

abbrev pub since_release : List Entry → List Entry
since_release [] = []
since_release (released row wait ∷ log) = log
since_release (done row ∷ log) = since_release log
since_release (ticked who rang ∷ log) = since_release log
since_release (reported row status ∷ log) = since_release log
since_release (refused call why ∷ log) = since_release log

-- since a release of the row: it was neither released again nor done, and ran in fewer ticks than its run
pub record Unserved (tasks : List Task) (row : ℕ) (since : List Entry) : Type 0 where
  pub last : tally (is_release row) since ≡ 0
  pub undone : tally (is_done row) since ≡ 0
  pub unfinished : tally (is_run row) since < (task_at tasks row).run

-- at the end of the log the row has an open job
pub record Open (tasks : List Task) (row : ℕ) (log : List Entry) : Type 0 where
  pub before : List Entry
  pub wait : Option ℕ
  pub since : List Entry
  pub cut : log ≡ before ++ (released row wait ∷ since)
  pub unserved : Unserved tasks row since

-- a tick or a done
abbrev pub Shuts : Entry → Type 0
Shuts (released row wait) = ⊥
Shuts (done row) = Unit {0}
Shuts (ticked who rang) = Unit {0}
Shuts (reported row status) = ⊥
Shuts (refused call why) = ⊥

-- the log ends with a tick or a done that closes the only open job
pub record Emptied (tasks : List Task) (log : List Entry) : Type 0 where
  pub earlier : List Entry
  pub entry : Entry
  pub cut : log ≡ earlier ++ (entry ∷ [])
  pub shuts : Shuts entry
  pub row : ℕ
  pub was : Open tasks row earlier
  pub only : (other : ℕ) → Open tasks other earlier → other ≡ row
  pub gone : Open tasks row log → ⊥

-- a sleep begins at the end of the log
abbrev pub Begins : List Task → List Entry → Type 0
Begins tasks log = (log ≡ []) ⊎ Emptied tasks log

-- the part ends with its first waking entry
pub record Ends (part : List Entry) : Type 0 where
  pub sleeping : List Entry
  pub entry : Entry
  pub cut : part ≡ sleeping ++ (entry ∷ [])
  pub still : tally is_waking sleeping ≡ 0
  pub wakes : is_waking entry ≡ 1

-- as many ticks after its release as the row's due, the job is still unserved
pub record Missed (tasks : List Task) (log : List Entry) : Type 0 where
  pub before : List Entry
  pub row : ℕ
  pub wait : Option ℕ
  pub since : List Entry
  pub rest : List Entry
  pub cut : log ≡ (before ++ (released row wait ∷ since)) ++ rest
  pub reached : ticks since ≡ (task_at tasks row).due
  pub unserved : Unserved tasks row since

abbrev pub call_of : Entry → Call
call_of (released row wait) = Release row
call_of (done row) = Done row
call_of (ticked who rang) = Tick
call_of (reported row status) = Report row
call_of (refused call why) = call

abbrev pub calls_of : List Entry → List Call
calls_of [] = []
calls_of (e ∷ log) = call_of e ∷ calls_of log

-- what the call answered: the wait is not seen
abbrev pub answer_of : Entry → Result Answer Refusal
answer_of (released row wait) = Ok Released
answer_of (done row) = Ok Closed
answer_of (ticked who rang) = Ok (Ticked who rang)
answer_of (reported row status) = Ok (Reported status)
answer_of (refused call why) = Err why

abbrev pub answers_of : List Entry → List (Result Answer Refusal)
answers_of [] = []
answers_of (e ∷ log) = answer_of e ∷ answers_of log
