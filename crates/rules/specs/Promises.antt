-- What a board promises, told by its log alone. Assumes nothing.
--   DueKept     no due tick is missed
--   SleepKept   no sleep is cut short
--   NoLonger    no longer sleeps would do
--   Promise     the three together, of one log
--   Promised    whatever calls are made from a view on, in whatever order, their log keeps the promise
--   Replayed    the answers are those of a run from a new board, whose log keeps the promise
use Rattle.std.specs.Prelude.{◌≡◌, ℕ, ◌+◌, ◌<◌, ◌≤◌, min, ◌⊎◌, List, [], ◌∷◌, ◌++◌, length, Option, Result}
use Rattle.refusal.specs.declared.cases.Refusal.{Refusal}
use Rattle.table.specs.declared.task.Task.{Task}
use Rattle.table.specs.Tasks.{task_at, AllWhole}
use Rattle.rules.specs.declared.calls.Call.{Call}
use Rattle.rules.specs.declared.calls.Call.TheVariants.{Release, Done, Tick, Report}
use Rattle.rules.specs.declared.calls.Answer.{Answer}
use Rattle.planner.specs.Sleeps.{sleep_at}
use Rattle.planner.specs.Plans.{Shortest}
use Rattle.rules.specs.Views.{View, Rules, count, fresh}
use Rattle.rules.specs.Plans.{Planned}
use Rattle.rules.specs.Steps.{Entry, Entry.released, Step, Runs}
use Rattle.rules.specs.Logs.{tally, ticks, is_run, is_done, is_refused, up_to, since_release, Begins, Ends, call_of, calls_of, answers_of, Missed}

-- the log of a run from a new board
abbrev pub Logged : Rules → List Entry → Type 0
Logged R log = (w : View) × Runs R (fresh (count R)) log w

-- No due tick is missed: if as many ticks as the row's due came after a release, then the row ran in exactly its run of
-- the first that many, or a done of it was accepted after the release and before the last of them.
abbrev pub DueKept : List Task → List Entry → Type 0
DueKept tasks log =
    (before after : List Entry) (row : ℕ) (wait : Option ℕ) → log ≡ before ++ (released row wait ∷ after)
    → (task_at tasks row).due ≤ ticks after
    → (tally (is_run row) (up_to (task_at tasks row).due after) ≡ (task_at tasks row).run)
    ⊎ (0 < tally (is_done row) (up_to (task_at tasks row).due after))

-- No sleep is cut short: the ticks of each ended sleep, from its first release on, plus the alarm's grain are more than
-- the lesser of shortest sleep and reach.
abbrev pub SleepKept : Rules → List Entry → Type 0
SleepKept R log =
    (shortest : ℕ) → Shortest R.sleeps shortest
    → (before inside after : List Entry) → log ≡ before ++ (inside ++ after) → Begins R.tasks before → Ends inside
    → min shortest R.reach < ticks (since_release inside) + R.grain

-- only releases and ticks
abbrev pub Plain : List Call → Type 0
Plain [] = Unit {0}
Plain (Release row ∷ calls) = Plain calls
Plain (Tick ∷ calls) = Plain calls
Plain (Done row ∷ calls) = ⊥
Plain (Report row ∷ calls) = ⊥

-- these calls, made on a new board: there is a run, and in every run all are accepted and a job passes its due tick
pub record Fails (R : Rules) (calls : List Call) : Type 0 where
  pub exists : (log : List Entry) × Logged R log × (calls_of log ≡ calls)
  pub always : (log : List Entry) → Logged R log → calls_of log ≡ calls
      → (tally is_refused log ≡ 0) × Missed R.tasks log

-- over an exact alarm, one of grain 1
abbrev pub exact : List Task → List ℕ → ℕ → Rules
exact tasks sleeps reach = record { tasks = tasks; sleeps = sleeps; reach = reach; grain = 1 }

-- No longer sleeps would do: for every other list of as many sleeps, all above our shortest, there are releases and
-- ticks, fixed before the alarm, with which a new board with those sleeps fails over every far exact alarm, one whose
-- reach is above our shortest sleep.
abbrev pub NoLonger : List Task → List ℕ → Type 0
NoLonger tasks sleeps =
    (shortest : ℕ) → Shortest sleeps shortest
    → (other : List ℕ) → length other ≡ length tasks → ((row : ℕ) → row < length tasks → shortest < sleep_at other row)
    → (calls : List Call) × Plain calls × ((reach : ℕ) → shortest < reach → Fails (exact tasks other reach) calls)

pub record Promise (R : Rules) (log : List Entry) : Type 0 where
  pub due : DueKept R.tasks log
  pub sleep : SleepKept R log
  pub longer : NoLonger R.tasks R.sleeps

abbrev pub Promised : Rules → View → Type 0
Promised R v = (log : List Entry) (w : View) → Runs R v log w → Promise R log

pub record Replayed (R : Rules) (calls : List Call) (answers : List (Result Answer Refusal)) : Type 0 where
  pub log : List Entry
  pub run : Logged R log
  pub made : calls_of log ≡ calls
  pub told : answers_of log ≡ answers
  pub promise : Promise R log

-- Every log of a board whose sleeps are as planned keeps the promise, over whatever alarm.
abbrev pub PromisesKept : Type 0
PromisesKept = (R : Rules) → Planned R.tasks R.sleeps → Promised R (fresh (count R))

-- the call has a step
abbrev pub Goes : Rules → View → Call → Type 0
Goes R v call = (e : Entry) × (w : View) × Step R v e w × (call_of e ≡ call)

-- The rules answer every call in every view that is reached, as long as the alarm has a choice.
abbrev pub GoesOn : Type 0
GoesOn = (R : Rules) → AllWhole R.tasks → 1 ≤ R.grain
    → (log : List Entry) (v : View) → Runs R (fresh (count R)) log v → (call : Call) → Goes R v call
