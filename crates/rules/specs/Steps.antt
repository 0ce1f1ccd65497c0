-- The rules of the board: which answer each call may have in a view, and which view comes after it. Assumes nothing.
--   Entry   one call with its answer: a line of a log
--   Step    one call leads from a view to another
--   Runs    the calls of a log, one after the other, lead from a view to another
-- The alarm chooses its wait, within two bounds. The choice stands in the entry, so a run is fixed by its log.
use Rattle.std.specs.Prelude.{◌≡◌, ℕ, ◌+◌, ◌<◌, ◌≤◌, min, Bool, cond, ◌⊎◌, List, [], ◌∷◌, Some, None, Option, ◌==◌, slice_set}
use Rattle.refusal.specs.declared.cases.Refusal.{Refusal}
use Rattle.refusal.specs.declared.cases.Refusal.TheVariants.{NoSuchRow, TooSoon, ClockEnd, NoOpenJob, NotBegun}
use Rattle.alarm.specs.Meaning.{waiting, onward, rings}
use Rattle.rules.specs.declared.slots.Mode.{Mode}
use Rattle.rules.specs.declared.slots.Mode.TheVariants.{Asleep, Awake}
use Rattle.rules.specs.declared.slots.Job.{Job}
use Rattle.rules.specs.declared.slots.Slot.{Slot}
use Rattle.rules.specs.declared.calls.Call.{Call}
use Rattle.rules.specs.declared.calls.Call.TheVariants.{Release, Done, Tick, Report}
use Rattle.rules.specs.declared.calls.Status.{Status}
use Rattle.rules.specs.Views.{slot_at, job_at, opened, closed, fed, View, Rules, count, task_of, sleep_of}
use Rattle.rules.specs.Plans.{limit}

-- released: the row, and the wait that the alarm answered if it was set; done: the row; ticked: the row that ran, if
-- any, and whether the alarm rang; reported: the row and its status; refused: the call and why
pub data Entry : Type 0 where
  released : ℕ → Option ℕ → Entry
  done : ℕ → Entry
  ticked : Option ℕ → Bool → Entry
  reported : ℕ → Status → Entry
  refused : Call → Refusal → Entry

-- no job is open
abbrev pub Idle : List Slot → Type 0
Idle slots = (row : ℕ) → job_at slots row ≡ None

-- some job is open
abbrev pub Busy : List Slot → Type 0
Busy slots = (row : ℕ) × (j : Job) × (job_at slots row ≡ Some j)

-- at least gap ticks are past since the last release, if there was one
abbrev pub Apart : Option ℕ → ℕ → ℕ → Type 0
Apart None gap now = Unit {0}
Apart (Some t) gap now = t + gap ≤ now

-- fewer than gap ticks are past since the last release
abbrev pub Soon : Option ℕ → ℕ → ℕ → Type 0
Soon None gap now = ⊥
Soon (Some t) gap now = now < t + gap

-- the alarm is not set: it and the mode stay
pub record Kept (m : Mode) (a : Option ℕ) (wait : Option ℕ) (w : View) : Type 0 where
  pub unasked : wait ≡ None
  pub alarm : w.alarm ≡ a
  pub mode : w.mode ≡ m

-- the mode of a sleeping board whose alarm answered the wait m
abbrev pub mode_for : ℕ → Mode
mode_for m = cond (m == 0) Awake Asleep

-- the alarm is set for s ticks and answers m: at most the lesser of s and its reach, and less than its grain below
-- that; a wait of 0 wakes the board, with the alarm unset
pub record Asked (R : Rules) (s m : ℕ) (w : View) : Type 0 where
  pub most : m ≤ min s R.reach
  pub near : min s R.reach < m + R.grain
  pub alarm : w.alarm ≡ waiting m
  pub mode : w.mode ≡ mode_for m

abbrev pub Asks : Rules → ℕ → Option ℕ → View → Type 0
Asks R s None w = ⊥
Asks R s (Some m) w = Asked R s m w

-- what a release of a row whose sleep is s does to the mode and the alarm: a sleeping board sets its alarm to s if it
-- is unset or has more left
abbrev pub Sets : Mode → Option ℕ → Rules → ℕ → Option ℕ → View → Type 0
Sets Awake a R s wait w = Kept Awake a wait w
Sets Asleep None R s wait w = Asks R s wait w
Sets Asleep (Some l) R s wait w = ((l ≤ s) × Kept Asleep (Some l) wait w) ⊎ ((s < l) × Asks R s wait w)

-- a release opens a job, due at now + due, in the row's slot
pub record Releases (R : Rules) (v : View) (row : ℕ) (wait : Option ℕ) (w : View) : Type 0 where
  pub listed : row < count R
  pub apart : Apart (slot_at v.slots row).last (task_of R row).gap v.now
  pub now : w.now ≡ v.now
  pub ran : w.ran ≡ v.ran
  pub slept : w.slept ≡ v.slept
  pub slots : w.slots ≡ slice_set v.slots row (opened v.now (v.now + (task_of R row).due))
  pub sets : Sets v.mode v.alarm R (sleep_of R row) wait w

-- after a closing: with no job open the board falls asleep, with the alarm unset; otherwise mode and alarm are as given
abbrev pub Settles : Mode → Option ℕ → View → Type 0
Settles m a w = (Idle w.slots × (w.mode ≡ Asleep) × (w.alarm ≡ None)) ⊎ (Busy w.slots × (w.mode ≡ m) × (w.alarm ≡ a))

-- the row has the open job j, with the smallest due tick, and the lowest row of those
pub record Chosen (slots : List Slot) (row : ℕ) (j : Job) : Type 0 where
  pub job : job_at slots row ≡ Some j
  pub first : (other : ℕ) (k : Job) → job_at slots other ≡ Some k → (j.due < k.due) ⊎ ((j.due ≡ k.due) × (row ≤ other))

-- the row's job j gets the tick
pub record Feeds (R : Rules) (a : Option ℕ) (v : View) (row : ℕ) (j : Job) (w : View) : Type 0 where
  pub chosen : Chosen v.slots row j
  pub slots : w.slots ≡ slice_set v.slots row (fed (task_of R row).run (slot_at v.slots row) j)
  pub ran : w.ran ≡ v.ran + 1
  pub slept : w.slept ≡ v.slept
  pub settles : Settles Awake (onward a) w

-- no job is open to get the tick; a board that is reached from a new one is never awake then
pub record Rests (a : Option ℕ) (v w : View) : Type 0 where
  pub idle : Idle v.slots
  pub slots : w.slots ≡ v.slots
  pub ran : w.ran ≡ v.ran
  pub slept : w.slept ≡ v.slept
  pub settles : Settles Awake (onward a) w

abbrev pub Serves : Option ℕ → Option ℕ → Rules → View → View → Type 0
Serves None a R v w = Rests a v w
Serves (Some row) a R v w = (j : Job) × Feeds R a v row j w

-- the mode of a sleeping board after a tick: a ring wakes it
abbrev pub mode_after : Bool → Mode
mode_after rang = cond rang Awake Asleep

-- no job gets the tick
pub record Sleeps (who a : Option ℕ) (v w : View) : Type 0 where
  pub nobody : who ≡ None
  pub slots : w.slots ≡ v.slots
  pub ran : w.ran ≡ v.ran
  pub slept : w.slept ≡ v.slept + 1
  pub alarm : w.alarm ≡ onward a
  pub mode : w.mode ≡ mode_after (rings a)

-- what a tick does in a mode, with the alarm at a: a sleeping board sleeps on, one that is awake serves a job
abbrev pub Works : Mode → Option ℕ → Rules → Option ℕ → View → View → Type 0
Works Asleep a R who v w = Sleeps who a v w
Works Awake a R who v w = Serves who a R v w

-- a tick moves the clock on by one, and is passed to the alarm
pub record Ticks (R : Rules) (v : View) (who : Option ℕ) (rang : Bool) (w : View) : Type 0 where
  pub early : v.now < limit
  pub now : w.now ≡ v.now + 1
  pub rung : rang ≡ rings v.alarm
  pub works : Works v.mode v.alarm R who v w

-- a done closes the row's job, which has had a tick
pub record Closes (R : Rules) (v : View) (row : ℕ) (w : View) : Type 0 where
  pub listed : row < count R
  pub begun : (j : Job) × (job_at v.slots row ≡ Some j) × (0 < j.given)
  pub now : w.now ≡ v.now
  pub ran : w.ran ≡ v.ran
  pub slept : w.slept ≡ v.slept
  pub slots : w.slots ≡ slice_set v.slots row (closed (slot_at v.slots row))
  pub settles : Settles v.mode v.alarm w

-- the status of a row with this open job, if any
abbrev pub status_for : View → Option Job → Status
status_for v job = record { now = v.now; ran = v.ran; slept = v.slept; job = job }

-- a report alters nothing
pub record Reports (R : Rules) (v : View) (row : ℕ) (status : Status) (w : View) : Type 0 where
  pub listed : row < count R
  pub tells : status ≡ status_for v (job_at v.slots row)
  pub same : w ≡ v

-- why a call is refused: its questions, asked in turn
abbrev pub Refuses : Rules → View → Call → Refusal → Type 0
Refuses R v (Release row) why =
    ((why ≡ NoSuchRow) × (count R ≤ row))
    ⊎ ((why ≡ TooSoon) × (row < count R) × Soon (slot_at v.slots row).last (task_of R row).gap v.now)
Refuses R v (Done row) why =
    ((why ≡ NoSuchRow) × (count R ≤ row))
    ⊎ (((why ≡ NoOpenJob) × (row < count R) × (job_at v.slots row ≡ None))
    ⊎ ((why ≡ NotBegun) × (row < count R) × ((j : Job) × (job_at v.slots row ≡ Some j) × (j.given ≡ 0))))
Refuses R v Tick why = (why ≡ ClockEnd) × (limit ≤ v.now)
Refuses R v (Report row) why = (why ≡ NoSuchRow) × (count R ≤ row)

-- one call, with its answer, leads from the view v to the view w; a refused one alters nothing
abbrev pub Step : Rules → View → Entry → View → Type 0
Step R v (released row wait) w = Releases R v row wait w
Step R v (done row) w = Closes R v row w
Step R v (ticked who rang) w = Ticks R v who rang w
Step R v (reported row status) w = Reports R v row status w
Step R v (refused call why) w = Refuses R v call why × (w ≡ v)

abbrev pub Runs : Rules → View → List Entry → View → Type 0
Runs R v [] w = w ≡ v
Runs R v (e ∷ log) w = (u : View) × Step R v e u × Runs R u log w
