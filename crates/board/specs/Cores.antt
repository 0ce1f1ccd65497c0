-- What an event does to a board apart from its alarm. Assumes nothing.
--   slots_of                     the slots of the plan's rows
--   view                         what is seen of the board when its alarm means a
--   rules_for                    the rules of a board over a plan and an alarm with this reach and grain
--   Opens, Serves, Dozes, Shuts  a job opens, one gets a tick, a tick is slept through, a job closes early
--   Settled                      with no job open the board is asleep; otherwise its mode is the given one
use Rattle.std.specs.Prelude.{◌≡◌, ℕ, ◌+◌, ◌<◌, Bool, ◌⊎◌, List, length, take, replicate, Some, None, Option, slice_set}
use Rattle.table.specs.Tasks.{task_at}
use Rattle.planner.specs.declared.plan.Plan.{Plan}
use Rattle.planner.specs.Plans.{planned, sleeps_of}
use Rattle.planner.specs.Sleeps.{sleep_at}
use Rattle.refusal.specs.declared.cases.Refusal.{Refusal}
use Rattle.rules.specs.declared.slots.Mode.{Mode}
use Rattle.rules.specs.declared.slots.Mode.TheVariants.{Asleep}
use Rattle.rules.specs.declared.slots.Job.{Job}
use Rattle.rules.specs.declared.slots.Slot.{Slot}
use Rattle.rules.specs.declared.calls.Call.{Call}
use Rattle.rules.specs.declared.calls.Status.{Status}
use Rattle.rules.specs.Views.{empty, slot_at, job_at, opened, closed, fed, View, Rules}
use Rattle.rules.specs.Steps.{Idle, Busy, Apart, Chosen, mode_after, status_for, Refuses}
use Rattle.board.specs.declared.inner.Core.{Core}

abbrev pub rules_for : Plan → ℕ → ℕ → Rules
rules_for plan reach grain = record { tasks = planned plan; sleeps = sleeps_of plan; reach = reach; grain = grain }

abbrev pub rows : Core → ℕ
rows c = length (planned c.plan)

abbrev pub slots_of : Core → List Slot
slots_of c = take (rows c) c.jobs.slots

abbrev pub view : Core → Option ℕ → View
view c a = record { now = c.now; ran = c.ran; slept = c.slept; mode = c.mode; slots = slots_of c; alarm = a }

-- asleep at tick 0 without jobs
pub record New (p : Plan) (c : Core) : Type 0 where
  pub plan : c.plan ≡ p
  pub now : c.now ≡ 0
  pub ran : c.ran ≡ 0
  pub slept : c.slept ≡ 0
  pub mode : c.mode ≡ Asleep
  pub slots : slots_of c ≡ replicate (length (planned p)) empty

-- all but the mode
pub record Same (c d : Core) : Type 0 where
  pub plan : d.plan ≡ c.plan
  pub now : d.now ≡ c.now
  pub ran : d.ran ≡ c.ran
  pub slept : d.slept ≡ c.slept
  pub jobs : d.jobs ≡ c.jobs

-- the call is refused, whatever the alarm
abbrev pub Refusing : Core → Call → Refusal → Type 0
Refusing c call why = (reach grain : ℕ) (a : Option ℕ) → Refuses (rules_for c.plan reach grain) (view c a) call why

-- the status of a row of the plan, whatever the alarm
abbrev pub Tells : Core → ℕ → Status → Type 0
Tells c row status = (row < rows c) × ((a : Option ℕ) → status ≡ status_for (view c a) (job_at (slots_of c) row))

-- the row's job opens; sleep is the row's sleep
pub record Opens (c : Core) (row sleep : ℕ) (d : Core) : Type 0 where
  pub listed : row < rows c
  pub apart : Apart (slot_at (slots_of c) row).last (task_at (planned c.plan) row).gap c.now
  pub waits : sleep ≡ sleep_at (sleeps_of c.plan) row
  pub plan : d.plan ≡ c.plan
  pub now : d.now ≡ c.now
  pub ran : d.ran ≡ c.ran
  pub slept : d.slept ≡ c.slept
  pub mode : d.mode ≡ c.mode
  pub slots : slots_of d ≡ slice_set (slots_of c) row (opened c.now (c.now + (task_at (planned c.plan) row).due))

abbrev pub Settled : Mode → Core → Type 0
Settled m d = (Idle (slots_of d) × (d.mode ≡ Asleep)) ⊎ (Busy (slots_of d) × (d.mode ≡ m))

-- the row, whose job comes first, gets a tick
pub record Feeds (c : Core) (row : ℕ) (j : Job) (d : Core) : Type 0 where
  pub chosen : Chosen (slots_of c) row j
  pub ran : d.ran ≡ c.ran + 1
  pub slots : slots_of d ≡ slice_set (slots_of c) row (fed (task_at (planned c.plan) row).run (slot_at (slots_of c) row) j)

-- no job is open to get it
pub record Rests (c d : Core) : Type 0 where
  pub idle : Idle (slots_of c)
  pub ran : d.ran ≡ c.ran
  pub slots : slots_of d ≡ slots_of c

abbrev pub Gives : Option ℕ → Core → Core → Type 0
Gives None c d = Rests c d
Gives (Some row) c d = (j : Job) × Feeds c row j d

-- the clock moves on by one tick awake
pub record Advances (c d : Core) : Type 0 where
  pub plan : d.plan ≡ c.plan
  pub now : d.now ≡ c.now + 1
  pub slept : d.slept ≡ c.slept
  pub mode : d.mode ≡ c.mode

-- a tick awake
pub record Serves (c : Core) (who : Option ℕ) (d : Core) : Type 0 where
  pub gives : Gives who c d
  pub plan : d.plan ≡ c.plan
  pub now : d.now ≡ c.now + 1
  pub slept : d.slept ≡ c.slept
  pub settled : Settled c.mode d

-- a tick is slept through; a ring wakes the board
pub record Dozes (c : Core) (rang : Bool) (d : Core) : Type 0 where
  pub plan : d.plan ≡ c.plan
  pub now : d.now ≡ c.now + 1
  pub ran : d.ran ≡ c.ran
  pub slept : d.slept ≡ c.slept + 1
  pub slots : slots_of d ≡ slots_of c
  pub mode : d.mode ≡ mode_after rang

-- the row's job closes early
pub record Shuts (c : Core) (row : ℕ) (d : Core) : Type 0 where
  pub listed : row < rows c
  pub begun : (j : Job) × (job_at (slots_of c) row ≡ Some j) × (0 < j.given)
  pub plan : d.plan ≡ c.plan
  pub now : d.now ≡ c.now
  pub ran : d.ran ≡ c.ran
  pub slept : d.slept ≡ c.slept
  pub slots : slots_of d ≡ slice_set (slots_of c) row (closed (slot_at (slots_of c) row))
  pub settled : Settled c.mode d
