-- What the promises speak of is there: a plan, a served release, an ended sleep, longer sleeps, and a board that wakes,
-- falls asleep and comes to its clock's end. So none of them holds only because nothing meets its premises. Assumes nothing.
--   GoesBy       after a release on a new board any number of ticks may follow, for every table, row and alarm
--   waking_log   the calls of the example in docs/board.md, up to the ring
--   Premises     the witnesses, each named after the part of a promise that it is for
use Rattle.std.specs.Prelude.{◌≡◌, ℕ, ◌<◌, ◌≤◌, true, false, List, [], ◌∷◌, length, Some, None, Option}
use Rattle.refusal.specs.declared.cases.Refusal.TheVariants.{ClockEnd}
use Rattle.table.specs.Tasks.{AllWhole}
use Rattle.planner.specs.Plans.{Shortest}
use Rattle.planner.specs.Sleeps.{sleep_at}
use Rattle.alarm.specs.Counting.{counter_reach}
use Rattle.rules.specs.declared.slots.Mode.TheVariants.{Asleep, Awake}
use Rattle.rules.specs.declared.calls.Call.TheVariants.{Tick}
use Rattle.rules.specs.Views.{View, Rules, count}
use Rattle.rules.specs.Plans.{limit, Planned}
use Rattle.rules.specs.Steps.{Entry, Entry.released, Entry.ticked, Entry.refused, Idle, Busy, Step}
use Rattle.rules.specs.Logs.{ticks, Ends}
use Rattle.rules.specs.Promises.{Logged, exact}
use Rattle.rules.specs.Exact.{Reached}
use Rattle.figures.specs.Figures.{row, cutter, sleeps_of_cutter}

abbrev pub GoesBy : Type 0
GoesBy = (R : Rules) → AllWhole R.tasks → 1 ≤ R.grain → (row n : ℕ) → row < count R → n ≤ limit
    → (wait : Option ℕ) × (after : List Entry) × Logged R (released row wait ∷ after) × (ticks after ≡ n)

-- the cutter's board over a counter
abbrev pub cutter_rules : Rules
cutter_rules = exact cutter sleeps_of_cutter counter_reach

abbrev pub waking_log : List Entry
waking_log =
    released 2 (Some 6) ∷ ticked None false ∷ released 0 (Some 4)
    ∷ ticked None false ∷ ticked None false ∷ ticked None false ∷ ticked None true ∷ []

-- one row without sleep, whose job takes a tick
abbrev pub lamp_rules : Rules
lamp_rules = exact (row 1 1 2 ∷ []) (0 ∷ []) counter_reach

-- a step from a view that is reached
pub record Stepped (R : Rules) (P : View → View → Type 0) : Type 0 where
  pub log : List Entry
  pub before : View
  pub reached : Reached R log before
  pub entry : Entry
  pub after : View
  pub step : Step R before entry after
  pub so : P before after

pub record Premises : Type 0 where
  pub plan : Planned cutter sleeps_of_cutter × Shortest sleeps_of_cutter 4
  pub due : GoesBy
  pub sleep : Logged cutter_rules waking_log × Ends waking_log
  pub longer : (other : List ℕ) × (length other ≡ length cutter) × ((row : ℕ) → row < length cutter → 4 < sleep_at other row)
  pub far : 4 < counter_reach
  pub wakes : Stepped lamp_rules (λ v w. (v.mode ≡ Asleep) × (w.mode ≡ Awake))
  pub empties : Stepped lamp_rules (λ v w. (v.mode ≡ Awake) × Busy v.slots × Idle w.slots)
  pub clock : (log : List Entry) × (v : View) × Reached lamp_rules log v × Step lamp_rules v (refused Tick ClockEnd) v
