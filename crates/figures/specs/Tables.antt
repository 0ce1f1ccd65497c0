-- A table's figure: what its tasks are quoted, or why they are refused. Assumes nothing.
--   Quoted     the tasks are accepted with this common period, this load and these sleeps
--   Declined   the tasks, with this common period, are refused with this number and this value
--   Nearby     the smallest margin of a row's windows that are shorter than its due and gap together
--   by_share   the sleeps that a rule by the tasks' share of time would give, where each job is due with the next release
-- and tests for them, which only compute. The last two are rules that planners have used, and are not ours.
use Rattle.std.specs.Prelude.{◌≡◌, ℕ, ◌+◌, ◌-◌, ◌*◌, ◌/◌, Bool, true, false, ◌&&◌, List, [], ◌∷◌, length, Ok, Err, Result, ◌==◌, nat_le, nat_lt}
use Rattle.std.specs.Str.{bytes_eq}
use Rattle.refusal.specs.declared.cases.Refusal.{Refusal}
use Rattle.refusal.specs.declared.record.Record.{Record}
use Rattle.refusal.specs.Records.{record_of, valued}
use Rattle.table.specs.declared.task.Task.{Task}
use Rattle.table.specs.Common.{lcm}
use Rattle.table.specs.Tasks.{task_at, LeastCommon}
use Rattle.planner.specs.Computed.{lesser, least_margin, shortest_of, computed}
use Rattle.planner.specs.Demand.{load, Loads, Accepted}
use Rattle.planner.specs.Margins.{LeastMargin}
use Rattle.planner.specs.Plans.{AllSleeps}
use Rattle.planner.specs.Verdict.{Refused}

pub record Quoted (tasks : List Task) (h l : ℕ) (sleeps : List ℕ) : Type 0 where
  pub period : LeastCommon tasks h
  pub loads : Loads tasks h l
  pub accepted : Accepted tasks
  pub sleeps_are : AllSleeps tasks sleeps

-- both refusals of a plan are of layer 3, and name a value only
pub record Declined (tasks : List Task) (h number value : ℕ) : Type 0 where
  pub period : LeastCommon tasks h
  pub why : Refusal
  pub refused : Refused tasks h why
  pub told : record_of why ≡ valued number 3 value

abbrev pub Nearby : List Task → ℕ → ℕ → Type 0
Nearby tasks row margin = LeastMargin tasks (task_at tasks row).due ((task_at tasks row).due + (task_at tasks row).gap) margin

-- of rows in the order of their gaps, after rows that use so much of the common period h: a row's gap, less the share of
-- the rows up to it, and no more than the sleep of a row with a longer gap
unfoldable pub by_share : ℕ → ℕ → List Task → List ℕ
by_share h used [] = []
by_share h used (t ∷ tasks) =
    lesser ((h - (used + t.run * (h / t.gap))) * t.gap / h) (shortest_of (by_share h (used + t.run * (h / t.gap)) tasks))
    ∷ by_share h (used + t.run * (h / t.gap)) tasks

-- run, due and gap in order, in each row
unfoldable pub all_whole : List Task → Bool
all_whole [] = true
all_whole (t ∷ tasks) = nat_le 1 t.run && (nat_le t.run t.due && (nat_le t.due t.gap && all_whole tasks))

-- the least common multiple of h and the gaps
unfoldable pub common_from : ℕ → List Task → ℕ
common_from h [] = h
common_from h (t ∷ tasks) = common_from (lcm h t.gap) tasks

-- the rules compute these sleeps
unfoldable pub sleeps_in : Result (List ℕ) Refusal → List ℕ → Bool
sleeps_in (Ok sleeps) wanted = bytes_eq sleeps wanted
sleeps_in (Err why) wanted = false

-- the five numbers of a record agree
abbrev pub is_same_record : Record → Record → Bool
is_same_record r s =
    (r.number == s.number) && (r.layer == s.layer && (r.line == s.line && (r.place == s.place && r.value == s.value)))

-- the rules compute a refusal with this record
unfoldable pub refused_in : Result (List ℕ) Refusal → ℕ → ℕ → Bool
refused_in (Ok sleeps) number value = false
refused_in (Err why) number value = is_same_record (record_of why) (valued number 3 value)

-- the tasks are those of a table, with the common period h
unfoldable pub tabled : List Task → ℕ → Bool
tabled tasks h = all_whole tasks && common_from 1 tasks == h

-- the tests of a table's figure
unfoldable pub quoted : List Task → ℕ → ℕ → List ℕ → Bool
quoted tasks h l sleeps = tabled tasks h && (l == load tasks h && sleeps_in (computed tasks h) sleeps)

unfoldable pub declined : List Task → ℕ → ℕ → ℕ → Bool
declined tasks h number value = tabled tasks h && refused_in (computed tasks h) number value

-- accepted by what the rules compute
abbrev pub is_made : Result (List ℕ) Refusal → Bool
is_made (Ok sleeps) = true
is_made (Err why) = false

-- the test of the smallest margin that a look as far as the row's own gap finds
unfoldable pub nearby : List Task → ℕ → ℕ → ℕ → Bool
nearby tasks h row margin =
    tabled tasks h && (is_made (computed tasks h) && (nat_lt row (length tasks) && least_margin tasks (task_at tasks row).due ((task_at tasks row).gap - 1) == margin))
