-- What a plan's type knows of it, in the words of its readings: as many sleeps as tasks, and each the sleep of its row.
-- The window at which a sleep is met is one of the first common period from the row's due on, and is found there again.
use Rattle.std.proofs.Common.{◌≡◌, ℕ, ◌+◌, ◌<◌, ◌≤◌, ◌⊎◌, List, [], length, get_or, take, Some, None, Option, MatchOption, sym, ap, ◌∙◌, subst, inl, inr, arith}
use mathlib.Core.Logic.{∥∥₁_map}
use Rattle.std.specs.List.{slice_get}
use Rattle.std.proofs.lemmas.Bool.{cases_lt}
use Rattle.std.proofs.lemmas.List.{length-take-le, get_or-take}
use Rattle.std.proofs.lemmas.Option.{slice_get-get_or, slice_get_past}
use Rattle.table.specs.declared.task.Task.{Task}
use Rattle.table.specs.Tasks.{task_at}
use Rattle.planner.specs.declared.plan.Plan.{Plan}
use Rattle.planner.specs.Demand.{need, load, Accepted, IsSleep}
use Rattle.planner.specs.Sleeps.{sleep_at, MetNear, Rested, Tight}
use Rattle.planner.specs.Computed.{shortest_of}
use Rattle.planner.specs.Plans.{planned, sleeps_of, period_of, AllSleeps, Shortest}
use Rattle.planner.specs.Verdict.{Made}
use Rattle.planner.proofs.Shortest.{shortest_computed, shortest_absent}
use Rattle.planner.proofs.Witness.{found_again}

pub few : (plan : Plan) → length (planned plan) ≤ 64
few plan = let rows = plan.rows in omega (arith, length-take-le rows.count rows.list (omega (arith, rows.within, rows.size)), rows.within)

pub sleeps_count : (plan : Plan) → length (sleeps_of plan) ≡ length (planned plan)
sleeps_count plan = length-take-le (length (planned plan)) plan.sleeps (omega (arith, few plan, plan.sizes))

pub sleep_kept : (plan : Plan) (row : ℕ) → row < length (planned plan) → sleep_at (sleeps_of plan) row ≡ get_or plan.sleeps row 0
sleep_kept plan row h = get_or-take (length (planned plan)) plan.sleeps row 0 h

-- the window at which a row's sleep is met, by name
pub met_within : (tasks : List Task) (h : ℕ) (sleeps : List ℕ) → Tight tasks h sleeps → (row : ℕ) → row < length tasks
    → MetNear tasks h row (sleep_at sleeps row)
met_within tasks h sleeps tight row l = found_again (λ t. sleep_at sleeps row + need tasks t) (λ t. t) (task_at tasks row).due h (tight row l)

is_sleep : (tasks : List Task) (h : ℕ) (sleeps : List ℕ) → Rested tasks sleeps → Tight tasks h sleeps → (row : ℕ) → row < length tasks
    → IsSleep tasks row (sleep_at sleeps row)
is_sleep tasks h sleeps rested tight row l =
    let m = met_within tasks h sleeps tight row l in
    record { always = λ t d. rested row t l d; met = (m.0, m.1, m.3) }

pub plan_sleeps : (plan : Plan) → AllSleeps (planned plan) (sleeps_of plan)
plan_sleeps plan =
    record {
      size = sleeps_count plan;
      each = λ row l. is_sleep (planned plan) (period_of plan) (sleeps_of plan) plan.rested plan.tight row l;
    }

pub plan_met : (plan : Plan) (row : ℕ) → row < length (planned plan)
    → MetNear (planned plan) (period_of plan) row (sleep_at (sleeps_of plan) row)
plan_met plan row l = met_within (planned plan) (period_of plan) (sleeps_of plan) plan.tight row l

-- sleeps that lie at the start of an array
pub rested_front : (tasks : List Task) (sleeps : List ℕ) → Rested tasks sleeps → Rested tasks (take (length tasks) sleeps)
rested_front tasks sleeps rested row t l d = omega (arith, get_or-take (length tasks) sleeps row 0 l, rested row t l d)

pub tight_front : (tasks : List Task) (h : ℕ) (sleeps : List ℕ) → Tight tasks h sleeps → Tight tasks h (take (length tasks) sleeps)
tight_front tasks h sleeps tight row l = ∥∥₁_map (tight row l) (λ m. (m.0, m.1, m.2, omega (arith, get_or-take (length tasks) sleeps row 0 l, m.3)))

-- a plan that holds the tasks is the plan that is made of them
pub made : (tasks : List Task) (h : ℕ) (plan : Plan) → planned plan ≡ tasks → period_of plan ≡ h → Made tasks h plan
made tasks h plan holds period =
    record {
      accepted = subst Accepted holds plan.accepted;
      holds = holds;
      period = period;
      loads = plan.loads ∙ ap (λ rows. load rows (period_of plan)) holds ∙ ap (load tasks) period;
      sleeps = subst (λ rows. AllSleeps rows (sleeps_of plan)) holds (plan_sleeps plan);
    }

-- what is told of a row's sleep: none of a missing row
abbrev pub SleepTold : Plan → ℕ → Option ℕ → Type 0
SleepTold plan row r = MatchOption r (length (planned plan) ≤ row) (λ s. (row < length (planned plan)) × IsSleep (planned plan) row s)

abbrev pub NearTold : Plan → ℕ → Option ℕ → Type 0
NearTold plan row r = MatchOption r (length (planned plan) ≤ row) (MetNear (planned plan) (period_of plan) row)

-- a row is there with its sleep, or missing
there : (plan : Plan) (row : ℕ) (P : Option ℕ → Type 0) → (row < length (planned plan) → P (Some (sleep_at (sleeps_of plan) row)))
    → (length (planned plan) ≤ row → P None) → P (slice_get (sleeps_of plan) row)
there plan row P found gone = go (cases_lt row (length (planned plan)))
  where
    go : (row < length (planned plan)) ⊎ (length (planned plan) ≤ row) → P (slice_get (sleeps_of plan) row)
    go (inl l) = subst P (sym (slice_get-get_or (sleeps_of plan) row 0 (omega (arith, sleeps_count plan)))) (found l)
    go (inr h) = subst P (sym (slice_get_past (sleeps_of plan) row (omega (arith, sleeps_count plan)))) (gone h)

pub sleep_told : (plan : Plan) (row : ℕ) → SleepTold plan row (slice_get (sleeps_of plan) row)
sleep_told plan row = there plan row (SleepTold plan row) (λ l. (l, (plan_sleeps plan).each row l)) (λ h. h)

pub near_told : (plan : Plan) (row : ℕ) → NearTold plan row (slice_get (sleeps_of plan) row)
near_told plan row = there plan row (NearTold plan row) (λ l. plan_met plan row l) (λ h. h)

-- the smallest of the sleeps is the one that is computed
pub shortest_told : (plan : Plan) (r : Option ℕ) → MatchOption r (planned plan ≡ []) (λ s. (1 ≤ length (planned plan)) × Shortest (sleeps_of plan) s)
    → r ≡ shortest_of (sleeps_of plan)
shortest_told plan None h = shortest_absent (sleeps_of plan) (omega (arith, sleeps_count plan, ap length h))
shortest_told plan (Some s) h = shortest_computed (sleeps_of plan) s h.1
