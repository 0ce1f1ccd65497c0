-- What is answered where a table of these tasks, with the common period h, is to be planned. Assumes nothing.
--   Made      the plan is that of the tasks, which are accepted
--   Refused   the tasks are refused for their load, or else for the shortest window that demands more than it has
--   Windows   to be refused for the one or the other is the same as to have a window that demands more than it has
--   Judged    the whole promise: which tasks are accepted, and what the answer and the plan are then
use Rattle.std.specs.Prelude.{◌≡◌, ℕ, ◌<◌, ◌≤◌, true, ◌⊎◌, List, is_ok, Ok, Err, Result, MatchResult}
use Rattle.refusal.specs.declared.cases.Refusal.{Refusal}
use Rattle.refusal.specs.declared.cases.Refusal.TheVariants.{Overload, Overdemand}
use Rattle.table.specs.declared.task.Task.{Task}
use Rattle.planner.specs.declared.plan.Plan.{Plan}
use Rattle.planner.specs.Computed.{computed}
use Rattle.planner.specs.Demand.{load, Accepted}
use Rattle.planner.specs.Margins.{FirstFailure, Failing}
use Rattle.planner.specs.Plans.{planned, sleeps_of, period_of, load_of, Empty, AllSleeps}

pub record Made (tasks : List Task) (h : ℕ) (plan : Plan) : Type 0 where
  pub accepted : Accepted tasks
  pub holds : planned plan ≡ tasks
  pub period : period_of plan ≡ h
  pub loads : load_of plan ≡ load tasks h
  pub sleeps : AllSleeps tasks (sleeps_of plan)

abbrev pub Refused : List Task → ℕ → Refusal → Type 0
Refused tasks h e =
    ((h < load tasks h) × (e ≡ Overload (load tasks h)))
    ⊎ ((t : ℕ) × (load tasks h ≤ h) × (t < h) × FirstFailure tasks 1 t × (e ≡ Overdemand t))

pub record Windows (tasks : List Task) (h : ℕ) : Type 0 where
  pub refused_fails : (e : Refusal) → Refused tasks h e → Failing tasks
  pub failing_is_refused : Failing tasks → (e : Refusal) × Refused tasks h e
  pub accepted_never_fails : Accepted tasks → Failing tasks → ⊥
  pub without_failing_accepted : (Failing tasks → ⊥) → Accepted tasks

pub record Judged {A : Type 0} (tasks : List Task) (h : ℕ) (answer : Result A Refusal) (plan : Plan) : Type 0 where
  -- accepted exactly when no window can demand more ticks than it has
  pub only_accepted : is_ok answer ≡ true → Accepted tasks
  pub all_accepted : Accepted tasks → is_ok answer ≡ true
  -- and then the plan is that of the tasks; else it is empty
  pub answered : MatchResult answer (λ _. Made tasks h plan) (λ e. Refused tasks h e × Empty plan)
  pub windows : Windows tasks h
  -- and all of it is what the rules compute
  pub computes : MatchResult answer (λ _. computed tasks h ≡ Ok (sleeps_of plan)) (λ e. computed tasks h ≡ Err e)
