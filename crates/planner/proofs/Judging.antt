-- Why the load and the windows of one period decide all windows. A load above the common period makes the window of two
-- periods and a tick fail, as the need grows by the load each period. A load within it lets a failing window fail one
-- period sooner too, so that the first to fail is shorter than the period.
use Rattle.std.proofs.Common.{◌≡◌, ℕ, suc, ◌+◌, ◌-◌, ◌*◌, ◌<◌, ◌≤◌, ◌⊎◌, List, length, Some, None, Ok, Err, Option, sym, refl, ap, ◌∙◌, inl, inr, mul-le-mul_left, arith}
use Rattle.std.proofs.lemmas.Bool.{cases_lt, cases_eq}
use Rattle.refusal.specs.declared.cases.Refusal.{Refusal}
use Rattle.refusal.specs.declared.cases.Refusal.TheVariants.{Overload, Overdemand}
use Rattle.table.specs.declared.task.Task.{Task}
use Rattle.table.specs.Tasks.{task_at, AllWhole, Common}
use Rattle.planner.specs.declared.plan.Plan.{Plan}
use Rattle.planner.specs.Computed.{first_failure, computed}
use Rattle.planner.specs.Demand.{demand, need, load}
use Rattle.planner.specs.Margins.{FirstFailure, Failing}
use Rattle.planner.specs.Plans.{planned, sleeps_of, period_of, Empty}
use Rattle.planner.specs.Verdict.{Made, Refused, Windows, Judged}
use Rattle.planner.proofs.Computing.{Tells, first_tells, computed_made, computed_refused}
use Rattle.planner.proofs.Demand.{demand_none}
use Rattle.planner.proofs.Plans.{plan_sleeps}
use Rattle.planner.proofs.Sums.{sum_to_none}
use Rattle.planner.proofs.Repeats.{need_repeats, need_repeats_often}

-- a failing window has a first one at or before it
first_of : (tasks : List Task) (t : ℕ) → 1 ≤ t → t < need tasks t → (x : ℕ) × FirstFailure tasks 1 x
first_of tasks t a over = go (first_failure tasks t) (first_tells tasks t)
  where
    go : (o : Option ℕ) → Tells tasks t o → (x : ℕ) × FirstFailure tasks 1 x
    go (Some x) told = (x, told.1)
    go None told = absurd (omega (arith, told t a (omega arith)))

need_of_nothing : (tasks : List Task) → AllWhole tasks → need tasks 0 ≡ 0
unfolding need
need_of_nothing tasks whole =
    sum_to_none (length tasks) (λ row. demand (task_at tasks row) 0) (λ row l. demand_none (task_at tasks row) 0 (omega (arith, whole row l)))

module _ (tasks : List Task) (h : ℕ) (whole : AllWhole tasks) (common : Common tasks h) (some : 1 ≤ h) where
  -- the first window to fail is shorter than the period
  pub first_short : load tasks h ≤ h → (t : ℕ) → FirstFailure tasks 1 t → t < h
  first_short small t f = go (cases_lt t h)
    where
      sooner : h ≤ t → (t - h ≡ 0) ⊎ (t - h ≡ 0 → ⊥) → need tasks (t - h) ≤ t - h
      sooner l (inl e) = omega (arith, ap (need tasks) e, need_of_nothing tasks whole)
      sooner l (inr e) = f.before (t - h) (omega (arith, e)) (omega arith)

      go : (t < h) ⊎ (h ≤ t) → t < h
      go (inl l) = l
      go (inr l) =
          let e : t ≡ t - h + h = omega arith in
          absurd (omega (arith, f.fails, ap (need tasks) e, need_repeats tasks h whole common (t - h), sooner l (cases_eq (t - h) 0)))

  refused_fails : (e : Refusal) → Refused tasks h e → Failing tasks
  refused_fails e (inl over) =
      let m : 2 * suc h ≤ 2 * load tasks h = mul-le-mul_left 2 over.0 in
      (1 + 2 * h, omega arith, omega (arith, m, need_repeats_often tasks h whole common 2 1))
  refused_fails e (inr first) = (first.0, first.3.after, first.3.fails)

  failing_is_refused : Failing tasks → (e : Refusal) × Refused tasks h e
  failing_is_refused failing = go (cases_lt h (load tasks h))
    where
      go : (h < load tasks h) ⊎ (load tasks h ≤ h) → (e : Refusal) × Refused tasks h e
      go (inl over) = (Overload (load tasks h), inl (over, refl))
      go (inr small) =
          let f = first_of tasks failing.0 failing.1 failing.2 in
          (Overdemand f.0, inr (f.0, small, first_short small f.0 f.1, f.1, refl))

  pub windows : Windows tasks h
  windows =
      record {
        refused_fails = refused_fails;
        failing_is_refused = failing_is_refused;
        accepted_never_fails = λ ok f. omega (arith, ok f.0 f.1, f.2);
        without_failing_accepted = λ none t a. go none t a (cases_lt t (need tasks t));
      }
    where
      go : (Failing tasks → ⊥) → (t : ℕ) → 1 ≤ t → (t < need tasks t) ⊎ (need tasks t ≤ t) → need tasks t ≤ t
      go none t a (inl over) = absurd (none (t, a, over))
      go none t a (inr ok) = ok

pub judged_made : {A : Type 0} (tasks : List Task) (h : ℕ) (a : A) (plan : Plan) → Windows tasks h → Made tasks h plan → Judged {A = A} tasks h (Ok a) plan
judged_made tasks h a plan w made =
    let here : computed (planned plan) (period_of plan) ≡ Ok (sleeps_of plan) =
    computed_made (planned plan) (period_of plan) plan.rows.whole plan.rows.multiple plan.rows.positive (sleeps_of plan) plan.accepted (plan_sleeps plan) in
    record {
      only_accepted = λ _. made.accepted;
      all_accepted = λ _. refl;
      answered = made;
      windows = w;
      computes = ap (λ rows. computed rows h) (sym made.holds) ∙ ap (computed (planned plan)) (sym made.period) ∙ here;
    }

pub judged_refused : {A : Type 0} (tasks : List Task) (h : ℕ) (e : Refusal) (plan : Plan) → Windows tasks h → Refused tasks h e → Empty plan
    → Judged {A = A} tasks h (Err e) plan
judged_refused tasks h e plan w refused empty =
    record {
      only_accepted = λ ok. let z : ◌≡◌ {A = ℕ} 0 1 = cc in absurd (omega arith);
      all_accepted = λ ok. absurd (w.accepted_never_fails ok (w.refused_fails e refused));
      answered = (refused, empty);
      computes = computed_refused tasks h e refused;
      windows = w;
    }
