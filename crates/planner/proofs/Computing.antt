-- What the computation finds is what the rules ask for: its first failure is the first, its margins are the smallest of one
-- period, and so its sleeps are the sleeps. As there is only one first failure and one sleep of a row, whatever answer meets
-- the rules is the computed one.
use Rattle.std.proofs.Common.{◌≡◌, ℕ, zero, suc, ◌+◌, ◌-◌, ◌<◌, ◌≤◌, cond, ltb, ◌⊎◌, List, length, Some, None, Ok, Err, Option, sym, refl, ap, ◌∙◌, subst, inl, inr, arith}
use Rattle.std.proofs.lemmas.List.{length-map, get_or-map, get_or_default, same_lists}
use Rattle.std.proofs.lemmas.Bool.{cases_lt, cases_eq, cases_order, cond-true, cond-false, lt-ltb, le-ltb}
use Rattle.refusal.specs.declared.cases.Refusal.{Refusal}
use Rattle.refusal.specs.declared.cases.Refusal.TheVariants.{Overdemand}
use Rattle.table.specs.declared.task.Task.{Task}
use Rattle.table.specs.Tasks.{task_at, AllWhole, Common}
use Rattle.planner.specs.Computed.{or_else, first_failure, least_margin, sleep_list, by_window, computed}
use Rattle.planner.specs.Demand.{need, load, Accepted, IsSleep}
use Rattle.planner.specs.Margins.{LeastMargin, FirstFailure}
use Rattle.planner.specs.Plans.{AllSleeps}
use Rattle.planner.specs.Verdict.{Refused}
use Rattle.planner.proofs.Repeats.{one_period_decides, accepted_loads}
use Rattle.planner.proofs.Sleeping.{joined}

-- what a search of the windows of 1 to n ticks tells
abbrev pub Tells : List Task → ℕ → Option ℕ → Type 0
Tells tasks n None = (t : ℕ) → 1 ≤ t → t ≤ n → need tasks t ≤ t
Tells tasks n (Some t) = (t ≤ n) × FirstFailure tasks 1 t

pub first_tells : (tasks : List Task) (n : ℕ) → Tells tasks n (first_failure tasks n)
unfolding first_failure
first_tells tasks zero = λ t a b. absurd (omega arith)
first_tells tasks (suc n) = go (first_failure tasks n) (first_tells tasks n) (cases_lt (suc n) (need tasks (suc n)))
  where
    up_to : ((t : ℕ) → 1 ≤ t → t ≤ n → need tasks t ≤ t) → need tasks (suc n) ≤ suc n
        → (t : ℕ) → 1 ≤ t → t ≤ suc n → (t ≡ suc n) ⊎ (t ≡ suc n → ⊥) → need tasks t ≤ t
    up_to none ok t a b (inl e) = omega (arith, ap (need tasks) e)
    up_to none ok t a b (inr e) = none t a (omega (arith, e))

    go : (o : Option ℕ) → Tells tasks n o → (suc n < need tasks (suc n)) ⊎ (need tasks (suc n) ≤ suc n)
        → Tells tasks (suc n) (or_else o (cond (ltb (suc n) (need tasks (suc n))) (Some (suc n)) None))
    go (Some t) told _ = (omega (arith, told.0), told.1)
    go None told (inl over) =
        subst (Tells tasks (suc n)) (sym (cond-true (ltb (suc n) (need tasks (suc n))) (Some (suc n)) None (lt-ltb _ _ over)))
        (omega arith, record { after = omega arith; fails = over; before = λ x a b. told x a (omega arith) })
    go None told (inr ok) =
        subst (Tells tasks (suc n)) (sym (cond-false (ltb (suc n) (need tasks (suc n))) (Some (suc n)) None (le-ltb _ _ ok)))
        (λ t a b. up_to told ok t a b (cases_eq t (suc n)))

-- the smallest margin of one window
of_one : (tasks : List Task) (t until : ℕ) → until ≡ t + 1 → need tasks t ≤ t → LeastMargin tasks t until (t - need tasks t)
of_one tasks t until e ok =
    record {
      below = λ x a b. let same : x ≡ t = omega arith in omega (arith, ap (need tasks) same);
      met = (t, omega arith, omega arith, omega arith);
    }

pub margin_tells : (tasks : List Task) (from n : ℕ) → ((t : ℕ) → from ≤ t → need tasks t ≤ t) → LeastMargin tasks from (from + suc n) (least_margin tasks from n)
unfolding least_margin
margin_tells tasks from zero ok = of_one tasks from (from + 1) refl (ok from (omega arith))
margin_tells tasks from (suc n) ok =
    joined tasks from (from + suc n) (from + suc (suc n)) (least_margin tasks from n) (from + suc n - need tasks (from + suc n)) _ (omega arith) (omega arith)
    (margin_tells tasks from n ok) (of_one tasks (from + suc n) (from + suc (suc n)) (omega arith) (ok (from + suc n) (omega arith))) refl

same_sleep : (tasks : List Task) (row s s' : ℕ) → IsSleep tasks row s → IsSleep tasks row s' → s ≡ s'
same_sleep tasks row s s' a b =
    omega (arith, a.always b.met.0 b.met.1, b.met.2, b.always a.met.0 a.met.1, a.met.2)

module _ (tasks : List Task) (h : ℕ) (whole : AllWhole tasks) (common : Common tasks h) (some : 1 ≤ h) where
  pub margin_sleeps : Accepted tasks → (row : ℕ) → row < length tasks → IsSleep tasks row (least_margin tasks (task_at tasks row).due (h - 1))
  margin_sleeps ok row l =
      let due : ℕ = (task_at tasks row).due in
      let first : 1 ≤ due = omega (arith, whole row l) in
      let s : ℕ = least_margin tasks due (h - 1) in
      let least : LeastMargin tasks due (due + suc (h - 1)) s = margin_tells tasks due (h - 1) (λ t a. ok t (omega arith)) in
      record {
        always = λ t d. one_period_decides tasks h whole common (accepted_loads tasks h whole common ok) s due (λ x a b. least.below x a (omega arith)) some t d;
        met = (least.met.0, least.met.1, least.met.3);
      }

  sleeps_computed : (sleeps : List ℕ) → Accepted tasks → AllSleeps tasks sleeps → sleeps ≡ sleep_list tasks h
  unfolding sleep_list
  sleeps_computed sleeps ok all =
      same_lists sleeps (sleep_list tasks h) (all.size ∙ sym (length-map tasks _))
      (λ k d l. let in' : k < length tasks = omega (arith, all.size) in
      get_or_default sleeps k d 0 l ∙ same_sleep tasks k _ _ (all.each k in') (margin_sleeps ok k in') ∙ sym (get_or-map _ tasks k _ d in'))

  pub computed_made : (sleeps : List ℕ) → Accepted tasks → AllSleeps tasks sleeps → computed tasks h ≡ Ok sleeps
  unfolding computed
  computed_made sleeps ok all =
      cond-false (ltb h (load tasks h)) _ _ (le-ltb _ _ (accepted_loads tasks h whole common ok)) ∙ go (first_failure tasks h) (first_tells tasks h)
    where
      go : (o : Option ℕ) → Tells tasks h o → by_window tasks h o ≡ Ok sleeps
      go None told = ap Ok (sym (sleeps_computed sleeps ok all))
      go (Some t) told = absurd (omega (arith, ok t told.1.after, told.1.fails))

pub computed_refused : (tasks : List Task) (h : ℕ) (e : Refusal) → Refused tasks h e → computed tasks h ≡ Err e
unfolding computed
computed_refused tasks h e (inl over) = cond-true (ltb h (load tasks h)) _ _ (lt-ltb _ _ over.0) ∙ ap Err (sym over.1)
computed_refused tasks h e (inr first) =
    cond-false (ltb h (load tasks h)) _ _ (le-ltb _ _ first.1) ∙ go (first_failure tasks h) (first_tells tasks h)
  where
    only : (t : ℕ) → FirstFailure tasks 1 t → (t ≡ first.0) ⊎ ((t < first.0) ⊎ (first.0 < t)) → t ≡ first.0
    only t f (inl same) = same
    only t f (inr (inl l)) = absurd (omega (arith, f.fails, first.3.before t f.after l))
    only t f (inr (inr l)) = absurd (omega (arith, first.3.fails, f.before first.0 first.3.after l))

    go : (o : Option ℕ) → Tells tasks h o → by_window tasks h o ≡ Err e
    go None told = absurd (omega (arith, first.3.fails, told first.0 first.3.after (omega (arith, first.2))))
    go (Some t) told = ap (λ x. Err (Overdemand x)) (only t told.1 (cases_order t first.0)) ∙ ap Err (sym first.4)
