-- What the rules compute of a table is what they ask for: no window of one common period fails, so none does, and the
-- smallest margins of one period are the sleeps; or the first that fails, or the load, is the reason of the refusal.
use Rattle.std.proofs.Common.{◌≡◌, ℕ, suc, ◌+◌, ◌-◌, ◌<◌, ◌≤◌, true, ◌&&◌, eqb, ltb, ◌⊎◌, List, length, Some, None, Ok, Err, Option, Result, sym, refl, ap, subst, inl, inr, arith, MatchResult}
use Rattle.std.proofs.lemmas.Slice.Eq.{bytes_eq-Decides}
use Rattle.std.proofs.lemmas.List.{length-map, get_or-map}
use Rattle.std.proofs.lemmas.Bool.{and_parts, cases_lt, cond-true, cond-false, eqb-true, false≢true, lt-ltb, le-ltb, ltb-true}
use Rattle.refusal.specs.declared.cases.Refusal.{Refusal}
use Rattle.refusal.specs.declared.record.Record.{Record}
use Rattle.refusal.specs.Records.{record_of, valued}
use Rattle.table.specs.declared.task.Task.{Task}
use Rattle.table.specs.Tasks.{task_at, Whole, AllWhole, Common, LeastCommon}
use Rattle.planner.specs.Computed.{first_failure, least_margin, sleep_list, by_window, computed}
use Rattle.planner.specs.Demand.{load, Accepted, IsSleep}
use Rattle.planner.specs.Margins.{LeastMargin}
use Rattle.planner.specs.Plans.{AllSleeps}
use Rattle.planner.specs.Verdict.{Refused}
use Rattle.planner.proofs.Computing.{Tells, first_tells, margin_tells, margin_sleeps}
use Rattle.planner.proofs.Judging.{first_short}
use Rattle.planner.proofs.Repeats.{one_period_decides}
use Rattle.figures.specs.Tables.{Quoted, Declined, all_whole, common_from, sleeps_in, is_same_record, refused_in, Nearby, is_made, tabled, quoted, declined, nearby}
use Rattle.figures.proofs.Rows.{whole_rows, common_rows}

module _ (tasks : List Task) (h : ℕ) (whole : AllWhole tasks) (common : Common tasks h) (some : 1 ≤ h) where
  sleeps_are : Accepted tasks → AllSleeps tasks (sleep_list tasks h)
  unfolding sleep_list
  sleeps_are ok =
      record {
        size = length-map tasks _;
        each = λ row l. subst (IsSleep tasks row) (sym (get_or-map _ tasks row _ 0 l)) (margin_sleeps tasks h whole common some ok row l);
      }

  Outcome : Result (List ℕ) Refusal → Type 0
  Outcome r = MatchResult r (λ sleeps. Accepted tasks × AllSleeps tasks sleeps) (Refused tasks h)

  windows_tell : load tasks h ≤ h → (o : Option ℕ) → Tells tasks h o → Outcome (by_window tasks h o)
  unfolding Outcome
  windows_tell small None told =
      let ok : Accepted tasks = λ t a. omega (arith, one_period_decides tasks h whole common small 0 1 (λ x b c. omega (arith, told x b (omega arith))) some t a) in
      (ok, sleeps_are ok)
  windows_tell small (Some t) told = inr (t, small, first_short tasks h whole common some small t told.1, told.1, refl)

  computed_tells : Outcome (computed tasks h)
  unfolding computed Outcome
  computed_tells = go (cases_lt h (load tasks h))
    where
      go : (h < load tasks h) ⊎ (load tasks h ≤ h) → Outcome (computed tasks h)
      go (inl over) = subst Outcome (sym (cond-true (ltb h (load tasks h)) _ _ (lt-ltb _ _ over))) (inl (over, refl))
      go (inr small) = subst Outcome (sym (cond-false (ltb h (load tasks h)) _ _ (le-ltb _ _ small))) (windows_tell small (first_failure tasks h) (first_tells tasks h))

  pub made : (sleeps : List ℕ) → computed tasks h ≡ Ok sleeps → Accepted tasks × AllSleeps tasks sleeps
  unfolding Outcome
  made sleeps e = subst Outcome e computed_tells

  pub unmade : (why : Refusal) → computed tasks h ≡ Err why → Refused tasks h why
  unfolding Outcome
  unmade why e = subst Outcome e computed_tells

sleeps_found : (r : Result (List ℕ) Refusal) (sleeps : List ℕ) → sleeps_in r sleeps ≡ true → r ≡ Ok sleeps
unfolding sleeps_in
sleeps_found (Ok found) sleeps e = ap Ok ((bytes_eq-Decides found sleeps).0 e)
sleeps_found (Err why) sleeps e = absurd (false≢true e)

pub same_record : (r s : Record) → is_same_record r s ≡ true → r ≡ s
same_record r s e =
    let a = and_parts (eqb r.number s.number) _ e in
    let b = and_parts (eqb r.layer s.layer) _ a.1 in
    let c = and_parts (eqb r.line s.line) _ b.1 in
    let d = and_parts (eqb r.place s.place) _ c.1 in
    let number : r.number ≡ s.number = eqb-true _ _ a.0 in
    let layer : r.layer ≡ s.layer = eqb-true _ _ b.0 in
    let line : r.line ≡ s.line = eqb-true _ _ c.0 in
    let place : r.place ≡ s.place = eqb-true _ _ d.0 in
    let value : r.value ≡ s.value = eqb-true _ _ d.1 in
    let left : r ≡ record { number = r.number; layer = r.layer; line = r.line; place = r.place; value = r.value } = refl in
    let right : s ≡ record { number = s.number; layer = s.layer; line = s.line; place = s.place; value = s.value } = refl in
    cc

record_found : (r : Result (List ℕ) Refusal) (number value : ℕ) → refused_in r number value ≡ true
    → (why : Refusal) × (r ≡ Err why) × (record_of why ≡ valued number 3 value)
unfolding refused_in
record_found (Ok sleeps) number value e = absurd (false≢true e)
record_found (Err why) number value e = (why, refl, same_record (record_of why) (valued number 3 value) e)

tabled_tells : (tasks : List Task) (h : ℕ) → tabled tasks h ≡ true → AllWhole tasks × LeastCommon tasks h
unfolding tabled
tabled_tells tasks h e =
    let a = and_parts (all_whole tasks) (eqb (common_from 1 tasks) h) e in
    (whole_rows tasks a.0, subst (LeastCommon tasks) (eqb-true _ _ a.1) (common_rows tasks a.0))

pub quoted_tells : (tasks : List Task) (h l : ℕ) (sleeps : List ℕ) → quoted tasks h l sleeps ≡ true → Quoted tasks h l sleeps
unfolding quoted
quoted_tells tasks h l sleeps e =
    let a = and_parts (tabled tasks h) (eqb l (load tasks h) && sleeps_in (computed tasks h) sleeps) e in
    let b = and_parts (eqb l (load tasks h)) (sleeps_in (computed tasks h) sleeps) a.1 in
    let t = tabled_tells tasks h a.0 in
    let m = made tasks h t.0 t.1.common t.1.some sleeps (sleeps_found (computed tasks h) sleeps b.1) in
    record { period = t.1; loads = eqb-true _ _ b.0; accepted = m.0; sleeps_are = m.1 }

pub declined_tells : (tasks : List Task) (h number value : ℕ) → declined tasks h number value ≡ true → Declined tasks h number value
unfolding declined
declined_tells tasks h number value e =
    let a = and_parts (tabled tasks h) (refused_in (computed tasks h) number value) e in
    let t = tabled_tells tasks h a.0 in
    let f = record_found (computed tasks h) number value a.1 in
    record { period = t.1; why = f.0; refused = unmade tasks h t.0 t.1.common t.1.some f.0 f.1; told = f.2 }

made_some : (r : Result (List ℕ) Refusal) → is_made r ≡ true → (sleeps : List ℕ) × (r ≡ Ok sleeps)
made_some (Ok sleeps) e = (sleeps, refl)
made_some (Err why) e = absurd (false≢true e)

pub nearby_tells : (tasks : List Task) (h row margin : ℕ) → nearby tasks h row margin ≡ true → Nearby tasks row margin
unfolding nearby
nearby_tells tasks h row margin e =
    let due : ℕ = (task_at tasks row).due in
    let gap : ℕ = (task_at tasks row).gap in
    let a = and_parts (tabled tasks h) _ e in
    let b = and_parts (is_made (computed tasks h)) _ a.1 in
    let c = and_parts (ltb row (length tasks)) (eqb (least_margin tasks due (gap - 1)) margin) b.1 in
    let t = tabled_tells tasks h a.0 in
    let s = made_some (computed tasks h) b.0 in
    let m = made tasks h t.0 t.1.common t.1.some s.0 s.1 in
    let w : Whole (task_at tasks row) = t.0 row (ltb-true _ _ c.0) in
    let to : due + suc (gap - 1) ≡ due + gap = omega (arith, w.0, w.1, w.2) in
    let least : LeastMargin tasks due (due + suc (gap - 1)) (least_margin tasks due (gap - 1)) = margin_tells tasks due (gap - 1) (λ x l. m.0 x (omega (arith, w.0, w.1))) in
    subst (λ n. LeastMargin tasks due (due + gap) n) (eqb-true _ _ c.1) (subst (λ n. LeastMargin tasks due n (least_margin tasks due (gap - 1))) to least)
