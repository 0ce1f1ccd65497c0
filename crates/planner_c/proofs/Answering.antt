-- What the plan was filled with decides the answer: a text that leaves a plan is that of an accepted table, whose rows have
-- the plan's sleeps, and no sleep comes near what refusals are raised by, since it is at most its row's due.
use Rattle.std.proofs.Common.{◌≡◌, ℕ, ◌+◌, ◌<◌, ◌≤◌, true, false, ◌⊎◌, List, length, Some, None, Option, MatchOption, Ok, Err, Result, sym, refl, ap, ◌∙◌, subst, inl, inr, arith}
use lib.ListN.{length-map}
use Rattle.std.specs.List.{slice_get}
use Rattle.std.specs.Option.{ok_or}
use Rattle.refusal.specs.declared.cases.Refusal.{Refusal}
use Rattle.refusal.specs.declared.cases.Refusal.TheVariants.{TextLength, LineForm, RowCount, RunAboveDue, DueAboveGap, GapLimit, NameTaken, CommonLimit, TextAfter, Overload, Overdemand, NoSuchRow, TooSoon, ClockEnd, NoOpenJob, NotBegun, WarmUpLimit}
use Rattle.refusal.specs.Records.{number_of}
use Rattle.table.specs.Tasks.{task_at}
use Rattle.table.specs.Texts.{RowText, tasks, Accepts, Refuses}
use Rattle.planner.specs.declared.plan.Plan.{Plan}
use Rattle.planner.specs.Demand.{Accepted, IsSleep}
use Rattle.planner.specs.Plans.{planned, sleeps_of}
use Rattle.planner.specs.Texts.{Filled}
use Rattle.planner.specs.Verdict.{Judged}
use Rattle.planner_c.specs.Calls.{refused_from, checked, quoted, sleep_or, raised, Checks, Quotes}

-- no refusal has the number 0
numbered : (e : Refusal) → 1 ≤ number_of e
numbered TextLength = omega arith
numbered (LineForm at) = omega arith
numbered (RowCount at) = omega arith
numbered (RunAboveDue at) = omega arith
numbered (DueAboveGap at) = omega arith
numbered (GapLimit at) = omega arith
numbered (NameTaken at) = omega arith
numbered (CommonLimit at) = omega arith
numbered (TextAfter at) = omega arith
numbered (Overload load) = omega arith
numbered (Overdemand window) = omega arith
numbered NoSuchRow = omega arith
numbered TooSoon = omega arith
numbered ClockEnd = omega arith
numbered NoOpenJob = omega arith
numbered NotBegun = omega arith
numbered WarmUpLimit = omega arith

ok_not_err : {X : Type 0} (x : X) (e : Refusal) → ◌≡◌ {A = Result X Refusal} (Ok x) (Err e) → ⊥
ok_not_err x e h = let z : ◌≡◌ {A = ℕ} 0 1 = cc in omega arith

false_not_true : false ≡ true → ⊥
false_not_true h = let z : ◌≡◌ {A = ℕ} 0 1 = cc in omega arith

module _ {X : Type 0} (text : List ℕ) (x : X) (plan : Plan) (filled : Filled text (Ok x) plan) where
  judged : (rows : List RowText) (a : Accepts text rows) → Judged (tasks rows) a.short.0 (Ok x) plan
  judged rows a = filled.judged rows a a.short.0 a.short.1

  -- a text that leaves a plan is that of an accepted table
  of_table : (rows : List RowText) × Accepts text rows × Accepted (tasks rows)
  of_table = go filled.either
    where
      go : ((rows : List RowText) × Accepts text rows) ⊎ ((e : Refusal) × Refuses text e)
          → (rows : List RowText) × Accepts text rows × Accepted (tasks rows)
      go (inl t) = (t.0, t.1, (judged t.0 t.1).only_accepted refl)
      go (inr r) = absurd (ok_not_err x r.0 (filled.unread r.0 r.1).0)

  same_size : (rows : List RowText) → Accepts text rows → length (planned plan) ≡ length rows
  same_size rows a = ap length (judged rows a).answered.holds ∙ length-map rows (λ (row : RowText). row.task)

  -- a sleep is at most its row's due
  short : (row sleep : ℕ) → row < length (planned plan) → IsSleep (planned plan) row sleep → sleep < refused_from
  short row sleep l s =
      let within = s.always (task_at (planned plan) row).due (omega arith) in
      let whole = plan.rows.whole row l in
      let bounded = plan.rows.bounded row l in
      omega (arith, within, whole.2, bounded)

  accepted_quotes : (row sleep : ℕ) → Some sleep ≡ slice_get (sleeps_of plan) row → row < length (planned plan)
      → IsSleep (planned plan) row sleep → Quotes text row sleep
  accepted_quotes row sleep told l s = record {
    value = ap sleep_or told ∙ sym (ap (λ answer. quoted answer row) filled.computes);
    sleeps = λ rows a acc m. (short row sleep l s, subst (λ ts. IsSleep ts row sleep) (judged rows a).answered.holds s);
    only_sleeps = λ low. (of_table.0, of_table.1, of_table.2, omega (arith, same_size of_table.0 of_table.1));
  }

  missing_quotes : (row : ℕ) → None ≡ slice_get (sleeps_of plan) row → length (planned plan) ≤ row
      → Quotes text row (refused_from + number_of NoSuchRow)
  missing_quotes row told l = record {
    value = ap sleep_or told ∙ sym (ap (λ answer. quoted answer row) filled.computes);
    sleeps = λ rows a acc m. absurd (omega (arith, same_size rows a));
    only_sleeps = λ low. absurd (omega arith);
  }

  -- the row's sleep, or that there is no such row
  pub sleep_quotes : (row : ℕ) (found : Option ℕ) → found ≡ slice_get (sleeps_of plan) row
      → MatchOption found (length (planned plan) ≤ row) (λ sleep. (row < length (planned plan)) × IsSleep (planned plan) row sleep)
      → Quotes text row (raised (ok_or found NoSuchRow))
  sleep_quotes row (Some sleep) told is = accepted_quotes row sleep told is.0 is.1
  sleep_quotes row None told is = missing_quotes row told is

  pub accepted_checks : Checks text 0
  accepted_checks = record {
    value = sym (ap checked filled.computes);
    only_accepted = λ _. of_table;
    all_accepted = λ rows a acc. refl;
  }

module _ {X : Type 0} (text : List ℕ) (e : Refusal) (plan : Plan) (filled : Filled {A = X} text (Err e) plan) where
  not_accepted : (rows : List RowText) → Accepts text rows → Accepted (tasks rows) → ⊥
  not_accepted rows a acc = false_not_true ((filled.judged rows a a.short.0 a.short.1).all_accepted acc)

  pub refused_checks : Checks text (number_of e)
  refused_checks = record {
    value = sym (ap checked filled.computes);
    only_accepted = λ h. absurd (omega (arith, numbered e));
    all_accepted = λ rows a acc. absurd (not_accepted rows a acc);
  }

  pub refused_quotes : (row : ℕ) → Quotes text row (refused_from + number_of e)
  refused_quotes row = record {
    value = sym (ap (λ answer. quoted answer row) filled.computes);
    sleeps = λ rows a acc l. absurd (not_accepted rows a acc);
    only_sleeps = λ low. absurd (omega arith);
  }
