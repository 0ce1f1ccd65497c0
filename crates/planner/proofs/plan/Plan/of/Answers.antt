-- The table's own facts are what the walk asks for, and what the walk finds is what the plan's type asks for.
use Rattle.std.proofs.Common.{◌≡◌, ◌≤◌, length, take, sym, ap, ◌∙◌, subst, inl, inr, arith, rules}
use Rattle.std.proofs.lemmas.Result.{err_from_is_err_and}
use Rattle.refusal.specs.declared.cases.Refusal.TheVariants.{Overload}
use Rattle.table.specs.Drafts.{common_so_far}
use Rattle.table.specs.Rows.{rows_of, common_of}
use Rattle.table.specs.declared.rows.Table.{Table}
use Rattle.planner.specs.Demand.{load, Accepted}
use Rattle.planner.specs.Sleeps.{Rested, Tight}
use Rattle.planner.specs.Verdict.{Windows}
use Rattle.planner.proofs.Judging.{windows, first_short}
use Rattle.planner.proofs.Plans.{rested_front, tight_front, made}
use Rattle.planner.proofs.plan.Plan.of.Goals as goal

windows_of : (t : Table) → Windows (rows_of t) (common_of t)
windows_of t = windows (rows_of t) (common_of t) t.rows.whole t.rows.multiple t.rows.positive

pub returns-then-load-common : goal.returns-then-load-common
returns-then-load-common c =
    let t = c.args.table.now in
    record { answered = inl (omega (arith, c.common.ensures.value), ap Overload c.load_of-load.ensures); windows = windows_of t }

pub returns-in_err-sleeps : goal.returns-in_err-sleeps
returns-in_err-sleeps c =
    let t = c.args.table.now in
    let p = err_from_is_err_and c.from_residual.result c.from_residual.ensures.1 in
    let found = c.in_err-sleeps.ensures in
    let small : load (rows_of t) (common_of t) ≤ common_of t = omega (arith, c.common.ensures.value) in
    let short = first_short (rows_of t) (common_of t) t.rows.whole t.rows.multiple t.rows.positive small found.0 found.1 in
    rw (p.1, p.2) (record { answered = inr (found.0, small, short, found.1, found.2); windows = windows_of t })

pub invariant_of-result : goal.invariant_of-result
invariant_of-result c =
    let t = c.args.table.now in
    let rows = c.rows.result in
    let told = c.rows.ensures in
    let sleeps = c.in_ok-sleeps.sleeps in
    let found = c.in_ok-sleeps.ensures in
    let tasks = rows_of t in
    let size : length sleeps ≡ 64 = search rules in
    let back = sym told.tasks in
    record {
      sizes = size;
      loads = c.load_of-load.ensures ∙ ap (load tasks) (sym told.common) ∙ ap (λ ts. load ts (common_so_far rows)) back;
      room = omega (arith, c.common.ensures.value, told.common);
      accepted = subst Accepted back found.0;
      rested = subst (λ ts. Rested ts (take (length ts) sleeps)) back (rested_front tasks sleeps found.1);
      tight = subst (λ ts. Tight ts (common_so_far rows) (take (length ts) sleeps)) back
          (subst (λ h. Tight tasks h (take (length tasks) sleeps)) (sym told.common) (tight_front tasks (common_of t) sleeps found.2));
    }

pub returns : goal.returns
returns c =
    let t = c.args.table.now in
    record { answered = made (rows_of t) (common_of t) _ c.rows.ensures.tasks c.rows.ensures.common; windows = windows_of t }
