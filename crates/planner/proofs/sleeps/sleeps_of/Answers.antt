-- Leg after leg each row's sleep is the smallest margin from its due on; the windows up to one period decide them all.
use Rattle.std.proofs.Common.{◌≡◌, ℕ, ◌+◌, ◌<◌, ◌≤◌, length, sym, refl, ap, ◌∙◌, subst, arith}
use Rattle.std.proofs.lemmas.List.{get_or-replicate}
use Rattle.table.specs.Rows.{rows_of, common_of}
use Rattle.table.specs.Tasks.{task_at, AllWhole, LeastCommon}
use Rattle.planner.specs.Margins.{LeastMargin}
use Rattle.planner.specs.Sleeps.{Lowered}
use Rattle.planner.proofs.Legs.{unseen}
use Rattle.planner.proofs.Sleeping.{Sleeping, sleeping_none, sleeping_more, all_pass, all_rest, all_tight}
use Rattle.planner.proofs.sleeps.sleeps_of.Goals as goal

pub loop-walk-init : goal.loop-walk-init
loop-walk-init c =
    let made = c.new-walk.ensures in
    let ok = c.new-walk.result.readable in
    let tasks = rows_of c.args.table.now in (
      refl,
      made.tasks,
      omega (arith, made.start),
      subst (Sleeping tasks _) (sym made.start)
          (sleeping_none tasks _ (subst AllWhole made.tasks ok.whole) (λ i l. get_or-replicate 64 i unseen 0 (omega (arith, ok.few, ap length made.tasks)))),
    )

pub loop-walk-preserved : goal.loop-walk-preserved
loop-walk-preserved c =
    let l = c.loop-walk in
    let from = l.walk.at in
    let until = c.next_due-until.result in
    let next = c.next_due-until.ensures in
    let least = c.in_ok-least.least in
    let leg = c.in_ok-least.ensures in
    let tasks = rows_of c.args.table.now in
    let same : l.walk.tasks.now ≡ tasks = l.invariant.1 in
    let after : c.leg.new.self.tasks.now ≡ tasks = leg.0.tasks ∙ same in (
      omega (arith, c.lower.auto.sleeps),
      after,
      omega (arith, leg.0.at, next.bound.1),
      subst (Sleeping tasks c.lower.new.sleeps) (sym leg.0.at)
          (sleeping_more tasks l.sleeps c.lower.new.sleeps from until least l.invariant.3 next.bound.0 (omega (arith, next.bound.1, c.common-common.ensures.bound))
          (subst (λ rows. LeastMargin rows from until least) same leg.1)
          (subst (λ rows. (i : ℕ) → i < length rows → from < (task_at rows i).due → until ≤ (task_at rows i).due) same next.next)
          (subst (λ rows. Lowered rows from least l.sleeps c.lower.new.sleeps) after c.lower.ensures)),
    )

pub returns : goal.returns
returns c =
    let l = c.loop-walk in
    let t = c.args.table.now in
    let tasks = rows_of t in
    let h = common_of t in
    let whole : AllWhole tasks = subst AllWhole l.invariant.1 l.walk.readable.whole in
    let least : LeastCommon tasks h = subst (LeastCommon tasks) c.common-common.ensures.value c.common-common.ensures.least in
    let e : h + 1 ≡ l.walk.at = omega (arith, c.common-common.ensures.value) in (
      all_pass tasks l.sleeps h l.walk.at whole least.common c.requires least.some e l.invariant.3,
      all_rest tasks l.sleeps h l.walk.at whole least.common c.requires least.some e l.invariant.3,
      all_tight tasks l.sleeps h l.walk.at whole least.common c.requires least.some e l.invariant.3,
    )
