-- A row's sleep, as the plan's type knows it.
use Rattle.std.proofs.Common.{◌≡◌, ℕ, List, length, get_or, Some, None, Option, Bor, ltb, sym, refl, ◌∙◌, subst, arith}
use Rattle.std.proofs.lemmas.Bool.Decides.{nat_tests}
use Rattle.std.specs.List.{slice_get}
use Rattle.std.specs.Option.{is_some, IfSome, option_copied}
use Rattle.std.proofs.lemmas.Option.{slice_get_past, slice_get_read}
use Rattle.planner.specs.Plans.{sleeps_of}
use Rattle.planner.proofs.Plans.{SleepTold, NearTold, sleep_told, near_told}
use Rattle.planner.proofs.plan.Plan.sleep.Goals as goal

-- what was looked up, and copied
got : (r : Option (Bor ℕ)) (xs : List ℕ) (i : ℕ) → is_some r ≡ ltb i (length xs) → IfSome r (λ x. x.now ≡ get_or xs i x.now) → slice_get xs i ≡ option_copied r
got None xs i e v = slice_get_past xs i (grind (arith, nat_tests))
got (Some x) xs i e v = slice_get_read xs (length xs) i x.now refl (grind (arith, nat_tests)) v

pub returns-clause-sleep : goal.returns-clause-sleep
returns-clause-sleep c =
    let plan = c.args.self.now in
    let looked = c.get.ensures.lookup in
    let value : slice_get (sleeps_of plan) c.args.row ≡ c.copied.result =
    rw (← c.sleeps.ensures.value) (got c.get.result c.sleeps.result.now c.args.row looked.0 looked.1 ∙ sym c.copied.ensures) in
    subst (SleepTold plan c.args.row) value (sleep_told plan c.args.row)

pub returns-clause-near : goal.returns-clause-near
returns-clause-near c =
    let plan = c.args.self.now in
    let looked = c.get.ensures.lookup in
    let value : slice_get (sleeps_of plan) c.args.row ≡ c.copied.result =
    rw (← c.sleeps.ensures.value) (got c.get.result c.sleeps.result.now c.args.row looked.0 looked.1 ∙ sym c.copied.ensures) in
    subst (NearTold plan c.args.row) value (near_told plan c.args.row)
