-- From the cutter's text to its board: the text is read as the cutter's tasks, which are accepted, so the plan is theirs, and
-- there is one list of sleeps; the calls on its board are a run of the rules with that plan, of which the figures speak.
use Rattle.std.proofs.Common.{◌≡◌, ℕ, List, length, Ok, IsOk, Result, sym, ap, ◌∙◌, subst}
use Rattle.refusal.specs.declared.cases.Refusal.{Refusal}
use Rattle.table.specs.declared.task.Task.{Task}
use Rattle.table.specs.Tasks.{LeastCommon}
use Rattle.planner.specs.declared.plan.Plan.{Plan}
use Rattle.planner.specs.Computed.{computed}
use Rattle.planner.specs.Plans.{planned, sleeps_of}
use Rattle.planner.specs.Texts.{Filled}
use Rattle.planner.specs.Verdict.{Judged}
use Rattle.planner.proofs.Computing.{computed_made}
use Rattle.alarm.specs.Counting.{counter_reach}
use Rattle.rules.specs.Views.{View, Rules, fresh}
use Rattle.rules.specs.Steps.{Entry, Runs}
use Rattle.board.specs.Cores.{rules_for}
use Rattle.figures.specs.Figures.{cutter, cutter_text, sleeps_of_cutter}
use Rattle.figures.specs.Premises.{cutter_rules}
use Rattle.figures.specs.Tables.{Quoted}
use Rattle.figures.specs.Texts.{Typed}
use Rattle.figures.proofs.Cases.{cutter_quoted, cutter_typed, cutter_whole}

cutter_judged : {A : Type 0} (answer : Result A Refusal) (plan : Plan) → Filled cutter_text answer plan → Judged cutter 112 answer plan
cutter_judged answer plan f =
    let t : Typed cutter_text cutter 112 = cutter_typed in
    subst (λ ts. Judged ts 112 answer plan) t.same
    (f.judged t.rows t.accepts 112 (subst (λ ts. LeastCommon ts 112) (sym t.same) t.period))

cutter_computed : computed cutter 112 ≡ Ok sleeps_of_cutter
cutter_computed =
    let q : Quoted cutter 112 106 sleeps_of_cutter = cutter_quoted in
    computed_made cutter 112 cutter_whole q.period.common q.period.some sleeps_of_cutter q.accepted q.sleeps_are

same_ok : (r : Result (List ℕ) Refusal) (a b : List ℕ) → r ≡ Ok a → r ≡ Ok b → a ≡ b
same_ok r a b p q = cc

pub cutter_filled : {A : Type 0} (a : A) (plan : Plan) → Filled cutter_text (Ok a) plan → (planned plan ≡ cutter) × (sleeps_of plan ≡ sleeps_of_cutter)
cutter_filled a plan f =
    let j = cutter_judged (Ok a) plan f in
    (j.answered.holds, same_ok (computed cutter 112) (sleeps_of plan) sleeps_of_cutter j.computes cutter_computed)

pub cutter_unrefused : {A : Type 0} (r : Result A Refusal) (plan : Plan) → Filled cutter_text r plan → IsOk r
cutter_unrefused r plan f = (cutter_judged r plan f).all_accepted cutter_quoted.accepted

-- the rules and the first view of a board over that plan and a counter
same_rules : (plan : Plan) (R : Rules) → planned plan ≡ cutter → sleeps_of plan ≡ sleeps_of_cutter → R ≡ rules_for plan counter_reach 1 → R ≡ cutter_rules
same_rules plan R ts ss e = cc

module _ (plan : Plan) (tasks : planned plan ≡ cutter) (sleeps : sleeps_of plan ≡ sleeps_of_cutter) (P : Rules) (u : View)
    (rules : P ≡ rules_for plan counter_reach 1) (new : u ≡ fresh (length (planned plan))) where
  start : (log : List Entry) (w : View) → Runs P u log w → Runs cutter_rules (fresh 3) log w
  start log w k =
      subst (λ x. Runs cutter_rules x log w) (new ∙ ap (λ (ts : List Task). fresh (length ts)) tasks)
      (subst (λ x. Runs x u log w) (same_rules plan P tasks sleeps rules) k)
