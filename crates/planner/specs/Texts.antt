-- What is answered where a text is to be planned. Assumes nothing.
--   answer_to   the sleeps that the text's rows get, or the first check that says no: the reader's, then the planner's
--   Filled      the whole promise: what the answer and the plan are, by what the text is
use Rattle.std.specs.Prelude.{◌≡◌, ℕ, ◌⊎◌, List, Ok, Err, Result, MatchResult}
use Rattle.refusal.specs.declared.cases.Refusal.{Refusal}
use Rattle.table.specs.Tasks.{LeastCommon}
use Rattle.table.specs.Texts.{RowText, tasks, Accepts, Refuses}
use Rattle.table.specs.Verdict.{then_ask, verdict}
use Rattle.planner.specs.declared.plan.Plan.{Plan}
use Rattle.planner.specs.Computed.{computed}
use Rattle.planner.specs.Plans.{sleeps_of, Empty}
use Rattle.planner.specs.Verdict.{Judged}

unfoldable pub answer_to : List ℕ → Result (List ℕ) Refusal
answer_to text = then_ask (verdict text) (λ r. computed r.tasks r.common)

pub record Filled {A : Type 0} (text : List ℕ) (answer : Result A Refusal) (plan : Plan) : Type 0 where
  -- a text is that of a table, or is refused
  pub either : ((rows : List RowText) × Accepts text rows) ⊎ ((e : Refusal) × Refuses text e)
  -- one that is refused is refused as the reader says, and leaves the empty plan
  pub unread : (e : Refusal) → Refuses text e → (answer ≡ Err e) × Empty plan
  -- the rows of a table's text are judged by their demand
  pub judged : (rows : List RowText) → Accepts text rows → (h : ℕ) → LeastCommon (tasks rows) h → Judged (tasks rows) h answer plan
  -- and all of it is what the rules compute
  pub computes : MatchResult answer (λ _. answer_to text ≡ Ok (sleeps_of plan)) (λ e. answer_to text ≡ Err e)
