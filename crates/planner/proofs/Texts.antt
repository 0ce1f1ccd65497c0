-- The reader's verdict comes first: where it refuses, that is the answer, and where it reads a table, the answer is the
-- planner's. A text has only one verdict, so what is said of the one that was found is said of each.
use Rattle.std.proofs.Common.{◌≡◌, ℕ, List, Ok, Err, Result, ap, ◌∙◌, subst, arith, MatchResult}
use Rattle.refusal.specs.declared.cases.Refusal.{Refusal}
use Rattle.table.specs.Verdict.{Reading, then_ask, verdict}
use Rattle.table.specs.Tasks.{LeastCommon}
use Rattle.table.specs.Texts.{RowText, tasks, Accepts}
use Rattle.table.proofs.Begins.{period_unique}
use Rattle.table.proofs.Decides.{decided}
use Rattle.table.proofs.Follows.{accepts_verdict, refuses_verdict}
use Rattle.planner.specs.declared.plan.Plan.{Plan}
use Rattle.planner.specs.Computed.{computed}
use Rattle.planner.specs.Plans.{sleeps_of, Empty}
use Rattle.planner.specs.Texts.{answer_to, Filled}
use Rattle.planner.specs.Verdict.{Judged}

no_both : (v : Result Reading Refusal) (r : Reading) (e : Refusal) → v ≡ Ok r → v ≡ Err e → ⊥
no_both v r e h k = let z : ◌≡◌ {A = ℕ} 0 1 = cc in omega arith

same_error : (v : Result Reading Refusal) (e f : Refusal) → v ≡ Err e → v ≡ Err f → e ≡ f
same_error v e f h k = cc

same_reading : (v : Result Reading Refusal) (r s : Reading) → v ≡ Ok r → v ≡ Ok s → r ≡ s
same_reading v r s h k = cc

after_error : (text : List ℕ) (e : Refusal) → verdict text ≡ Err e → answer_to text ≡ Err e
unfolding answer_to
after_error text e h = ap (λ v. then_ask v (λ r. computed r.tasks r.common)) h

after_reading : (text : List ℕ) (r : Reading) → verdict text ≡ Ok r → answer_to text ≡ computed r.tasks r.common
unfolding answer_to
after_reading text r h = ap (λ v. then_ask v (λ r. computed r.tasks r.common)) h

pub filled_unread : {A : Type 0} (text : List ℕ) (e : Refusal) (plan : Plan) → verdict text ≡ Err e → Empty plan → Filled {A = A} text (Err e) plan
filled_unread text e plan h is =
    record {
      either = decided text;
      unread = λ f x. (ap Err (same_error (verdict text) e f h (refuses_verdict text f x)), is);
      judged = λ rows a p least. let v = accepts_verdict text rows a in absurd (no_both (verdict text) v.0 e v.2 h);
      computes = after_error text e h;
    }

module _ {A : Type 0} (text : List ℕ) (r : Reading) (h : verdict text ≡ Ok r) where
  read_computes : (answer : Result A Refusal) (sleeps : List ℕ) → MatchResult answer (λ _. computed r.tasks r.common ≡ Ok sleeps) (λ e. computed r.tasks r.common ≡ Err e)
      → MatchResult answer (λ _. answer_to text ≡ Ok sleeps) (λ e. answer_to text ≡ Err e)
  read_computes (Ok x) sleeps c = after_reading text r h ∙ c
  read_computes (Err e) sleeps c = after_reading text r h ∙ c

  judged_rows : (answer : Result A Refusal) (plan : Plan) → Judged r.tasks r.common answer plan
      → (rows : List RowText) → Accepts text rows → (p : ℕ) → LeastCommon (tasks rows) p → Judged (tasks rows) p answer plan
  judged_rows answer plan j rows a p least =
      let v = accepts_verdict text rows a in
      let same = same_reading (verdict text) r v.0 h v.2 in
      let ts : r.tasks ≡ tasks rows = ap (λ (s : Reading). s.tasks) same ∙ v.1.same_tasks in
      let period : r.common ≡ p = ap (λ (s : Reading). s.common) same ∙ period_unique (tasks rows) v.0.common p v.1.least least in
      subst (λ n. Judged (tasks rows) n answer plan) period (subst (λ xs. Judged xs r.common answer plan) ts j)

  pub filled_read : (answer : Result A Refusal) (plan : Plan) → Judged r.tasks r.common answer plan → Filled text answer plan
  filled_read answer plan j =
      record {
        either = decided text;
        unread = λ e x. absurd (no_both (verdict text) r e h (refuses_verdict text e x));
        judged = judged_rows answer plan j;
        computes = read_computes answer (sleeps_of plan) j.computes;
      }
