-- The computed verdict is the right answer and the only one: every text is accepted or refused, and either way its
-- verdict is that answer, so what was computed can only be it.
use Rattle.std.proofs.Common.{◌≡◌, ℕ, List, Ok, Err, Result, ap, ◌∙◌, subst, ⊎_elim, arith}
use Rattle.refusal.specs.declared.cases.Refusal.{Refusal}
use Rattle.table.specs.Readings.{Computed, Reads}
use Rattle.table.specs.Rows.{rows_of, common_of}
use Rattle.table.specs.Tasks.{LeastCommon}
use Rattle.table.specs.Texts.{RowText, tasks, Accepts, Refuses}
use Rattle.table.specs.Verdict.{Reading, verdict}
use Rattle.table.specs.declared.rows.Table.{Table}
use Rattle.table.proofs.Decides.{decided}
use Rattle.table.proofs.Follows.{accepts_verdict, refuses_verdict}

ok_same : (v : Result Reading Refusal) (r s : Reading) → v ≡ Ok r → v ≡ Ok s → r ≡ s
ok_same v r s p q = cc

err_same : (v : Result Reading Refusal) (e f : Refusal) → v ≡ Err e → v ≡ Err f → e ≡ f
err_same v e f p q = cc

ok_not_err : (v : Result Reading Refusal) (r : Reading) (e : Refusal) → v ≡ Ok r → v ≡ Err e → ⊥
ok_not_err v r e p q = let z : ◌≡◌ {A = ℕ} 0 1 = cc in omega arith

table_tasks : (text : List ℕ) (table : Table) → Computed text (Ok table) → (rows : List RowText) → Accepts text rows → rows_of table ≡ tasks rows
table_tasks text table c rows a =
    let v = accepts_verdict text rows a in
    ap (λ r. r.tasks) (ok_same (verdict text) (record { names = c.0; tasks = rows_of table; common = common_of table }) v.0 c.1 v.2) ∙ v.1.same_tasks

table_least : (table : Table) → LeastCommon (rows_of table) (common_of table)
table_least table = record { some = table.rows.positive; common = table.rows.multiple; least = table.rows.least }

pub judged : (text : List ℕ) (r : Result Table Refusal) → Computed text r → Reads text r
judged text (Ok table) c =
    let never : (e : Refusal) → Refuses text e → ⊥ = λ e x. ok_not_err (verdict text) _ e c.1 (refuses_verdict text e x) in
    record {
      says = ⊎_elim (λ a. (a.0, a.1, table_tasks text table c a.0 a.1, table_least table)) (λ x. absurd (never x.0 x.1)) (decided text);
      accepted = table_tasks text table c;
      refused = λ e x. absurd (never e x);
      computed = c;
    }
judged text (Err e) c =
    let never : (rows : List RowText) → Accepts text rows → ⊥ = λ rows a. let v = accepts_verdict text rows a in ok_not_err (verdict text) v.0 e v.2 c in
    record {
      says = ⊎_elim (λ a. absurd (never a.0 a.1)) (λ x. subst (Refuses text) (err_same (verdict text) x.0 e (refuses_verdict text x.0 x.1) c) x.1) (decided text);
      accepted = never;
      refused = λ f x. ap Err (err_same (verdict text) e f c (refuses_verdict text f x));
      computed = c;
    }
