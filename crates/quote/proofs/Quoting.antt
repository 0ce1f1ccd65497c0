-- The page is the one that the rules compute: of a refused text its record, whichever check refused it, and of an
-- accepted one the plan's lines, since the plan holds the text's tasks with their load, period and sleeps.
use Rattle.std.proofs.Common.{◌≡◌, ℕ, List, ◌++◌, length, Some, None, Ok, Err, Result, sym, ap, ◌∙◌, subst, ⊎_elim, append_assoc, arith}
use Rattle.refusal.specs.declared.cases.Refusal.{Refusal}
use Rattle.table.specs.Verdict.{Reading, then_ask, verdict}
use Rattle.table.specs.Texts.{RowText, Accepts}
use Rattle.table.proofs.Follows.{accepts_verdict}
use Rattle.planner.specs.declared.plan.Plan.{Plan}
use Rattle.planner.specs.Computed.{computed, shortest_of}
use Rattle.planner.specs.Demand.{load}
use Rattle.planner.specs.Plans.{planned, sleeps_of, period_of, load_of}
use Rattle.planner.specs.Texts.{answer_to, Filled}
use Rattle.planner.specs.Verdict.{Judged}
use Rattle.quote.specs.Printed.{plan_text, sleep_texts, shortest_line_of, refused_text, planned_text, read_text, refusal_in, names_in_reading, names_in, printed, Printed}

by_plan : (r : Reading) (a : Result (List ℕ) Refusal) (e : Refusal) → a ≡ Err e → planned_text r a ≡ refused_text e
by_plan r a e h = ap (planned_text r) h

by_check : (v : Result Reading Refusal) (e : Refusal) → then_ask v (λ r. computed r.tasks r.common) ≡ Err e → read_text v ≡ refused_text e
by_check (Ok r) e h = by_plan r (computed r.tasks r.common) e h
by_check (Err f) e h = let same : f ≡ e = cc in ap refused_text same

refused_printed : (text : List ℕ) (e : Refusal) → answer_to text ≡ Err e → printed text ≡ refused_text e
unfolding answer_to printed
refused_printed text e h = by_check (verdict text) e h

pub refused_page : {A : Type 0} (text page : List ℕ) (e : Refusal) (plan : Plan) → Filled {A = A} text (Err e) plan → page ≡ refused_text e → Printed text page (Some e)
refused_page text page e plan f is =
    record { bytes = is ∙ sym (refused_printed text e f.computes); why = sym (ap refusal_in f.computes) }

accepted_printed : (text : List ℕ) (r : Reading) (sleeps : List ℕ) → verdict text ≡ Ok r → computed r.tasks r.common ≡ Ok sleeps
    → printed text ≡ plan_text (length r.tasks) (load r.tasks r.common) r.common ++ (sleep_texts r.names sleeps ++ shortest_line_of (shortest_of sleeps))
unfolding printed
accepted_printed text r sleeps h k = ap read_text h ∙ ap (planned_text r) k

-- the plan's lines, one part after the other
abbrev pub lines : List ℕ → Plan → List ℕ
lines text plan =
    (plan_text (length (planned plan)) (load_of plan) (period_of plan) ++ sleep_texts (names_in text) (sleeps_of plan)) ++ shortest_line_of (shortest_of (sleeps_of plan))

-- an accepted text was read, and its rows were judged
accepted_rows : {A : Type 0} (text : List ℕ) (x : A) (plan : Plan) → Filled {A = A} text (Ok x) plan → (rows : List RowText) × Accepts text rows
accepted_rows text x plan f =
    ⊎_elim (λ a. a) (λ y. absurd (let k = (f.unread y.0 y.1).0 in let z : ◌≡◌ {A = ℕ} 0 1 = cc in omega arith)) f.either

page_printed : {A : Type 0} (text page : List ℕ) (x : A) (plan : Plan) → Filled {A = A} text (Ok x) plan → page ≡ lines text plan → printed text ≡ page
page_printed text page x plan f is =
    let a = accepted_rows text x plan f in
    let v = accepts_verdict text a.0 a.1 in
    let r = v.0 in
    let j = subst (λ ts. Judged ts r.common (Ok x) plan) (sym v.1.same_tasks) (f.judged a.0 a.1 r.common v.1.least) in
    let m = j.answered in
    let names : names_in text ≡ r.names = ap names_in_reading v.2 in
    accepted_printed text r (sleeps_of plan) v.2 j.computes
    ∙ ap (λ ts. plan_text (length ts) (load r.tasks r.common) r.common ++ (sleep_texts r.names (sleeps_of plan) ++ shortest_line_of (shortest_of (sleeps_of plan)))) (sym m.holds)
    ∙ ap (λ l. plan_text (length (planned plan)) l r.common ++ (sleep_texts r.names (sleeps_of plan) ++ shortest_line_of (shortest_of (sleeps_of plan)))) (sym m.loads)
    ∙ ap (λ h. plan_text (length (planned plan)) (load_of plan) h ++ (sleep_texts r.names (sleeps_of plan) ++ shortest_line_of (shortest_of (sleeps_of plan)))) (sym m.period)
    ∙ ap (λ ns. plan_text (length (planned plan)) (load_of plan) (period_of plan) ++ (sleep_texts ns (sleeps_of plan) ++ shortest_line_of (shortest_of (sleeps_of plan)))) (sym names)
    ∙ sym (append_assoc (plan_text (length (planned plan)) (load_of plan) (period_of plan)) (sleep_texts (names_in text) (sleeps_of plan)) (shortest_line_of (shortest_of (sleeps_of plan))))
    ∙ sym is

pub accepted_page : {A : Type 0} (text page : List ℕ) (x : A) (plan : Plan) → Filled {A = A} text (Ok x) plan → page ≡ lines text plan → Printed text page None
accepted_page text page x plan f is =
    record { bytes = sym (page_printed text page x plan f is); why = sym (ap refusal_in f.computes) }
