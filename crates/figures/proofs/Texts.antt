-- What the reader's checks compute of a text is what the text is: a text is that of a table or is refused, and each has its
-- verdict, so a computed verdict tells which.
use Rattle.std.proofs.Common.{◌≡◌, ℕ, true, eqb, ◌⊎◌, List, [], ◌∷◌, Ok, Err, Result, sym, refl, ap, ◌∙◌, subst, inl, inr, arith}
use Rattle.std.proofs.lemmas.Bool.{and_parts, eqb-true, false≢true}
use Rattle.refusal.specs.declared.cases.Refusal.{Refusal}
use Rattle.refusal.specs.Records.{record_of, located}
use Rattle.table.specs.declared.task.Task.{Task}
use Rattle.table.specs.Limits.{at}
use Rattle.table.specs.Tasks.{LeastCommon}
use Rattle.table.specs.Texts.{RowText, tasks, Accepts, Refuses}
use Rattle.table.specs.Verdict.{Reading, verdict}
use Rattle.table.proofs.Decides.{decided}
use Rattle.table.proofs.Follows.{accepts_verdict, refuses_verdict}
use Rattle.figures.specs.Texts.{Typed, Untyped, is_same_task, are_same_tasks, read_as, unread_as, typed, untyped}
use Rattle.figures.proofs.Tables.{same_record}

module _ (v : Result Reading Refusal) where
  not_both : (r : Reading) (e : Refusal) → v ≡ Ok r → v ≡ Err e → ⊥
  not_both r e p q = let z : ◌≡◌ {A = ℕ} 0 1 = cc in omega arith

  same_reading : (r s : Reading) → v ≡ Ok r → v ≡ Ok s → r ≡ s
  same_reading r s p q = cc

  same_refusal : (e f : Refusal) → v ≡ Err e → v ≡ Err f → e ≡ f
  same_refusal e f p q = cc

same_task : (t s : Task) → is_same_task t s ≡ true → t ≡ s
same_task t s e =
    let a = and_parts (eqb t.run s.run) _ e in
    let b = and_parts (eqb t.due s.due) _ a.1 in
    let run : t.run ≡ s.run = eqb-true _ _ a.0 in
    let due : t.due ≡ s.due = eqb-true _ _ b.0 in
    let gap : t.gap ≡ s.gap = eqb-true _ _ b.1 in
    let left : t ≡ record { run = t.run; due = t.due; gap = t.gap } = refl in
    let right : s ≡ record { run = s.run; due = s.due; gap = s.gap } = refl in
    cc

same_tasks : (ts ss : List Task) → are_same_tasks ts ss ≡ true → ts ≡ ss
same_tasks [] [] e = refl
same_tasks [] (s ∷ ss) e = absurd (false≢true e)
same_tasks (t ∷ ts) [] e = absurd (false≢true e)
same_tasks (t ∷ ts) (s ∷ ss) e =
    let a = and_parts (is_same_task t s) (are_same_tasks ts ss) e in
    ap (λ x. x ∷ ts) (same_task t s a.0) ∙ ap (λ xs. s ∷ xs) (same_tasks ts ss a.1)

module _ (text : List ℕ) where
  as_read : (r : Reading) → verdict text ≡ Ok r → (wanted : List Task) (h : ℕ) → r.tasks ≡ wanted → r.common ≡ h → Typed text wanted h
  as_read r e wanted h same period = go (decided text)
    where
      go : ((rows : List RowText) × Accepts text rows) ⊎ ((why : Refusal) × Refuses text why) → Typed text wanted h
      go (inr x) = absurd (not_both (verdict text) r x.0 e (refuses_verdict text x.0 x.1))
      go (inl x) =
          let v = accepts_verdict text x.0 x.1 in
          let one : v.0 ≡ r = same_reading (verdict text) v.0 r v.2 e in
          let ts : tasks x.0 ≡ wanted = sym v.1.same_tasks ∙ (ap (λ (y : Reading). y.tasks) one ∙ same) in
          let hs : v.0.common ≡ h = ap (λ (y : Reading). y.common) one ∙ period in
          record { rows = x.0; accepts = x.1; same = ts; period = subst (LeastCommon wanted) hs (subst (λ xs. LeastCommon xs v.0.common) ts v.1.least) }

  as_refused : (e : Refusal) → verdict text ≡ Err e → (number line place : ℕ) → record_of e ≡ located number 2 (at line place) → Untyped text number line place
  as_refused e q number line place told = go (decided text)
    where
      go : ((rows : List RowText) × Accepts text rows) ⊎ ((why : Refusal) × Refuses text why) → Untyped text number line place
      go (inl x) = let v = accepts_verdict text x.0 x.1 in absurd (not_both (verdict text) v.0 e v.2 q)
      go (inr x) =
          let one : x.0 ≡ e = same_refusal (verdict text) x.0 e (refuses_verdict text x.0 x.1) q in
          record { why = x.0; refuses = x.1; told = ap record_of one ∙ told }

  pub typed_tells : (wanted : List Task) (h : ℕ) → typed text wanted h ≡ true → Typed text wanted h
  unfolding typed
  typed_tells wanted h e = go (verdict text) refl e
    where
      go : (v : Result Reading Refusal) → verdict text ≡ v → read_as v wanted h ≡ true → Typed text wanted h
      go (Ok r) q t =
          let a = and_parts (are_same_tasks r.tasks wanted) (eqb r.common h) t in
          as_read r q wanted h (same_tasks r.tasks wanted a.0) (eqb-true _ _ a.1)
      go (Err why) q t = absurd (false≢true t)

  pub untyped_tells : (number line place : ℕ) → untyped text number line place ≡ true → Untyped text number line place
  unfolding untyped
  untyped_tells number line place e = go (verdict text) refl e
    where
      go : (v : Result Reading Refusal) → verdict text ≡ v → unread_as v number line place ≡ true → Untyped text number line place
      go (Ok r) q t = absurd (false≢true t)
      go (Err why) q t = as_refused why q number line place (same_record (record_of why) (located number 2 (at line place)) t)
