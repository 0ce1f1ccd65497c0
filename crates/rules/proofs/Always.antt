-- What holds after a list of calls in every run, together with a run that exists: a condition on the view, computed
-- backwards along the calls. And a job that is open at its due tick or after was open when the clock reached that tick, as
-- the log tells.
use Rattle.std.proofs.Common.{◌≡◌, ℕ, zero, suc, ◌+◌, ◌<◌, ◌≤◌, List, [], ◌∷◌, ◌++◌, Some, sym, refl, ap, ◌∙◌, subst, append_assoc, arith}
use Rattle.std.proofs.lemmas.List.{append-nil}
use Rattle.table.specs.declared.task.Task.{Task}
use Rattle.rules.specs.declared.slots.Job.{Job}
use Rattle.rules.specs.declared.calls.Call.{Call}
use Rattle.rules.specs.Views.{job_at, View, Rules, task_of}
use Rattle.rules.specs.Steps.{Entry, Entry.released, Entry.done, Entry.ticked, Entry.reported, Entry.refused, Step, Runs}
use Rattle.rules.specs.Logs.{tally, is_tick, is_run, is_release, is_done, is_refused, ticks, up_to, call_of, calls_of, Missed}
use Rattle.rules.specs.Promises.{Goes}
use Rattle.rules.proofs.Sane.{Sane}
use Rattle.rules.proofs.Told.{Told, Since, tally_append, given_below}

abbrev pub Always : Rules → (List Entry → View → Type 0) → List Entry → View → List Call → Type 0
Always R Q past v [] = Q past v
Always R Q past v (c ∷ calls) =
    Goes R v c × ((e : Entry) (w : View) → Step R v e w → call_of e ≡ c → (is_refused e ≡ 0) × Always R Q (past ++ (e ∷ [])) w calls)

module _ (R : Rules) where
  pub always_exists : (Q : List Entry → View → Type 0) (calls : List Call) (past : List Entry) (v : View) → Always R Q past v calls
      → (log : List Entry) × (w : View) × Runs R v log w × (calls_of log ≡ calls)
  always_exists Q [] past v h = ([], v, refl, refl)
  always_exists Q (c ∷ calls) past v (g, h) =
      let r = always_exists Q calls (past ++ (g.0 ∷ [])) g.1 (h g.0 g.1 g.2 g.3).1 in
      let e : call_of g.0 ≡ c = g.3 in
      let f : calls_of r.0 ≡ calls = r.3 in
      (g.0 ∷ r.0, r.1, (g.1, g.2, r.2), cc)

  pub always_all : (Q : List Entry → View → Type 0) (calls : List Call) (past : List Entry) (v : View) → Always R Q past v calls
      → (log : List Entry) (w : View) → Runs R v log w → calls_of log ≡ calls → (tally is_refused log ≡ 0) × Q (past ++ log) w
  always_all Q [] past v h [] w k e = (refl, subst (λ x. Q x w) (sym (append-nil past)) (subst (Q past) (sym k) h))
  always_all Q [] past v h (x ∷ log) w k e = let z : ◌≡◌ {A = ℕ} 0 1 = cc in absurd (omega arith)
  always_all Q (c ∷ calls) past v h [] w k e = let z : ◌≡◌ {A = ℕ} 0 1 = cc in absurd (omega arith)
  always_all Q (c ∷ calls) past v (g, h) (x ∷ log) w (u, s, k) e =
      let p : call_of x ≡ c = cc in
      let q : calls_of log ≡ calls = cc in
      let a = h x u s p in
      let r = always_all Q calls (past ++ (x ∷ [])) u a.1 log w k q in
      (omega (arith, a.0, r.0), subst (λ y. Q y w) (append_assoc past (x ∷ []) log) r.1)

  -- one list of calls after another
  pub always_then : (P Q : List Entry → View → Type 0) (calls more : List Call) (past : List Entry) (v : View) → Always R P past v calls
      → ((past : List Entry) (v : View) → P past v → Always R Q past v more) → Always R Q past v (calls ++ more)
  always_then P Q [] more past v h f = f past v h
  always_then P Q (c ∷ calls) more past v (g, h) f =
      (g, λ e w s q. let a = h e w s q in (a.0, always_then P Q calls more (past ++ (e ∷ [])) w a.1 f))

-- the shortest part with n ticks, and what follows
upto_split : (n : ℕ) (log : List Entry) → n ≤ ticks log → (rest : List Entry) × (log ≡ up_to n log ++ rest) × (ticks (up_to n log) ≡ n)
upto_split zero log l = (log, refl, refl)
upto_split (suc n) [] l = absurd (omega arith)
upto_split (suc n) (released row wait ∷ log) l =
    let r = upto_split (suc n) log (omega arith) in (r.0, ap (λ x. released row wait ∷ x) r.1, omega (arith, r.2))
upto_split (suc n) (done row ∷ log) l =
    let r = upto_split (suc n) log (omega arith) in (r.0, ap (λ x. done row ∷ x) r.1, omega (arith, r.2))
upto_split (suc n) (ticked who rang ∷ log) l =
    let r = upto_split n log (omega arith) in (r.0, ap (λ x. ticked who rang ∷ x) r.1, omega (arith, r.2))
upto_split (suc n) (reported row status ∷ log) l =
    let r = upto_split (suc n) log (omega arith) in (r.0, ap (λ x. reported row status ∷ x) r.1, omega (arith, r.2))
upto_split (suc n) (refused call why ∷ log) l =
    let r = upto_split (suc n) log (omega arith) in (r.0, ap (λ x. refused call why ∷ x) r.1, omega (arith, r.2))

pub missed_more : (tasks : List Task) (log more : List Entry) → Missed tasks log → Missed tasks (log ++ more)
missed_more tasks log more m =
    record {
      before = m.before;
      row = m.row;
      wait = m.wait;
      since = m.since;
      rest = m.rest ++ more;
      cut = ap (λ x. x ++ more) m.cut ∙ append_assoc (m.before ++ (released m.row m.wait ∷ m.since)) m.rest more;
      reached = m.reached;
      unserved = m.unserved;
    }

-- a job that is open at its due tick or after was open when the clock reached its due tick
pub late : (R : Rules) (log : List Entry) (v : View) → Sane R v → Told R log v → (row : ℕ) (j : Job) → job_at v.slots row ≡ Some j → j.due ≤ v.now
    → Missed R.tasks log
late R log v h t row j e l =
    let s : Since R.tasks row log j = t.jobs row j e in
    let due : ℕ = (task_of R row).due in
    let all : ticks log ≡ ticks s.before + (0 + ticks s.since) =
    ap ticks s.cut ∙ tally_append is_tick s.before (released row s.wait ∷ s.since) in
    let x = upto_split due s.since (omega (arith, s.at, t.clock)) in
    let mid : List Entry = up_to due s.since in
    let part = λ (f : Entry → ℕ). ap (tally f) x.1 ∙ tally_append f mid x.0 in
    let a : tally (is_release row) mid ≡ 0 = omega (arith, part (is_release row), s.last) in
    let b : tally (is_done row) mid ≡ 0 = omega (arith, part (is_done row), s.undone) in
    let c : tally (is_run row) mid < (task_of R row).run = omega (arith, part (is_run row), s.ran, given_below R v h row j e) in
    record {
      before = s.before;
      row = row;
      wait = s.wait;
      since = mid;
      rest = x.0;
      cut = s.cut ∙ (ap (λ y. s.before ++ (released row s.wait ∷ y)) x.1 ∙ sym (append_assoc s.before (released row s.wait ∷ mid) x.0));
      reached = x.2;
      unserved = record { last = a; undone = b; unfinished = c };
    }
