-- The log tells the view: the clock is the number of its ticks, and each open job was released at some place of the log,
-- since when its row was neither released nor done and ran in as many ticks as the job was given. By one step at a time.
use Rattle.std.proofs.Common.{◌≡◌, ℕ, ◌+◌, ◌<◌, Bool, eqb, ◌⊎◌, List, [], ◌∷◌, ◌++◌, length, set, Some, None, Option, sym, refl, ap, ◌∙◌, subst, inl, inr, append_assoc, arith}
use Rattle.std.proofs.lemmas.List.{append-nil}
use Rattle.std.proofs.lemmas.Bool.{cases_eq, eq-eqb, ne_eqb}
use Rattle.table.specs.declared.task.Task.{Task}
use Rattle.table.specs.Tasks.{task_at, AllWhole}
use Rattle.rules.specs.declared.slots.Mode.{Mode}
use Rattle.rules.specs.declared.slots.Mode.TheVariants.{Asleep, Awake}
use Rattle.rules.specs.declared.slots.Job.{Job}
use Rattle.rules.specs.declared.slots.Slot.{Slot}
use Rattle.rules.specs.Views.{slot_at, job_at, opened, closed, fed, View, Rules, count, task_of, fresh}
use Rattle.rules.specs.Steps.{Entry, Entry.released, Entry.done, Entry.ticked, Entry.reported, Entry.refused, Works, Step, Runs}
use Rattle.rules.specs.Logs.{one, tally, is_tick, is_run, is_release, is_done, ticks, Open}
use Rattle.rules.proofs.Cells.{within, some_same, none_some, slot_set, slot_other, fed_job, slot_fresh}
use Rattle.rules.proofs.Sane.{Sane, Made, sane_step}

pub one_same : (a b : ℕ) → a ≡ b → one (eqb a b) ≡ 1
one_same a b e = ap one (eq-eqb a b e)

pub one_other : (a b : ℕ) → (a ≡ b → ⊥) → one (eqb a b) ≡ 0
one_other a b e = ap one (ne_eqb a b e)

pub tally_append : (f : Entry → ℕ) (a b : List Entry) → tally f (a ++ b) ≡ tally f a + tally f b
tally_append f [] b = omega arith
tally_append f (e ∷ a) b = omega (arith, tally_append f a b)

pub tally_push : (f : Entry → ℕ) (a : List Entry) (e : Entry) → tally f (a ++ (e ∷ [])) ≡ tally f a + f e
tally_push f a e = omega (arith, tally_append f a (e ∷ []))

-- the release that made the row's open job, and what came since
pub record Since (tasks : List Task) (row : ℕ) (log : List Entry) (j : Job) : Type 0 where
  pub before : List Entry
  pub wait : Option ℕ
  pub since : List Entry
  pub cut : log ≡ before ++ (released row wait ∷ since)
  pub last : tally (is_release row) since ≡ 0
  pub undone : tally (is_done row) since ≡ 0
  pub ran : tally (is_run row) since ≡ j.given
  pub at : j.due ≡ ticks before + (task_at tasks row).due

pub record Told (R : Rules) (log : List Entry) (v : View) : Type 0 where
  pub clock : v.now ≡ ticks log
  pub jobs : (row : ℕ) (j : Job) → job_at v.slots row ≡ Some j → Since R.tasks row log j

since_more : (tasks : List Task) (row : ℕ) (log : List Entry) (j k : Job) (e : Entry) → Since tasks row log j
    → is_release row e ≡ 0 → is_done row e ≡ 0 → is_run row e + j.given ≡ k.given → k.due ≡ j.due
    → Since tasks row (log ++ (e ∷ [])) k
since_more tasks row log j k e s a b c d =
    record {
      before = s.before;
      wait = s.wait;
      since = s.since ++ (e ∷ []);
      cut = ap (λ x. x ++ (e ∷ [])) s.cut ∙ append_assoc s.before (released row s.wait ∷ s.since) (e ∷ []);
      last = omega (arith, s.last, tally_push (is_release row) s.since e);
      undone = omega (arith, s.undone, tally_push (is_done row) s.since e);
      ran = omega (arith, s.ran, tally_push (is_run row) s.since e);
      at = d ∙ s.at;
    }

since_same : (tasks : List Task) (row : ℕ) (log : List Entry) (j : Job) (e : Entry) → Since tasks row log j
    → is_release row e ≡ 0 → is_done row e ≡ 0 → is_run row e ≡ 0 → Since tasks row (log ++ (e ∷ [])) j
since_same tasks row log j e s a b c = since_more tasks row log j j e s a b (omega arith) refl

module _ (R : Rules) where
  -- an entry that leaves the slots as they are
  told_still : (log : List Entry) (v : View) (e : Entry) (w : View) → Told R log v → w.slots ≡ v.slots → w.now ≡ v.now + is_tick e
      → ((row : ℕ) → is_release row e ≡ 0) → ((row : ℕ) → is_done row e ≡ 0) → ((row : ℕ) → is_run row e ≡ 0)
      → Told R (log ++ (e ∷ [])) w
  told_still log v e w t s n a b c =
      record {
        clock = omega (arith, t.clock, tally_push is_tick log e);
        jobs = λ row j q. since_same R.tasks row log j e (t.jobs row j (sym (ap (λ x. job_at x row) s) ∙ q)) (a row) (b row) (c row);
      }

  -- an entry that writes one slot
  told_write : (log : List Entry) (v : View) (e : Entry) (w : View) (row : ℕ) (s : Slot) → Told R log v → row < length v.slots
      → w.slots ≡ set v.slots row s → w.now ≡ v.now + is_tick e
      → ((j : Job) → s.job ≡ Some j → Since R.tasks row (log ++ (e ∷ [])) j)
      → ((other : ℕ) → (row ≡ other → ⊥) → (is_release other e ≡ 0) × (is_done other e ≡ 0) × (is_run other e ≡ 0))
      → Told R (log ++ (e ∷ [])) w
  told_write log v e w row s t l q n new old =
      record {
        clock = omega (arith, t.clock, tally_push is_tick log e);
        jobs = λ i j h. by i j (sym (ap (λ x. job_at x i) q) ∙ h) (cases_eq i row);
      }
    where
      by : (i : ℕ) (j : Job) → job_at (set v.slots row s) i ≡ Some j → (i ≡ row) ⊎ (i ≡ row → ⊥) → Since R.tasks i (log ++ (e ∷ [])) j
      by i j h (inl p) =
          subst (λ k. Since R.tasks k (log ++ (e ∷ [])) j) (sym p)
          (new j (sym (ap (λ (x : Slot). x.job) (ap (λ k. slot_at (set v.slots row s) k) p ∙ slot_set v.slots row s l)) ∙ h))
      by i j h (inr ne) =
          let o = old i (λ p. ne (sym p)) in
          since_same R.tasks i log j e
          (t.jobs i j (sym (ap (λ (x : Slot). x.job) (slot_other v.slots row i s ne)) ∙ h)) o.0 o.1 o.2

  told_tick : (m : Mode) (a who : Option ℕ) (rang : Bool) (log : List Entry) (v w : View) → Told R log v → w.now ≡ v.now + 1 → Works m a R who v w
      → Told R (log ++ (ticked who rang ∷ [])) w
  told_tick Asleep a None rang log v w t n k = told_still log v (ticked None rang) w t k.slots n (λ _. refl) (λ _. refl) (λ _. refl)
  told_tick Asleep a (Some r) rang log v w t n k = let z : ◌≡◌ {A = ℕ} 0 1 = cc k.nobody in absurd (omega arith)
  told_tick Awake a None rang log v w t n k = told_still log v (ticked None rang) w t k.slots n (λ _. refl) (λ _. refl) (λ _. refl)
  told_tick Awake a (Some r) rang log v w t n (j, k) =
      told_write log v (ticked (Some r) rang) w r (fed (task_of R r).run (slot_at v.slots r) j) t (within v.slots r j k.chosen.job) k.slots n
      (λ i e.
      let f = fed_job (task_of R r).run (slot_at v.slots r) j i e in
      since_more R.tasks r log j i (ticked (Some r) rang) (t.jobs r j k.chosen.job) refl refl (omega (arith, f.1, one_same r r refl)) f.0)
      (λ other ne. (refl, refl, one_other r other ne))

  pub told_step : (log : List Entry) (v : View) (e : Entry) (w : View) → length v.slots ≡ count R → Told R log v → Step R v e w → Told R (log ++ (e ∷ [])) w
  told_step log v (released row wait) w size t k =
      told_write log v (released row wait) w row (opened v.now (v.now + (task_of R row).due)) t (omega (arith, k.listed)) k.slots (omega (arith, k.now))
      (λ j e.
      let same : record { due = v.now + (task_of R row).due; given = 0 } ≡ j = some_same e in
      record {
        before = log;
        wait = wait;
        since = [];
        cut = refl;
        last = refl;
        undone = refl;
        ran = ap (λ (x : Job). x.given) same;
        at = omega (arith, ap (λ (x : Job). x.due) same, t.clock);
      })
      (λ other ne. (one_other row other ne, refl, refl))
  told_step log v (done row) w size t k =
      told_write log v (done row) w row (closed (slot_at v.slots row)) t (omega (arith, k.listed)) k.slots (omega (arith, k.now))
      (λ j e. absurd (none_some e))
      (λ other ne. (refl, one_other row other ne, refl))
  told_step log v (ticked who rang) w size t k = told_tick v.mode v.alarm who rang log v w t k.now k.works
  told_step log v (reported row status) w size t k =
      told_still log v (reported row status) w t (ap (λ (x : View). x.slots) k.same) (omega (arith, ap (λ (x : View). x.now) k.same))
      (λ _. refl) (λ _. refl) (λ _. refl)
  told_step log v (refused call why) w size t k =
      told_still log v (refused call why) w t (ap (λ (x : View). x.slots) k.1) (omega (arith, ap (λ (x : View). x.now) k.1))
      (λ _. refl) (λ _. refl) (λ _. refl)

  pub told_runs : AllWhole R.tasks → (log past : List Entry) (v w : View) → Sane R v → Told R past v → Runs R v log w → Told R (past ++ log) w
  told_runs ok [] past v w h t k = subst (λ x. Told R x w) (sym (append-nil past)) (subst (Told R past) (sym k) t)
  told_runs ok (e ∷ log) past v w h t (u, s, k) =
      subst (λ x. Told R x w) (append_assoc past (e ∷ []) log)
      (told_runs ok log (past ++ (e ∷ [])) u w (sane_step R ok v e u h s) (told_step past v e u h.size t s) k)

  pub told_fresh : Told R [] (fresh (count R))
  told_fresh = record { clock = refl; jobs = λ row j e. absurd (none_some (sym (ap (λ (s : Slot). s.job) (slot_fresh (count R) row)) ∙ e)) }

  pub given_below : (v : View) → Sane R v → (row : ℕ) (j : Job) → job_at v.slots row ≡ Some j → j.given < (task_of R row).run
  given_below v h row j e = go (slot_at v.slots row).last (h.made row j e)
    where
      go : (a : Option ℕ) → Made (task_of R row) a j → j.given < (task_of R row).run
      go None m = absurd m
      go (Some t) m = m.1

  -- what is open in the view is open by the log
  pub open_told : (log : List Entry) (v : View) → Sane R v → Told R log v → (row : ℕ) (j : Job) → job_at v.slots row ≡ Some j → Open R.tasks row log
  open_told log v h t row j e =
      let s = t.jobs row j e in
      record {
        before = s.before;
        wait = s.wait;
        since = s.since;
        cut = s.cut;
        unserved = record { last = s.last; undone = s.undone; unfinished = omega (arith, s.ran, given_below v h row j e) };
      }
