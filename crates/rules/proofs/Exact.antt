-- The log tells just what the view holds. A job that the log has open stays in its slot, since nothing since its release
-- closed it, and back by proofs/Told.antt. So sleeps begin and end by the log exactly where the board's do.
use Rattle.std.proofs.Common.{◌≡◌, ℕ, zero, suc, ◌+◌, ◌<◌, ◌≤◌, Bool, true, false, ◌⊎◌, List, [], ◌∷◌, ◌++◌, length, set, Some, None, Option, sym, refl, ap, ◌∙◌, subst, inl, inr, arith}
use Rattle.std.proofs.lemmas.Bool.{cases_eq, cases_lt}
use Rattle.table.specs.declared.task.Task.{Task}
use Rattle.table.specs.Tasks.{task_at, Whole}
use Rattle.planner.specs.Demand.{need, demand, sum_to}
use Rattle.alarm.specs.Meaning.{rings}
use Rattle.rules.specs.declared.slots.Mode.{Mode}
use Rattle.rules.specs.declared.slots.Mode.TheVariants.{Asleep, Awake}
use Rattle.rules.specs.declared.slots.Job.{Job}
use Rattle.rules.specs.declared.slots.Slot.{Slot}
use Rattle.planner.specs.Sleeps.{sleep_at}
use Rattle.rules.specs.Views.{slot_at, job_at, opened, closed, fed, View, Rules, count, task_of, sleep_of, fresh}
use Rattle.rules.specs.Plans.{limit}
use Rattle.rules.specs.Steps.{Entry, Entry.released, Entry.done, Entry.ticked, Entry.reported, Entry.refused, mode_after, Idle, Busy, Kept, Asks, Sets, Releases, Works, Step, Runs}
use Rattle.rules.specs.Logs.{one, tally, is_run, is_release, is_done, is_waking, Open, Shuts}
use Rattle.rules.specs.Exact.{Reached, OpenExact, BeginsAsleep, AsleepBegins, WakesExact, AwakeBusy, pair, SomePlan}
use Rattle.rules.proofs.Waits.{stays_asleep}
use Rattle.rules.proofs.Cells.{within, none_some, some_none, some_same, slot_set, slot_other, fed_cases}
use Rattle.rules.proofs.Sane.{Sane, Mood, not_both, sane_runs, sane_fresh}
use Rattle.rules.proofs.Runs.{runs_split, runs_more}
use Rattle.rules.proofs.Told.{told_runs, told_fresh, open_told, one_same, one_other}
use Rattle.rules.proofs.Sleep.{begins_idle, idle_mood, sets_at, works_at, no_done}
use Rattle.planner.proofs.Demand.{demand_none, demand_some}

module _ (R : Rules) where
  -- a job with at least so many ticks less its run stays open through a part that has no release and no done of it
  JobLeft : View → ℕ → ℕ → Type 0
  JobLeft v row n = (j : Job) × (job_at v.slots row ≡ Some j) × (j.given + n < (task_of R row).run)

  other_left : (v w : View) (r row n : ℕ) (s : Slot) → w.slots ≡ set v.slots r s → (r ≡ row → ⊥) → JobLeft v row n → JobLeft w row n
  unfolding JobLeft
  other_left v w r row n s e ne (j, q, l) =
      (j, ap (λ x. job_at x row) e ∙ (ap (λ (x : Slot). x.job) (slot_other v.slots r row s (λ p. ne (sym p))) ∙ q), l)

  same_left : (v w : View) (row n m : ℕ) → w.slots ≡ v.slots → n ≡ m → JobLeft v row n → JobLeft w row m
  unfolding JobLeft
  same_left v w row n m e q (j, p, l) = (j, ap (λ x. job_at x row) e ∙ p, omega arith)

  tick_left : (m : Mode) (a who : Option ℕ) (rang : Bool) (v w : View) (row n : ℕ) → Works m a R who v w → JobLeft v row (is_run row (ticked who rang) + n) → JobLeft w row n
  unfolding JobLeft
  tick_left Asleep a None rang v w row n k h = same_left v w row (0 + n) n k.slots (omega arith) h
  tick_left Asleep a (Some r) rang v w row n k h = absurd (some_none k.nobody)
  tick_left Awake a None rang v w row n k h = same_left v w row (0 + n) n k.slots (omega arith) h
  tick_left Awake a (Some r) rang v w row n (i, k) (j, q, l) = by (cases_eq r row)
    where
      run : ℕ
      run = (task_of R row).run

      go : r ≡ row → i ≡ j → slot_at w.slots row ≡ fed run (slot_at v.slots row) j
          → ((run ≤ j.given + 1) × (fed run (slot_at v.slots row) j ≡ closed (slot_at v.slots row)))
          ⊎ ((j.given + 1 < run) × (fed run (slot_at v.slots row) j ≡ record { last = (slot_at v.slots row).last; job = Some (record { due = j.due; given = j.given + 1 }) }))
          → (x : Job) × (job_at w.slots row ≡ Some x) × (x.given + n < run)
      go p same new (inl (x, _)) = absurd (omega (arith, l, x, one_same r row p))
      go p same new (inr (x, e)) =
          (record { due = j.due; given = j.given + 1 }, ap (λ (y : Slot). y.job) (new ∙ e), omega (arith, l, one_same r row p))

      by : (r ≡ row) ⊎ (r ≡ row → ⊥) → (x : Job) × (job_at w.slots row ≡ Some x) × (x.given + n < run)
      by (inl p) =
          let same : i ≡ j = some_same (sym k.chosen.job ∙ (ap (λ y. job_at v.slots y) p ∙ q)) in
          let b : row < length v.slots = within v.slots row j q in
          let new : slot_at w.slots row ≡ fed run (slot_at v.slots row) j =
          ap (λ y. slot_at y row) (k.slots ∙ cc (p, same)) ∙ slot_set v.slots row (fed run (slot_at v.slots row) j) b in
          go p same new (fed_cases run (slot_at v.slots row) j)
      by (inr ne) = other_left v w r row n (fed (task_of R r).run (slot_at v.slots r) i) k.slots ne (j, q, omega (arith, l, one_other r row ne))

  stays_open : (log : List Entry) (v w : View) (row : ℕ) → Runs R v log w → tally (is_release row) log ≡ 0 → tally (is_done row) log ≡ 0
      → JobLeft v row (tally (is_run row) log) → JobLeft w row 0
  stays_open [] v w row k a b h = same_left v w row 0 0 (ap (λ (x : View). x.slots) k) refl h
  stays_open (released r wait ∷ log) v w row (u, s, k) a b h = by (cases_eq r row) (λ x. stays_open log u w row k (omega arith) (omega arith) x)
    where
      by : (r ≡ row) ⊎ (r ≡ row → ⊥) → (JobLeft u row (tally (is_run row) log) → JobLeft w row 0) → JobLeft w row 0
      by (inl p) f = absurd (omega (arith, a, one_same r row p))
      by (inr ne) f =
          f (other_left v u r row (tally (is_run row) log) (opened v.now (v.now + (task_of R r).due)) s.slots ne
          (same_left v v row (0 + tally (is_run row) log) (tally (is_run row) log) refl (omega arith) h))
  stays_open (done r ∷ log) v w row (u, s, k) a b h = by (cases_eq r row) (λ x. stays_open log u w row k (omega arith) (omega (arith, b)) x)
    where
      by : (r ≡ row) ⊎ (r ≡ row → ⊥) → (JobLeft u row (tally (is_run row) log) → JobLeft w row 0) → JobLeft w row 0
      by (inl p) f = absurd (omega (arith, b, one_same r row p))
      by (inr ne) f =
          f (other_left v u r row (tally (is_run row) log) (closed (slot_at v.slots r)) s.slots ne
          (same_left v v row (0 + tally (is_run row) log) (tally (is_run row) log) refl (omega arith) h))
  stays_open (ticked who rang ∷ log) v w row (u, s, k) a b h =
      stays_open log u w row k (omega arith) (omega arith) (tick_left v.mode v.alarm who rang v u row (tally (is_run row) log) s.works h)
  stays_open (reported r status ∷ log) v w row (u, s, k) a b h =
      stays_open log u w row k (omega arith) (omega arith)
      (same_left v u row (0 + tally (is_run row) log) (tally (is_run row) log) (ap (λ (x : View). x.slots) s.same) (omega arith) h)
  stays_open (refused call why ∷ log) v w row (u, s, k) a b h =
      stays_open log u w row k (omega arith) (omega arith)
      (same_left v u row (0 + tally (is_run row) log) (tally (is_run row) log) (ap (λ (x : View). x.slots) s.1) (omega arith) h)

pub open_exact : OpenExact
unfolding JobLeft
open_exact R log v r row = (there, back)
  where
    there : Open R.tasks row log → (j : Job) × (job_at v.slots row ≡ Some j)
    there o =
        let split = runs_split R o.before (released row o.wait ∷ o.since) (fresh (count R)) v (subst (λ x. Runs R (fresh (count R)) x v) o.cut r.run) in
        let x : View = split.0 in
        let h : Sane R x = sane_runs R r.whole o.before (fresh (count R)) x (sane_fresh R) split.1 in
        let u : View = split.2.0 in
        let s : Releases R x row o.wait u = split.2.1 in
        let new : Slot = opened x.now (x.now + (task_of R row).due) in
        let e : job_at u.slots row ≡ new.job =
        ap (λ y. job_at y row) s.slots ∙ ap (λ (y : Slot). y.job) (slot_set x.slots row new (omega (arith, s.listed, h.size))) in
        let z = stays_open R o.since u v row split.2.2 o.unserved.last o.unserved.undone (record { due = x.now + (task_of R row).due; given = 0 }, e, omega (arith, o.unserved.unfinished)) in
        (z.0, z.1)

    back : (j : Job) → job_at v.slots row ≡ Some j → Open R.tasks row log
    back j e =
        open_told R log v (sane_runs R r.whole log (fresh (count R)) v (sane_fresh R) r.run)
        (told_runs R r.whole log [] (fresh (count R)) v (sane_fresh R) (told_fresh R) r.run) row j e

pub begins_asleep : BeginsAsleep
begins_asleep R log v r b =
    let h : Sane R v = sane_runs R r.whole log (fresh (count R)) v (sane_fresh R) r.run in
    let i : Idle v.slots = begins_idle R r.whole 0 (λ _ _. omega arith) log v r.run b in
    let m = idle_mood v.mode v.alarm v.slots h.mood i in
    (m.0, m.1, i)

-- the one open job that a tick or a done closes
LastOne : View → Entry → Type 0
LastOne v e = Shuts e × ((row : ℕ) × (j : Job) × (job_at v.slots row ≡ Some j) × ((other : ℕ) (k : Job) → job_at v.slots other ≡ Some k → other ≡ row))

only_one : (v w : View) (r : ℕ) (s : Slot) → w.slots ≡ set v.slots r s → Idle w.slots → (other : ℕ) (k : Job) → job_at v.slots other ≡ Some k → other ≡ r
only_one v w r s e i other k q = by (cases_eq other r)
  where
    by : (other ≡ r) ⊎ (other ≡ r → ⊥) → other ≡ r
    by (inl p) = p
    by (inr ne) =
        absurd (none_some (sym (i other) ∙ (ap (λ x. job_at x other) e ∙ (ap (λ (x : Slot). x.job) (slot_other v.slots r other s ne) ∙ q))))

last_tick : (m : Mode) (a who : Option ℕ) (rang : Bool) (R : Rules) (v w : View) → Works m a R who v w → Busy v.slots → Idle w.slots → LastOne v (ticked who rang)
unfolding LastOne
last_tick Asleep a who rang R v w k b i = absurd (none_some (sym (i b.0) ∙ (ap (λ x. job_at x b.0) k.slots ∙ b.2)))
last_tick Awake a None rang R v w k b i = absurd (not_both v.slots k.idle b)
last_tick Awake a (Some r) rang R v w (j, k) b i = (tt, (r, j, k.chosen.job, only_one v w r (fed (task_of R r).run (slot_at v.slots r) j) k.slots i))

last_one : (R : Rules) (v : View) (e : Entry) (w : View) → length v.slots ≡ count R → Step R v e w → Busy v.slots → Idle w.slots → LastOne v e
unfolding LastOne
last_one R v (released row wait) w size s b i =
    let new : Slot = opened v.now (v.now + (task_of R row).due) in
    absurd (none_some (sym (i row) ∙ (ap (λ x. job_at x row) s.slots ∙ ap (λ (x : Slot). x.job) (slot_set v.slots row new (omega (arith, s.listed))))))
last_one R v (done row) w size s b i = (tt, (row, s.begun.0, s.begun.1, only_one v w row (closed (slot_at v.slots row)) s.slots i))
last_one R v (ticked who rang) w size s b i = last_tick v.mode v.alarm who rang R v w s.works b i
last_one R v (reported row status) w size s b i = absurd (none_some (sym (i b.0) ∙ (ap (λ (x : View). job_at x.slots b.0) s.same ∙ b.2)))
last_one R v (refused call why) w size s b i = absurd (none_some (sym (i b.0) ∙ (ap (λ (x : View). job_at x.slots b.0) s.1 ∙ b.2)))

pub asleep_begins : AsleepBegins
unfolding LastOne
asleep_begins R log v r e w s b i =
    let h : Sane R v = sane_runs R r.whole log (fresh (count R)) v (sane_fresh R) r.run in
    let l = last_one R v e w h.size s b i in
    let after : Reached R (log ++ (e ∷ [])) w = record { whole = r.whole; run = runs_more R log (fresh (count R)) v w e r.run s } in
    record {
      earlier = log;
      entry = e;
      cut = refl;
      shuts = l.0;
      row = l.1.0;
      was = (open_exact R log v r l.1.0).1 l.1.1 l.1.2;
      only = λ other o. let j = (open_exact R log v r other).0 o in l.1.3 other j.0 j.1;
      gone = λ o. let j = (open_exact R (log ++ (e ∷ [])) w after l.1.0).0 o in none_some (sym (i l.1.0) ∙ j.1);
    }

mood_busy : (m : Mode) (a : Option ℕ) (slots : List Slot) → Mood m a slots → m ≡ Awake → Busy slots
mood_busy Awake None slots h e = h
mood_busy Awake (Some l) slots h e = absurd h
mood_busy Asleep a slots h e = let z : ◌≡◌ {A = ℕ} 0 1 = cc in absurd (omega arith)

pub awake_busy : AwakeBusy
awake_busy R log v r m = mood_busy v.mode v.alarm v.slots (sane_runs R r.whole log (fresh (count R)) v (sane_fresh R) r.run).mood m

abbrev Waking : Entry → View → Type 0
Waking e w = (w.mode ≡ Awake → is_waking e ≡ 1) × (is_waking e ≡ 1 → w.mode ≡ Awake)

asleep_waking : (e : Entry) (w : View) → is_waking e ≡ 0 → w.mode ≡ Asleep → Waking e w
asleep_waking e w z m = (λ x. let q : Asleep ≡ Awake = sym m ∙ x in let y : ◌≡◌ {A = ℕ} 0 1 = cc in absurd (omega arith), λ x. absurd (omega arith))

awake_waking : (e : Entry) (w : View) → is_waking e ≡ 1 → w.mode ≡ Awake → Waking e w
awake_waking e w z m = (λ x. z, λ x. m)

asks_waking : (R : Rules) (row s : ℕ) (wait : Option ℕ) (w : View) → Asks R s wait w → Waking (released row wait) w
asks_waking R row s None w k = absurd k
asks_waking R row s (Some zero) w k = awake_waking (released row (Some 0)) w refl k.mode
asks_waking R row s (Some (suc m)) w k = asleep_waking (released row (Some (suc m))) w refl (k.mode ∙ stays_asleep m)

kept_waking : (row : ℕ) (a wait : Option ℕ) (w : View) → Kept Asleep a wait w → Waking (released row wait) w
kept_waking row a None w k = asleep_waking (released row None) w refl k.mode
kept_waking row a (Some m) w k = absurd (some_none k.unasked)

sets_waking : (R : Rules) (row s : ℕ) (a wait : Option ℕ) (w : View) → Sets Asleep a R s wait w → Waking (released row wait) w
sets_waking R row s None wait w k = asks_waking R row s wait w k
sets_waking R row s (Some l) wait w (inl k) = kept_waking row (Some l) wait w k.1
sets_waking R row s (Some l) wait w (inr k) = asks_waking R row s wait w k.1

ring_waking : (who : Option ℕ) (rang b : Bool) (w : View) → rang ≡ b → w.mode ≡ mode_after b → Waking (ticked who rang) w
ring_waking who rang true w e m = awake_waking (ticked who rang) w (ap one e) m
ring_waking who rang false w e m = asleep_waking (ticked who rang) w (ap one e) m

pub wakes_exact : WakesExact
wakes_exact R log v r (released row wait) w s m = sets_waking R row (sleep_of R row) v.alarm wait w (sets_at R v w row wait v.alarm m refl s)
wakes_exact R log v r (done row) w s m =
    absurd (no_done R v row w (sane_runs R r.whole log (fresh (count R)) v (sane_fresh R) r.run) m s)
wakes_exact R log v r (ticked who rang) w s m = ring_waking who rang (rings v.alarm) w s.rung (works_at R v w who v.alarm rang m refl s).mode
wakes_exact R log v r (reported row status) w s m = asleep_waking (reported row status) w refl (ap (λ (x : View). x.mode) s.same ∙ m)
wakes_exact R log v r (refused call why) w s m = asleep_waking (refused call why) w refl (ap (λ (x : View). x.mode) s.1 ∙ m)

abbrev first : Task
first = record { run = 1; due = 3; gap = 4 }

abbrev second : Task
second = record { run = 2; due = 5; gap = 6 }

need_pair : (t : ℕ) → need pair t ≡ demand first t + demand second t
unfolding need sum_to
need_pair t = omega arith

fits_pair : (t : ℕ) → 3 ≤ t → 2 + need pair t ≤ t
fits_pair t l = go (cases_lt t 5)
  where
    go : (t < 5) ⊎ (5 ≤ t) → 2 + need pair t ≤ t
    go (inl k) = omega (arith, need_pair t, demand_some first t l, demand_none second t k)
    go (inr k) = omega (arith, need_pair t, demand_some first t l, demand_some second t k)

need_at : need pair 5 ≡ 3
unfolding need sum_to demand
need_at = refl

whole_pair : (i : ℕ) → i < length pair → Whole (task_at pair i)
whole_pair zero l = (omega arith, omega arith, omega arith)
whole_pair (suc zero) l = (omega arith, omega arith, omega arith)
whole_pair (suc (suc i)) l = absurd (omega arith)

rested_pair : (i t : ℕ) → i < length pair → (task_at pair i).due ≤ t → sleep_at (2 ∷ 2 ∷ []) i + need pair t ≤ t
rested_pair zero t l d = fits_pair t d
rested_pair (suc zero) t l d = fits_pair t (omega arith)
rested_pair (suc (suc i)) t l d = absurd (omega arith)

pub some_plan : SomePlan
some_plan = (
  record { size = refl; whole = whole_pair; rested = rested_pair; met = met },
  record { below = least; met = (0, omega arith, refl) },
)
  where
    met : (i : ℕ) → i < length pair → (t : ℕ) × ((task_at pair i).due ≤ t) × (t ≤ limit) × (sleep_at (2 ∷ 2 ∷ []) i + need pair t ≡ t)
    met zero l = (5, omega arith, omega arith, omega (arith, need_at))
    met (suc zero) l = (5, omega arith, omega arith, omega (arith, need_at))
    met (suc (suc i)) l = absurd (omega arith)

    least : (i : ℕ) → i < length {A = ℕ} (2 ∷ 2 ∷ []) → 2 ≤ sleep_at (2 ∷ 2 ∷ []) i
    least zero l = omega arith
    least (suc zero) l = omega arith
    least (suc (suc i)) l = absurd (omega arith)
