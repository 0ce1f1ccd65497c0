-- The third promise: no longer sleeps would do. Take a window t whose margin is the shortest sleep, release every row as
-- often as its gap allows, and tick, up to t. At first t's need is still to be served, and only a served tick lowers it,
-- by one; the board sleeps through more ticks than the margin, so at t something is open that was due. Which job a tick
-- serves is not used, only that it serves at most one.
use Rattle.std.proofs.Common.{◌≡◌, ℕ, zero, suc, ◌+◌, ◌-◌, ◌/◌, ◌<◌, ◌≤◌, Bool, true, false, cond, leb, ◌⊎◌, List, [], ◌∷◌, ◌++◌, length, set, replicate, Some, None, Option, sym, refl, ap, ◌∙◌, subst, inl, inr, mul-le-mul_left, arith}
use Rattle.std.proofs.lemmas.Bool.{cases_lt, cond-true, cond-false, le-leb, lt-leb, leb-true, leb-false}
use Rattle.table.specs.declared.task.Task.{Task}
use Rattle.table.specs.Tasks.{task_at, Whole, AllWhole}
use Rattle.planner.specs.Demand.{need, demand}
use Rattle.rules.specs.declared.slots.Mode.{Mode}
use Rattle.rules.specs.declared.slots.Mode.TheVariants.{Asleep, Awake}
use Rattle.rules.specs.declared.slots.Job.{Job}
use Rattle.rules.specs.declared.slots.Slot.{Slot}
use Rattle.rules.specs.declared.calls.Call.{Call}
use Rattle.rules.specs.declared.calls.Call.TheVariants.{Release, Tick, Done, Report}
use Rattle.rules.specs.Views.{empty, slot_at, job_at, opened, closed, fed, View, Rules, count, task_of, sleep_of, fresh}
use Rattle.rules.specs.Plans.{limit, Planned}
use Rattle.rules.specs.Steps.{Entry, Entry.released, Entry.done, Entry.ticked, Entry.reported, Entry.refused, mode_after, Soon, Asked, Asks, Sets, Releases, Works, Ticks, Refuses, Step}
use Rattle.rules.specs.Logs.{is_refused, call_of, Missed}
use Rattle.rules.specs.Promises.{Plain, Fails, exact, NoLonger}
use Rattle.rules.proofs.Waits.{waiting_some, stays_asleep, onward_more, silent}
use Rattle.rules.proofs.Sums.{sum_to_at}
use Rattle.planner.proofs.Demand.{demand_some}
use Rattle.rules.proofs.Claims.{Cell, begun, pending, later, backlog, future, pending_le, pending_not, pays_one, begun_claim, Alike}
use Rattle.rules.proofs.Claims.{backlog_zero, backlog_change, future_change, future_stays, future_same, future_over, future_first}
use Rattle.rules.proofs.Cells.{cells, cell_of, next_of, until_of, left_of, within, cases_job, slot_set, slot_other, all_set, alike_set, cell_set, cell_opened, fed_cases, fed_last, slot_fresh}
use Rattle.rules.proofs.Sane.{Sane, Mood, not_both, Made, sane_step, sane_fresh}
use Rattle.rules.proofs.Told.{Told, told_step, told_fresh}
use Rattle.rules.proofs.Progress.{goes, upto}
use Rattle.rules.proofs.Always.{Always, always_exists, always_all, always_then, missed_more, late}

-- the releases at the tick now, of the rows below k whose next release is not later
releases : (ℕ → ℕ) → ℕ → ℕ → List Call
releases next now zero = []
releases next now (suc k) = releases next now k ++ cond (leb (next k) now) (Release k ∷ []) []

moved : List Task → (ℕ → ℕ) → ℕ → ℕ → ℕ
moved tasks next now i = cond (leb (next i) now) (now + (task_at tasks i).gap) (next i)

-- n ticks, each behind every release that may be made
plan : List Task → (ℕ → ℕ) → ℕ → ℕ → List Call
plan tasks next now zero = []
plan tasks next now (suc n) = releases next now (length tasks) ++ (Tick ∷ plan tasks (moved tasks next now) (now + 1) n)

plain_append : (a b : List Call) → Plain a → Plain b → Plain (a ++ b)
plain_append [] b h k = k
plain_append (Release row ∷ a) b h k = plain_append a b h k
plain_append (Tick ∷ a) b h k = plain_append a b h k
plain_append (Done row ∷ a) b h k = absurd h
plain_append (Report row ∷ a) b h k = absurd h

plain_one : (t : Bool) (k : ℕ) → Plain (cond t (Release k ∷ []) [])
plain_one true k = tt
plain_one false k = tt

plain_releases : (next : ℕ → ℕ) (now k : ℕ) → Plain (releases next now k)
unfolding releases
plain_releases next now zero = tt
plain_releases next now (suc k) =
    plain_append (releases next now k) (cond (leb (next k) now) (Release k ∷ []) []) (plain_releases next now k) (plain_one (leb (next k) now) k)

plain_plan : (tasks : List Task) (next : ℕ → ℕ) (now n : ℕ) → Plain (plan tasks next now n)
unfolding plan
plain_plan tasks next now zero = tt
plain_plan tasks next now (suc n) =
    plain_append (releases next now (length tasks)) (Tick ∷ plan tasks (moved tasks next now) (now + 1) n) (plain_releases next now (length tasks))
    (plain_plan tasks (moved tasks next now) (now + 1) n)

moved_now : (tasks : List Task) (next : ℕ → ℕ) (now i : ℕ) → next i ≤ now → moved tasks next now i ≡ now + (task_at tasks i).gap
unfolding moved
moved_now tasks next now i l = cond-true (leb (next i) now) _ _ (le-leb (next i) now l)

moved_not : (tasks : List Task) (next : ℕ → ℕ) (now i : ℕ) → now < next i → moved tasks next now i ≡ next i
unfolding moved
moved_not tasks next now i l = cond-false (leb (next i) now) _ _ (lt-leb (next i) now l)

moved_past : (tasks : List Task) (next : ℕ → ℕ) (now i : ℕ) → Whole (task_at tasks i) → now < moved tasks next now i
moved_past tasks next now i w = go (cases_lt now (next i))
  where
    go : (now < next i) ⊎ (next i ≤ now) → now < moved tasks next now i
    go (inl l) = omega (arith, moved_not tasks next now i l)
    go (inr l) = omega (arith, moved_now tasks next now i l, w.0, w.1, w.2)

-- a tick leaves each row's last release
tick_last : (m : Mode) (a who : Option ℕ) (R : Rules) (v w : View) → Works m a R who v w → (i : ℕ) → (slot_at w.slots i).last ≡ (slot_at v.slots i).last
tick_last Asleep a who R v w k i = ap (λ s. (slot_at s i).last) k.slots
tick_last Awake a None R v w k i = ap (λ s. (slot_at s i).last) k.slots
tick_last Awake a (Some r) R v w (j, k) i =
    ap (λ s. (slot_at s i).last) k.slots
    ∙ all_set (λ x s. s.last ≡ (slot_at v.slots x).last) v.slots r (fed (task_of R r).run (slot_at v.slots r) j)
    (within v.slots r j k.chosen.job) (fed_last (task_of R r).run (slot_at v.slots r) j) (λ _. refl) i

made_due : (r : Task) (a : Option ℕ) (j : Job) → Whole r → Made r a j → j.due ≤ next_of r a
made_due r None j w m = absurd m
made_due r (Some t) j w m = omega (arith, m.0, w.2)

soon_next : (r : Task) (a : Option ℕ) (now : ℕ) → Soon a r.gap now → now < next_of r a
soon_next r None now h = absurd h
soon_next r (Some t) now h = h

-- a row with something pending
find : (tasks : List Task) (cs : ℕ → Cell) (t k : ℕ) → ((j : ℕ) → j < k → pending t (cs j) ≡ 0) ⊎ ((j : ℕ) × (j < k) × (0 < pending t (cs j)))
find tasks cs t zero = inl (λ j l. absurd (omega arith))
find tasks cs t (suc k) = go (find tasks cs t k) (cases_lt 0 (pending t (cs k)))
  where
    go : ((j : ℕ) → j < k → pending t (cs j) ≡ 0) ⊎ ((j : ℕ) × (j < k) × (0 < pending t (cs j)))
        → (0 < pending t (cs k)) ⊎ (pending t (cs k) ≤ 0)
        → ((j : ℕ) → j < suc k → pending t (cs j) ≡ 0) ⊎ ((j : ℕ) × (j < suc k) × (0 < pending t (cs j)))
    go (inl z) (inl o) = inr (k, omega arith, o)
    go (inl z) (inr o) = inl (upto (λ j. pending t (cs j) ≡ 0) k z (omega arith))
    go (inr f) _ = inr (f.0, omega (arith, f.1), f.2)

module _ (R : Rules) (ok : AllWhole R.tasks) (some : 0 < count R) (fine : R.grain ≡ 1) (shortest : ℕ) (far : shortest < R.reach)
    (long : (i : ℕ) → i < count R → shortest < sleep_of R i) (t : ℕ) (below : t ≤ limit) where
  -- of the first sleep: nothing is released yet, or the alarm has enough left
  abbrev Pend : List Slot → ℕ → Option ℕ → Type 0
  Pend slots slept None = (i : ℕ) → i < count R → next_of (task_of R i) (slot_at slots i).last ≡ 0
  Pend slots slept (Some l) = shortest < slept + l

  abbrev Rest : View → Type 0
  Rest v = (shortest < v.slept) ⊎ ((v.mode ≡ Asleep) × (v.ran ≡ 0) × Pend v.slots v.slept v.alarm)

  record Owed (v : View) : Type 0 where
    counts : v.ran + v.slept ≡ v.now
    owed : need R.tasks t ≤ backlog R.tasks (cells R.tasks v.slots) t + future R.tasks v.now (cells R.tasks v.slots) t + v.ran
    rest : Rest v

  -- at the tick now the rows below k have been released, if they may be
  record At (next : ℕ → ℕ) (now k : ℕ) (past : List Entry) (v : View) : Type 0 where
    sane : Sane R v
    told : Told R past v
    clock : v.now ≡ now
    behind : (i : ℕ) → i < k → next_of (task_of R i) (slot_at v.slots i).last ≡ moved R.tasks next now i
    ahead : (i : ℕ) → k ≤ i → i < count R → next_of (task_of R i) (slot_at v.slots i).last ≡ next i
    state : Missed R.tasks past ⊎ Owed v

  asked_rest : (row m : ℕ) (v w : View) → row < count R → Asked R (sleep_of R row) m w → w.ran ≡ v.ran → v.ran ≡ 0 → Rest w
  asked_rest row zero v w l x e z = absurd (omega (arith, x.near, long row l))
  asked_rest row (suc m) v w l x e z =
      inr (x.mode ∙ stays_asleep m, omega arith, subst (Pend w.slots w.slept) (sym (x.alarm ∙ waiting_some m)) (omega (arith, x.near, long row l)))

  asks_rest : (row : ℕ) (wait : Option ℕ) (v w : View) → row < count R → Asks R (sleep_of R row) wait w → w.ran ≡ v.ran → v.ran ≡ 0 → Rest w
  asks_rest row None v w l x e z = absurd x
  asks_rest row (Some m) v w l x e z = asked_rest row m v w l x e z

  sets_rest : (m : Mode) (a : Option ℕ) (row : ℕ) (wait : Option ℕ) (v w : View) → row < count R → Sets m a R (sleep_of R row) wait w
      → w.ran ≡ v.ran → w.slept ≡ v.slept → m ≡ Asleep → v.ran ≡ 0 → Pend v.slots v.slept a → Rest w
  sets_rest Awake a row wait v w l x e f g z p = let q : ◌≡◌ {A = ℕ} 0 1 = cc in absurd (omega arith)
  sets_rest Asleep None row wait v w l x e f g z p = asks_rest row wait v w l x e z
  sets_rest Asleep (Some n) row wait v w l (inl x) e f g z p =
      inr (x.1.mode, omega arith, subst (Pend w.slots w.slept) (sym x.1.alarm) (omega (arith, f, p)))
  sets_rest Asleep (Some n) row wait v w l (inr x) e f g z p = asks_rest row wait v w l x.1 e z

  released_rest : (row : ℕ) (wait : Option ℕ) (v w : View) → Releases R v row wait w → Rest v → Rest w
  released_rest row wait v w s (inl l) = inl (omega (arith, s.slept))
  released_rest row wait v w s (inr x) =
      sets_rest v.mode v.alarm row wait v w s.listed s.sets s.ran s.slept x.0 x.1 x.2

  released_owed : (k : ℕ) (wait : Option ℕ) (v w : View) → Sane R v → Releases R v k wait w
      → next_of (task_of R k) (slot_at v.slots k).last ≤ v.now → job_at v.slots k ≡ None → Owed v → Owed w
  released_owed k wait v w h s free shut o =
      let T : List Task = R.tasks in
      let new : Slot = opened v.now (v.now + (task_of R k).due) in
      let l : k < length v.slots = omega (arith, s.listed, h.size) in
      let cs : ℕ → Cell = cells T v.slots in
      let ds : ℕ → Cell = cells T (set v.slots k new) in
      let alike : Alike T k cs ds = alike_set T v.slots k new in
      let left : (cs k).left ≡ 0 = ap (left_of (task_of R k)) shut in
      let at : ds k ≡ begun (task_of R k) v.now = cell_opened T v.slots k v.now l in
      let claim : need T t ≤ backlog T ds t + future T v.now ds t + v.ran =
      omega (
        arith,
        o.owed,
        pending_le t (cs k),
        backlog_change T cs ds k t s.listed alike,
        future_change T cs ds k v.now t s.listed alike,
        begun_claim (task_of R k) v.now t (cs k) (ok k s.listed) free,
        ap (pending t) at,
        ap (later (task_of R k) v.now t) at,
      ) in
      record {
        counts = omega (arith, o.counts, s.ran, s.slept, s.now);
        owed = omega (
          arith,
          claim,
          ap (λ x. backlog T (cells T x) t) s.slots,
          ap (λ x. future T v.now (cells T x) t) s.slots,
          ap (λ x. future T x (cells T w.slots) t) s.now,
          s.ran,
        );
        rest = released_rest k wait v w s o.rest;
      }

  -- a release at its time
  released_at : (next : ℕ → ℕ) (now k : ℕ) (past : List Entry) (v w : View) (wait : Option ℕ) → k < count R → next k ≤ now → At next now k past v
      → Releases R v k wait w → At next now (suc k) (past ++ (released k wait ∷ [])) w
  released_at next now k past v w wait l n a s =
      record {
        sane = sane_step R ok v (released k wait) w a.sane s;
        told = told_step R past v (released k wait) w a.sane.size a.told s;
        clock = omega (arith, s.now, a.clock);
        behind = upto (λ i. next_of (task_of R i) (slot_at w.slots i).last ≡ moved R.tasks next now i) k
            (λ i m. ap (next_of (task_of R i)) (other i (λ e. omega arith)) ∙ a.behind i m)
            (ap (λ (x : Slot). next_of (task_of R k) x.last) (ap (λ x. slot_at x k) s.slots ∙ slot_set v.slots k new b)
            ∙ omega (arith, a.clock, moved_now R.tasks next now k n));
        ahead = λ i m c. ap (next_of (task_of R i)) (other i (λ e. omega arith)) ∙ a.ahead i (omega arith) c;
        state = by a.state (cases_job (job_at v.slots k));
      }
    where
      new : Slot
      new = opened v.now (v.now + (task_of R k).due)

      b : k < length v.slots
      b = omega (arith, l, a.sane.size)

      other : (i : ℕ) → (i ≡ k → ⊥) → (slot_at w.slots i).last ≡ (slot_at v.slots i).last
      other i ne = ap (λ x. (slot_at x i).last) s.slots ∙ ap (λ (x : Slot). x.last) (slot_other v.slots k i new ne)

      free : next_of (task_of R k) (slot_at v.slots k).last ≤ v.now
      free = omega (arith, a.ahead k (omega arith) l, a.clock)

      by : Missed R.tasks past ⊎ Owed v → (job_at v.slots k ≡ None) ⊎ ((j : Job) × (job_at v.slots k ≡ Some j))
          → Missed R.tasks (past ++ (released k wait ∷ [])) ⊎ Owed w
      by (inl m) _ = inl (missed_more R.tasks past (released k wait ∷ []) m)
      by (inr o) (inl e) = inr (released_owed k wait v w a.sane s free e o)
      by (inr o) (inr (j, e)) =
          inl (missed_more R.tasks past (released k wait ∷ [])
          (late R past v a.sane a.told k j e (omega (arith, free, made_due (task_of R k) (slot_at v.slots k).last j (ok k l) (a.sane.made k j e)))))

  release_step : (next : ℕ → ℕ) (now k : ℕ) (past : List Entry) (v w : View) (e : Entry) → k < count R → next k ≤ now → At next now k past v
      → Step R v e w → call_of e ≡ Release k → (is_refused e ≡ 0) × At next now (suc k) (past ++ (e ∷ [])) w
  release_step next now k past v w (released row wait) l n a s q =
      let p : row ≡ k = cc in
      (refl, subst (λ r. At next now (suc k) (past ++ (released r wait ∷ [])) w) (sym p) (released_at next now k past v w wait l n a (subst (λ r. Releases R v r wait w) p s)))
  release_step next now k past v w (done row) l n a s q = let z : ◌≡◌ {A = ℕ} 0 1 = cc in absurd (omega arith)
  release_step next now k past v w (ticked who rang) l n a s q = let z : ◌≡◌ {A = ℕ} 0 1 = cc in absurd (omega arith)
  release_step next now k past v w (reported row status) l n a s q = let z : ◌≡◌ {A = ℕ} 0 1 = cc in absurd (omega arith)
  release_step next now k past v w (refused call why) l n a s q = absurd (by (subst (λ c. Refuses R v c why) q s.0))
    where
      by : Refuses R v (Release k) why → ⊥
      by (inl x) = omega (arith, x.1)
      by (inr x) = omega (arith, soon_next (task_of R k) (slot_at v.slots k).last v.now x.2, a.ahead k (omega arith) l, a.clock)

  -- a row whose time has not come
  skipped : (next : ℕ → ℕ) (now k : ℕ) (past : List Entry) (v : View) → k < count R → now < next k → At next now k past v → At next now (suc k) past v
  skipped next now k past v l n a =
      record {
        sane = a.sane;
        told = a.told;
        clock = a.clock;
        behind = upto (λ i. next_of (task_of R i) (slot_at v.slots i).last ≡ moved R.tasks next now i) k a.behind
            (a.ahead k (omega arith) l ∙ sym (moved_not R.tasks next now k n));
        ahead = λ i m c. a.ahead i (omega arith) c;
        state = a.state;
      }

  -- the releases of one tick
  one_row : (next : ℕ → ℕ) (now k : ℕ) (past : List Entry) (v : View) (b : Bool) → b ≡ leb (next k) now → k < count R → At next now k past v
      → Always R (At next now (suc k)) past v (cond b (Release k ∷ []) [])
  one_row next now k past v true q l a =
      (goes R (omega arith) v a.sane (Release k), λ e w s p. release_step next now k past v w e l (leb-true (next k) now (sym q)) a s p)
  one_row next now k past v false q l a = skipped next now k past v l (leb-false (next k) now (sym q)) a

  rows_to : (next : ℕ → ℕ) (now k : ℕ) (past : List Entry) (v : View) → k ≤ count R → At next now 0 past v
      → Always R (At next now k) past v (releases next now k)
  unfolding releases
  rows_to next now zero past v l a = a
  rows_to next now (suc k) past v l a =
      always_then R (At next now k) (At next now (suc k)) (releases next now k) (cond (leb (next k) now) (Release k ∷ []) []) past v
      (rows_to next now k past v (omega arith) a)
      (λ past' v' a'. one_row next now k past' v' (leb (next k) now) refl (omega arith) a')

  -- a tick pays for at most one
  tick_rest : (m : Mode) (a who : Option ℕ) (v w : View) → Works m a R who v w → m ≡ Asleep → v.ran ≡ 0 → Pend v.slots v.slept a
      → ((i : ℕ) → i < count R → 0 < next_of (task_of R i) (slot_at v.slots i).last) → Rest w
  tick_rest Awake a who v w k e z p f = let q : ◌≡◌ {A = ℕ} 0 1 = cc in absurd (omega arith)
  tick_rest Asleep None who v w k e z p f = absurd (omega (arith, p 0 some, f 0 some))
  tick_rest Asleep (Some zero) who v w k e z p f = inl (omega (arith, k.slept, p))
  tick_rest Asleep (Some (suc zero)) who v w k e z p f = inl (omega (arith, k.slept, p))
  tick_rest Asleep (Some (suc (suc l))) who v w k e z p f =
      inr (k.mode ∙ ap mode_after (silent l), omega (arith, k.ran), subst (Pend w.slots w.slept) (sym (k.alarm ∙ onward_more l)) (omega (arith, k.slept, p)))

  tick_counts : (m : Mode) (a who : Option ℕ) (v w : View) → Mood m a v.slots → Works m a R who v w → (w.ran + w.slept ≡ v.ran + v.slept + 1) × (v.slept ≤ w.slept)
  tick_counts Asleep a who v w h k = (omega (arith, k.ran, k.slept), omega (arith, k.slept))
  tick_counts Awake None None v w h k = absurd (not_both v.slots k.idle h)
  tick_counts Awake (Some l) None v w h k = absurd h
  tick_counts Awake a (Some r) v w h (j, k) = (omega (arith, k.ran, k.slept), omega (arith, k.slept))

  tick_backlog : (m : Mode) (a who : Option ℕ) (v w : View) → Sane R v → Works m a R who v w
      → backlog R.tasks (cells R.tasks v.slots) t + v.ran ≤ backlog R.tasks (cells R.tasks w.slots) t + w.ran
  tick_backlog Asleep a who v w h k = omega (arith, ap (λ x. backlog R.tasks (cells R.tasks x) t) k.slots, k.ran)
  tick_backlog Awake a None v w h k = omega (arith, ap (λ x. backlog R.tasks (cells R.tasks x) t) k.slots, k.ran)
  tick_backlog Awake a (Some r) v w h (j, k) =
      omega (
        arith,
        ap (λ x. backlog T (cells T x) t) k.slots,
        k.ran,
        backlog_change T (cells T v.slots) (cells T (set v.slots r new)) r t (omega (arith, b, h.size)) (alike_set T v.slots r new),
        pays (fed_cases (task_of R r).run (slot_at v.slots r) j),
      )
    where
      T : List Task
      T = R.tasks

      new : Slot
      new = fed (task_of R r).run (slot_at v.slots r) j

      b : r < length v.slots
      b = within v.slots r j k.chosen.job

      left : (cells T v.slots r).left ≡ (task_of R r).run - j.given
      left = ap (left_of (task_of R r)) k.chosen.job

      until : (cells T v.slots r).until ≡ j.due
      until = ap until_of k.chosen.job

      pays : (((task_of R r).run ≤ j.given + 1) × (new ≡ closed (slot_at v.slots r)))
          ⊎ ((j.given + 1 < (task_of R r).run) × (new ≡ record { last = (slot_at v.slots r).last; job = Some (record { due = j.due; given = j.given + 1 }) }))
          → pending t (cells T v.slots r) ≤ pending t (cells T (set v.slots r new) r) + 1
      pays (inl (x, e)) = omega (arith, x, left, pending_le t (cells T v.slots r))
      pays (inr (x, e)) =
          let q = cell_set T v.slots r new b ∙ ap (cell_of (task_of R r)) e in
          pays_one t (cells T v.slots r) (cells T (set v.slots r new) r) (ap (λ (c : Cell). c.until) q ∙ sym until)
          (omega (arith, left, ap (λ (c : Cell). c.left) q))

  ticked_at : (next : ℕ → ℕ) (now : ℕ) (past : List Entry) (v w : View) (who : Option ℕ) (rang : Bool) → At next now (count R) past v → Ticks R v who rang w
      → At (moved R.tasks next now) (now + 1) 0 (past ++ (ticked who rang ∷ [])) w
  ticked_at next now past v w who rang a s =
      record {
        sane = sane_step R ok v (ticked who rang) w a.sane s;
        told = told_step R past v (ticked who rang) w a.sane.size a.told s;
        clock = omega (arith, s.now, a.clock);
        behind = λ i l. absurd (omega arith);
        ahead = λ i l c. ap (next_of (task_of R i)) (last i) ∙ a.behind i c;
        state = by a.state;
      }
    where
      T : List Task
      T = R.tasks

      last : (i : ℕ) → (slot_at w.slots i).last ≡ (slot_at v.slots i).last
      last = tick_last v.mode v.alarm who R v w s.works

      past_now : (i : ℕ) → i < count R → v.now < (cells T v.slots i).next
      past_now i l = omega (arith, a.clock, a.behind i l, moved_past T next now i (ok i l))

      stays : future T w.now (cells T w.slots) t ≡ future T v.now (cells T v.slots) t
      stays =
          ap (λ x. future T x (cells T w.slots) t) s.now
          ∙ (future_same T (v.now + 1) (cells T v.slots) (cells T w.slots) t (λ i l. ap (next_of (task_of R i)) (last i))
          ∙ future_stays T v.now (cells T v.slots) t past_now)

      rest : Rest v → Rest w
      rest (inl l) = inl (omega (arith, (tick_counts v.mode v.alarm who v w a.sane.mood s.works).1))
      rest (inr x) =
          tick_rest v.mode v.alarm who v w s.works x.0 x.1 x.2 (λ i l. omega (arith, past_now i l))

      by : Missed T past ⊎ Owed v → Missed T (past ++ (ticked who rang ∷ [])) ⊎ Owed w
      by (inl m) = inl (missed_more T past (ticked who rang ∷ []) m)
      by (inr o) =
          inr (record {
            counts = omega (arith, o.counts, s.now, (tick_counts v.mode v.alarm who v w a.sane.mood s.works).0);
            owed = omega (arith, o.owed, stays, tick_backlog v.mode v.alarm who v w a.sane s.works);
            rest = rest o.rest;
          })

  tick_step : (next : ℕ → ℕ) (now : ℕ) (past : List Entry) (v w : View) (e : Entry) → now < t → At next now (count R) past v
      → Step R v e w → call_of e ≡ Tick → (is_refused e ≡ 0) × At (moved R.tasks next now) (now + 1) 0 (past ++ (e ∷ [])) w
  tick_step next now past v w (released row wait) l a s q = let z : ◌≡◌ {A = ℕ} 0 1 = cc in absurd (omega arith)
  tick_step next now past v w (done row) l a s q = let z : ◌≡◌ {A = ℕ} 0 1 = cc in absurd (omega arith)
  tick_step next now past v w (ticked who rang) l a s q = (refl, ticked_at next now past v w who rang a s)
  tick_step next now past v w (reported row status) l a s q = let z : ◌≡◌ {A = ℕ} 0 1 = cc in absurd (omega arith)
  tick_step next now past v w (refused call why) l a s q =
      let x : Refuses R v Tick why = subst (λ c. Refuses R v c why) q s.0 in
      absurd (omega (arith, x.1, a.clock))

  -- at t, with nothing more to come by t, something is open that was due by t
  ends : (next : ℕ → ℕ) (past : List Entry) (v : View) → shortest + need R.tasks t ≤ t → 0 < need R.tasks t
      → At next t 0 past v → t ≤ shortest + need R.tasks t → Missed R.tasks past
  ends next past v fit big a full = by a.state
    where
      T : List Task
      T = R.tasks

      over : future T v.now (cells T v.slots) t ≡ 0
      over = ap (λ x. future T x (cells T v.slots) t) a.clock ∙ future_over T t (cells T v.slots) ok

      owes : Owed v → Rest v → 0 < backlog T (cells T v.slots) t
      owes o (inl l) = omega (arith, o.owed, o.counts, a.clock, over)
      owes o (inr x) = omega (arith, o.owed, x.1, over)

      job : (i : ℕ) → i < count R → 0 < pending t (cells T v.slots i) → (job_at v.slots i ≡ None) ⊎ ((j : Job) × (job_at v.slots i ≡ Some j)) → Missed T past
      job i l p (inl e) = absurd (omega (arith, pending_le t (cells T v.slots i), ap (left_of (task_of R i)) e))
      job i l p (inr (j, e)) = go (cases_lt t j.due)
        where
          go : (t < j.due) ⊎ (j.due ≤ t) → Missed T past
          go (inl x) = absurd (omega (arith, p, pending_not t (cells T v.slots i) (omega (arith, ap until_of e))))
          go (inr x) = late R past v a.sane a.told i j e (omega (arith, a.clock))

      found : 0 < backlog T (cells T v.slots) t
          → ((j : ℕ) → j < count R → pending t (cells T v.slots j) ≡ 0) ⊎ ((j : ℕ) × (j < count R) × (0 < pending t (cells T v.slots j))) → Missed T past
      found p (inl z) = absurd (omega (arith, p, backlog_zero T (cells T v.slots) t z))
      found p (inr (i, l, o)) = job i l o (cases_job (job_at v.slots i))

      by : Missed T past ⊎ Owed v → Missed T past
      by (inl m) = m
      by (inr o) = found (owes o o.rest) (find T (cells T v.slots) t (count R))

  rounds : (n : ℕ) (next : ℕ → ℕ) (now : ℕ) (past : List Entry) (v : View) → now + n ≡ t → shortest + need R.tasks t ≡ t → 0 < need R.tasks t
      → At next now 0 past v → Always R (λ log _. Missed R.tasks log) past v (plan R.tasks next now n)
  unfolding plan
  rounds zero next now past v e f big a =
      let q : now ≡ t = omega arith in
      ends next past v (omega arith) big (subst (λ x. At next x 0 past v) q a) (omega arith)
  rounds (suc n) next now past v e f big a =
      always_then R (At next now (count R)) (λ log _. Missed R.tasks log) (releases next now (count R)) (Tick ∷ plan R.tasks (moved R.tasks next now) (now + 1) n) past v
      (rows_to next now (count R) past v (omega arith) a)
      (λ past' v' a'. (
        goes R (omega arith) v' a'.sane Tick,
        λ x w s q.
            let y = tick_step next now past' v' w x (omega arith) a' s q in
            (y.0, rounds n (moved R.tasks next now) (now + 1) (past' ++ (x ∷ [])) w (omega arith) f big y.1),
      ))

  begins : At (λ _. 0) 0 0 [] (fresh (count R))
  begins =
      record {
        sane = sane_fresh R;
        told = told_fresh R;
        clock = refl;
        behind = λ i l. absurd (omega arith);
        ahead = λ i l c. none i;
        state = inr (record {
          counts = refl;
          owed = omega (arith, future_first R.tasks (cells R.tasks (replicate (count R) empty)) t (λ i l. none i));
          rest = inr (refl, refl, λ i l. none i);
        });
      }
    where
      none : (i : ℕ) → next_of (task_of R i) (slot_at (replicate (count R) empty) i).last ≡ 0
      none i = ap (λ (x : Slot). next_of (task_of R i) x.last) (slot_fresh (count R) i)

  fails : shortest + need R.tasks t ≡ t → 0 < need R.tasks t → Fails R (plan R.tasks (λ _. 0) 0 t)
  fails f big =
      let Q = λ (log : List Entry) (w : View). Missed R.tasks log in
      let h = rounds t (λ _. 0) 0 [] (fresh (count R)) (omega arith) f big begins in
      record {
        exists =
            let r = always_exists R Q (plan R.tasks (λ _. 0) 0 t) [] (fresh (count R)) h in
            (r.0, (r.1, r.2), r.3);
        always = λ log k e. always_all R Q (plan R.tasks (λ _. 0) 0 t) [] (fresh (count R)) h log k.0 k.1 e;
      }

need_some : (tasks : List Task) (i t : ℕ) → i < length tasks → Whole (task_at tasks i) → (task_at tasks i).due ≤ t → 0 < need tasks t
unfolding need
need_some tasks i t l w d =
    let r : Task = task_at tasks i in
    let k : 1 ≤ 1 + (t - r.due) / r.gap = omega arith in
    omega (arith, w.0, sum_to_at (length tasks) (λ j. demand (task_at tasks j) t) i l, demand_some r t d, mul-le-mul_left r.run k)

pub longer_promise : (tasks : List Task) (sleeps : List ℕ) → Planned tasks sleeps → NoLonger tasks sleeps
longer_promise tasks sleeps p shortest s other size long =
    let i : ℕ = s.met.0 in
    let l : i < length tasks = omega (arith, s.met.1, p.size) in
    let a = p.met i l in
    let t : ℕ = a.0 in (
      plan tasks (λ _. 0) 0 t,
      plain_plan tasks (λ _. 0) 0 t,
      λ reach far. fails (exact tasks other reach) p.whole (omega arith) refl shortest far long t a.2
          (omega (arith, a.3, s.met.2)) (need_some tasks i t l (p.whole i l) a.1),
    )
