-- From every view that the rules reach, each call has a step. The only choices are the alarm's, which may take the most
-- that it can, and the job that is due first, which is found by looking along the slots.
use Rattle.std.proofs.Common.{◌≡◌, ℕ, zero, suc, ◌+◌, ◌<◌, ◌≤◌, min, ◌⊎◌, List, length, set, Some, None, Option, sym, refl, ap, ◌∙◌, subst, inl, inr, arith}
use Rattle.std.proofs.lemmas.Bool.{cases_eq, cases_lt}
use Rattle.alarm.specs.Meaning.{waiting, onward, rings}
use Rattle.refusal.specs.declared.cases.Refusal.TheVariants.{NoSuchRow, TooSoon, ClockEnd, NoOpenJob, NotBegun}
use Rattle.rules.specs.declared.slots.Mode.{Mode}
use Rattle.rules.specs.declared.slots.Mode.TheVariants.{Asleep, Awake}
use Rattle.rules.specs.declared.slots.Job.{Job}
use Rattle.rules.specs.declared.slots.Slot.{Slot}
use Rattle.rules.specs.declared.calls.Call.{Call}
use Rattle.rules.specs.declared.calls.Call.TheVariants.{Release, Tick, Done, Report}
use Rattle.rules.specs.Views.{slot_at, job_at, opened, closed, fed, View, Rules, count, task_of, sleep_of}
use Rattle.rules.specs.Plans.{limit}
use Rattle.rules.specs.Steps.{Entry.released, Entry.done, Entry.ticked, Entry.reported, Entry.refused, mode_for, mode_after, Idle, Apart, Soon, Sets, Settles, Chosen, Feeds, Works, status_for}
use Rattle.rules.specs.Promises.{Goes}
use Rattle.rules.proofs.Cells.{within, none_some, some_same, cases_job}
use Rattle.rules.proofs.Sane.{Sane, Mood}

pub upto : (P : ℕ → Type 0) (k : ℕ) → ((j : ℕ) → j < k → P j) → P k → (j : ℕ) → j < suc k → P j
upto P k h p j l = go (cases_eq k j)
  where
    go : (k ≡ j) ⊎ (k ≡ j → ⊥) → P j
    go (inl e) = subst P e p
    go (inr ne) = h j (omega arith)

abbrev Before : Job → ℕ → List Slot → ℕ → Type 0
Before j row slots other = (k : Job) → job_at slots other ≡ Some k → (j.due < k.due) ⊎ ((j.due ≡ k.due) × (row ≤ other))

record First (slots : List Slot) (n : ℕ) : Type 0 where
  row : ℕ
  inside : row < n
  j : Job
  job : job_at slots row ≡ Some j
  first : (other : ℕ) → other < n → Before j row slots other

abbrev Scanned : List Slot → ℕ → Type 0
Scanned slots n = ((i : ℕ) → i < n → job_at slots i ≡ None) ⊎ First slots n

scan : (slots : List Slot) (n : ℕ) → Scanned slots n
scan slots zero = inl (λ i l. absurd (omega arith))
scan slots (suc n) = go (scan slots n) (cases_job (job_at slots n))
  where
    stay : (f : First slots n) → Before f.j f.row slots n → Scanned slots (suc n)
    stay f h =
        inr (record {
          row = f.row;
          inside = omega (arith, f.inside);
          j = f.j;
          job = f.job;
          first = upto (Before f.j f.row slots) n f.first h;
        })

    take : (j : Job) → job_at slots n ≡ Some j → ((other : ℕ) → other < n → Before j n slots other) → Scanned slots (suc n)
    take j e h =
        inr (record {
          row = n;
          inside = omega arith;
          j = j;
          job = e;
          first = upto (Before j n slots) n h (λ k q. inr (ap (λ (x : Job). x.due) (some_same (sym e ∙ q)), omega arith));
        })

    earlier : (f : First slots n) (j : Job) → j.due < f.j.due → (other : ℕ) → other < n → Before j n slots other
    earlier f j l other m k e = inl (by (f.first other m k e))
      where
        by : (f.j.due < k.due) ⊎ ((f.j.due ≡ k.due) × (f.row ≤ other)) → j.due < k.due
        by (inl x) = omega (arith, x)
        by (inr x) = omega (arith, x.0)

    later : (f : First slots n) (j : Job) → job_at slots n ≡ Some j → f.j.due ≤ j.due → Before f.j f.row slots n
    later f j e l k q = by (cases_eq f.j.due k.due)
      where
        same : j.due ≡ k.due
        same = ap (λ (x : Job). x.due) (some_same (sym e ∙ q))

        by : (f.j.due ≡ k.due) ⊎ (f.j.due ≡ k.due → ⊥) → (f.j.due < k.due) ⊎ ((f.j.due ≡ k.due) × (f.row ≤ n))
        by (inl x) = inr (x, omega (arith, f.inside))
        by (inr x) = inl (omega (arith, same))

    two : (f : First slots n) (j : Job) → job_at slots n ≡ Some j → (j.due < f.j.due) ⊎ (f.j.due ≤ j.due) → Scanned slots (suc n)
    two f j e (inl l) = take j e (earlier f j l)
    two f j e (inr l) = stay f (later f j e l)

    go : Scanned slots n → (job_at slots n ≡ None) ⊎ ((j : Job) × (job_at slots n ≡ Some j)) → Scanned slots (suc n)
    go (inl z) (inl e) = inl (upto (λ i. job_at slots i ≡ None) n z e)
    go (inl z) (inr (j, e)) = take j e (λ other l k q. absurd (none_some (sym (z other l) ∙ q)))
    go (inr f) (inl e) = stay f (λ k q. absurd (none_some (sym e ∙ q)))
    go (inr f) (inr (j, e)) = two f j e (cases_lt j.due f.j.due)

pub choose : (slots : List Slot) → Idle slots ⊎ ((row : ℕ) × (j : Job) × Chosen slots row j)
choose slots = go (scan slots (length slots))
  where
    go : Scanned slots (length slots) → Idle slots ⊎ ((row : ℕ) × (j : Job) × Chosen slots row j)
    go (inl z) = inl (λ row. by row (cases_job (job_at slots row)))
      where
        by : (row : ℕ) → (job_at slots row ≡ None) ⊎ ((j : Job) × (job_at slots row ≡ Some j)) → job_at slots row ≡ None
        by row (inl e) = e
        by row (inr (j, e)) = z row (within slots row j e)
    go (inr f) = inr (f.row, f.j, record { job = f.job; first = λ other k e. f.first other (within slots other k e) k e })

-- the view in which the slots are settled
settle : (now ran slept : ℕ) (m : Mode) (a : Option ℕ) (slots : List Slot)
    → (w : View) × (w.now ≡ now) × (w.ran ≡ ran) × (w.slept ≡ slept) × (w.slots ≡ slots) × Settles m a w
settle now ran slept m a slots = go (choose slots)
  where
    go : Idle slots ⊎ ((row : ℕ) × (j : Job) × Chosen slots row j)
        → (w : View) × (w.now ≡ now) × (w.ran ≡ ran) × (w.slept ≡ slept) × (w.slots ≡ slots) × Settles m a w
    go (inl i) =
        (record { now = now; ran = ran; slept = slept; mode = Asleep; slots = slots; alarm = None }, refl, refl, refl, refl, inl (i, refl, refl))
    go (inr (row, j, c)) =
        (record { now = now; ran = ran; slept = slept; mode = m; slots = slots; alarm = a }, refl, refl, refl, refl, inr ((row, j, c.job), refl, refl))

module _ (R : Rules) (fine : 1 ≤ R.grain) (v : View) (h : Sane R v) where
  goes_tick : (m : Mode) (a : Option ℕ) → m ≡ v.mode → a ≡ v.alarm → Mood m a v.slots → v.now < limit → Goes R v Tick
  goes_tick Awake None p q mood l = go (choose v.slots)
    where
      go : Idle v.slots ⊎ ((row : ℕ) × (j : Job) × Chosen v.slots row j) → Goes R v Tick
      go (inl i) = absurd (none_some (sym (i mood.0) ∙ mood.2))
      go (inr (row, j, c)) =
          let s = settle (v.now + 1) (v.ran + 1) v.slept Awake None (set v.slots row (fed (task_of R row).run (slot_at v.slots row) j)) in
          let f : Feeds R None v row j s.0 = record { chosen = c; slots = s.4; ran = s.2; slept = s.3; settles = s.5 } in
          let k : Works Awake None R (Some row) v s.0 = (j, f) in (
            ticked (Some row) (rings v.alarm),
            s.0,
            record { early = l; now = s.1; rung = refl; works = subst (λ x. Works x v.alarm R (Some row) v s.0) p (subst (λ x. Works Awake x R (Some row) v s.0) q k) },
            refl,
          )
  goes_tick Awake (Some n) p q mood l = absurd mood
  goes_tick Asleep a p q mood l =
      let w : View = record { now = v.now + 1; ran = v.ran; slept = v.slept + 1; mode = mode_after (rings a); slots = v.slots; alarm = onward a } in
      let k : Works Asleep a R None v w = record { nobody = refl; slots = refl; ran = refl; slept = refl; alarm = refl; mode = refl } in (
        ticked None (rings v.alarm),
        w,
        record { early = l; now = refl; rung = refl; works = subst (λ x. Works x v.alarm R None v w) p (subst (λ x. Works Asleep x R None v w) q k) },
        refl,
      )

  goes_sets : (m : Mode) (a : Option ℕ) (s : ℕ) (now ran slept : ℕ) (slots : List Slot)
      → (wait : Option ℕ) × (w : View) × (w.now ≡ now) × (w.ran ≡ ran) × (w.slept ≡ slept) × (w.slots ≡ slots) × Sets m a R s wait w
  goes_sets Awake a s now ran slept slots = (
    None,
    record { now = now; ran = ran; slept = slept; mode = Awake; slots = slots; alarm = a },
    refl,
    refl,
    refl,
    refl,
    record { unasked = refl; alarm = refl; mode = refl },
  )
  goes_sets Asleep None s now ran slept slots = (
    Some (min s R.reach),
    record { now = now; ran = ran; slept = slept; mode = mode_for (min s R.reach); slots = slots; alarm = waiting (min s R.reach) },
    refl,
    refl,
    refl,
    refl,
    record { most = omega arith; near = omega arith; alarm = refl; mode = refl },
  )
  goes_sets Asleep (Some l) s now ran slept slots = go (cases_lt s l)
    where
      go : (s < l) ⊎ (l ≤ s)
          → (wait : Option ℕ) × (w : View) × (w.now ≡ now) × (w.ran ≡ ran) × (w.slept ≡ slept) × (w.slots ≡ slots) × Sets Asleep (Some l) R s wait w
      go (inl x) = (
        Some (min s R.reach),
        record { now = now; ran = ran; slept = slept; mode = mode_for (min s R.reach); slots = slots; alarm = waiting (min s R.reach) },
        refl,
        refl,
        refl,
        refl,
        inr (x, record { most = omega arith; near = omega arith; alarm = refl; mode = refl }),
      )
      go (inr x) = (
        None,
        record { now = now; ran = ran; slept = slept; mode = Asleep; slots = slots; alarm = Some l },
        refl,
        refl,
        refl,
        refl,
        inl (x, record { unasked = refl; alarm = refl; mode = refl }),
      )

  goes_released : (row : ℕ) → row < count R → Apart (slot_at v.slots row).last (task_of R row).gap v.now → Goes R v (Release row)
  goes_released row l a =
      let s = goes_sets v.mode v.alarm (sleep_of R row) v.now v.ran v.slept (set v.slots row (opened v.now (v.now + (task_of R row).due))) in (
        released row s.0,
        s.1,
        record { listed = l; apart = a; now = s.2; ran = s.3; slept = s.4; slots = s.5; sets = s.6 },
        refl,
      )

  goes_apart : (row : ℕ) → row < count R → (a : Option ℕ) → a ≡ (slot_at v.slots row).last → Goes R v (Release row)
  goes_apart row l None e = goes_released row l (subst (λ x. Apart x (task_of R row).gap v.now) e tt)
  goes_apart row l (Some t) e = go (cases_lt v.now (t + (task_of R row).gap))
    where
      go : (v.now < t + (task_of R row).gap) ⊎ (t + (task_of R row).gap ≤ v.now) → Goes R v (Release row)
      go (inl x) = (refused (Release row) TooSoon, v, (inr (refl, l, subst (λ y. Soon y (task_of R row).gap v.now) e x), refl), refl)
      go (inr x) = goes_released row l (subst (λ y. Apart y (task_of R row).gap v.now) e x)

  goes_done : (row : ℕ) → row < count R → (job_at v.slots row ≡ None) ⊎ ((j : Job) × (job_at v.slots row ≡ Some j)) → Goes R v (Done row)
  goes_done row l (inl e) = (refused (Done row) NoOpenJob, v, (inr (inl (refl, l, e)), refl), refl)
  goes_done row l (inr (j, e)) = go (cases_lt 0 j.given)
    where
      go : (0 < j.given) ⊎ (j.given ≤ 0) → Goes R v (Done row)
      go (inl x) =
          let s = settle v.now v.ran v.slept v.mode v.alarm (set v.slots row (closed (slot_at v.slots row))) in
          (done row, s.0, record { listed = l; begun = (j, e, x); now = s.1; ran = s.2; slept = s.3; slots = s.4; settles = s.5 }, refl)
      go (inr x) = (refused (Done row) NotBegun, v, (inr (inr (refl, l, (j, e, omega arith))), refl), refl)

  pub goes : (call : Call) → Goes R v call
  goes (Release row) = go (cases_lt row (count R))
    where
      go : (row < count R) ⊎ (count R ≤ row) → Goes R v (Release row)
      go (inl l) = goes_apart row l (slot_at v.slots row).last refl
      go (inr l) = (refused (Release row) NoSuchRow, v, (inl (refl, l), refl), refl)
  goes Tick = go (cases_lt v.now limit)
    where
      go : (v.now < limit) ⊎ (limit ≤ v.now) → Goes R v Tick
      go (inl l) = goes_tick v.mode v.alarm refl refl h.mood l
      go (inr l) = (refused Tick ClockEnd, v, ((refl, l), refl), refl)
  goes (Done row) = go (cases_lt row (count R))
    where
      go : (row < count R) ⊎ (count R ≤ row) → Goes R v (Done row)
      go (inl l) = goes_done row l (cases_job (job_at v.slots row))
      go (inr l) = (refused (Done row) NoSuchRow, v, (inl (refl, l), refl), refl)
  goes (Report row) = go (cases_lt row (count R))
    where
      go : (row < count R) ⊎ (count R ≤ row) → Goes R v (Report row)
      go (inl l) = (reported row (status_for v (job_at v.slots row)), v, record { listed = l; tells = refl; same = refl }, refl)
      go (inr l) = (refused (Report row) NoSuchRow, v, ((refl, l), refl), refl)
