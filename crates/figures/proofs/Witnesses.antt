-- The witnesses. A tick has a step in every view that is reached (proofs/Progress.antt of the rules) and is refused only at
-- the clock's end, so any number of them may follow a release. The cutter's sleep is the computed run of its calls
-- (proofs/Sleeping.antt), and the lamp's two steps are written out.
use Rattle.std.proofs.Common.{◌≡◌, ℕ, zero, suc, ◌+◌, ◌<◌, ◌≤◌, true, false, ◌⊎◌, List, [], ◌∷◌, length, Some, None, Option, refl, ap, subst, inl, inr, arith}
use Rattle.table.specs.Tasks.{task_at, AllWhole}
use Rattle.planner.specs.Demand.{need, demand, sum_to}
use Rattle.planner.specs.Plans.{Shortest}
use Rattle.planner.specs.Sleeps.{sleep_at}
use Rattle.refusal.specs.declared.cases.Refusal.TheVariants.{NoSuchRow, TooSoon, ClockEnd}
use Rattle.rules.specs.declared.slots.Mode.TheVariants.{Asleep, Awake}
use Rattle.rules.specs.declared.slots.Job.{Job}
use Rattle.rules.specs.declared.slots.Slot.{Slot}
use Rattle.rules.specs.declared.calls.Call.{Call}
use Rattle.rules.specs.declared.calls.Call.TheVariants.{Release, Done, Tick, Report}
use Rattle.rules.specs.Views.{slot_at, job_at, opened, closed, View, Rules, count, task_of, fresh}
use Rattle.rules.specs.Plans.{limit, Planned}
use Rattle.rules.specs.Steps.{Entry, Entry.released, Entry.done, Entry.ticked, Entry.reported, Entry.refused, Soon, Refuses, Step, Runs}
use Rattle.rules.specs.Logs.{is_tick, ticks, call_of, Ends}
use Rattle.rules.specs.Promises.{Logged, Goes}
use Rattle.rules.specs.Exact.{Reached}
use Rattle.rules.proofs.Cells.{none_some, some_same, slot_fresh}
use Rattle.rules.proofs.Progress.{goes}
use Rattle.rules.proofs.Sane.{Sane, sane_step, sane_fresh}
use Rattle.figures.specs.Figures.{cutter, sleeps_of_cutter}
use Rattle.figures.specs.Premises.{GoesBy, cutter_rules, waking_log, lamp_rules, Premises}
use Rattle.figures.specs.Sleeping.{fit_all, log_of, end_of}
use Rattle.figures.specs.Tables.{all_whole}
use Rattle.figures.proofs.Cases.{cutter_quoted, cutter_whole}
use Rattle.figures.proofs.Alike.{row_in, apart_kinds}
use Rattle.figures.proofs.Rows.{whole_rows}
use Rattle.figures.proofs.Sleeping.{run_so}

module _ (R : Rules) (whole : AllWhole R.tasks) (fine : 1 ≤ R.grain) where
  -- a tick before the clock's end is accepted
  accepted_tick : (v : View) → v.now < limit → (e : Entry) (w : View) → Step R v e w → call_of e ≡ Tick → is_tick e ≡ 1
  accepted_tick v l (released r wait) w s q = absurd (apart_kinds (Release r) Tick q (λ z. omega arith))
  accepted_tick v l (done r) w s q = absurd (apart_kinds (Done r) Tick q (λ z. omega arith))
  accepted_tick v l (ticked who rang) w s q = refl
  accepted_tick v l (reported r status) w s q = absurd (apart_kinds (Report r) Tick q (λ z. omega arith))
  accepted_tick v l (refused call why) w s q = let x = subst (λ c. Refuses R v c why) q s.0 in absurd (omega (arith, x.1))

  moved_by_one : (v : View) (e : Entry) (w : View) → Step R v e w → is_tick e ≡ 1 → w.now ≡ v.now + 1
  moved_by_one v (released r wait) w s q = absurd (omega (arith, q))
  moved_by_one v (done r) w s q = absurd (omega (arith, q))
  moved_by_one v (ticked who rang) w s q = s.now
  moved_by_one v (reported r status) w s q = absurd (omega (arith, q))
  moved_by_one v (refused call why) w s q = absurd (omega (arith, q))

  ticks_on : (n : ℕ) (v : View) → Sane R v → v.now + n ≤ limit → (log : List Entry) × (w : View) × Runs R v log w × (ticks log ≡ n) × (w.now ≡ v.now + n)
  ticks_on zero v h l = ([], v, refl, refl, omega arith)
  ticks_on (suc n) v h l =
      let g : Goes R v Tick = goes R fine v h Tick in
      let one : is_tick g.0 ≡ 1 = accepted_tick v (omega arith) g.0 g.1 g.2 g.3 in
      let on : g.1.now ≡ v.now + 1 = moved_by_one v g.0 g.1 g.2 one in
      let r = ticks_on n g.1 (sane_step R whole v g.0 g.1 h g.2) (omega (arith, on)) in
      (g.0 ∷ r.0, r.1, (g.1, g.2, r.2), omega (arith, one, r.3), omega (arith, on, r.4))

  First : ℕ → Type 0
  First row = (wait : Option ℕ) × (w : View) × Step R (fresh (count R)) (released row wait) w

  -- the first release of a row is accepted
  first_release : (row : ℕ) → row < count R → (e : Entry) (w : View) → Step R (fresh (count R)) e w → call_of e ≡ Release row → First row
  unfolding First
  first_release row l (released r wait) w s q = (wait, w, subst (λ x. Step R (fresh (count R)) (released x wait) w) (ap row_in q) s)
  first_release row l (done r) w s q = absurd (apart_kinds (Done r) (Release row) q (λ z. omega arith))
  first_release row l (ticked who rang) w s q = absurd (apart_kinds Tick (Release row) q (λ z. omega arith))
  first_release row l (reported r status) w s q = absurd (apart_kinds (Report r) (Release row) q (λ z. omega arith))
  first_release row l (refused call why) w s q = absurd (go (subst (λ c. Refuses R (fresh (count R)) c why) q s.0))
    where
      go : ((why ≡ NoSuchRow) × (count R ≤ row))
          ⊎ ((why ≡ TooSoon) × (row < count R) × Soon (slot_at (fresh (count R)).slots row).last (task_of R row).gap (fresh (count R)).now) → ⊥
      go (inl x) = omega (arith, x.1)
      go (inr x) = subst (λ (y : Slot). Soon y.last (task_of R row).gap 0) (slot_fresh (count R) row) x.2

goes_by : GoesBy
unfolding First
goes_by R whole fine row n l small =
    let g : Goes R (fresh (count R)) (Release row) = goes R fine (fresh (count R)) (sane_fresh R) (Release row) in
    let f : First R whole fine row = first_release R whole fine row l g.0 g.1 g.2 g.3 in
    let h : Sane R f.1 = sane_step R whole (fresh (count R)) (released row f.0) f.1 (sane_fresh R) f.2 in
    let r = ticks_on R whole fine n f.1 h (omega (arith, f.2.now)) in
    (f.0, r.0, (r.1, (f.1, f.2, r.2)), r.3)

cutter_planned : Planned cutter sleeps_of_cutter
unfolding need demand sum_to
cutter_planned = record { size = refl; whole = cutter_whole; rested = λ row t l d. (cutter_quoted.sleeps_are.each row l).always t d; met = met }
  where
    met : (row : ℕ) → row < length cutter → (t : ℕ) × ((task_at cutter row).due ≤ t) × (t ≤ limit) × (sleep_at sleeps_of_cutter row + need cutter t ≡ t)
    met zero l = (32, omega arith, omega arith, refl)
    met (suc zero) l = (32, omega arith, omega arith, refl)
    met (suc (suc zero)) l = (112, omega arith, omega arith, refl)
    met (suc (suc (suc row))) l = absurd (omega arith)

cutter_shortest : Shortest sleeps_of_cutter 4
cutter_shortest = record { below = below; met = (0, omega arith, refl) }
  where
    below : (row : ℕ) → row < length sleeps_of_cutter → 4 ≤ sleep_at sleeps_of_cutter row
    below zero l = omega arith
    below (suc zero) l = omega arith
    below (suc (suc zero)) l = omega arith
    below (suc (suc (suc row))) l = absurd (omega arith)

cutter_sleeps : Logged cutter_rules waking_log
unfolding fit_all log_of end_of
cutter_sleeps =
    let calls : List Call = Release 2 ∷ Tick ∷ Release 0 ∷ Tick ∷ Tick ∷ Tick ∷ Tick ∷ [] in
    (end_of cutter_rules (fresh 3) calls, (run_so cutter_rules refl calls (fresh 3) refl).0)

sleep_ends : Ends waking_log
sleep_ends = record {
  sleeping = released 2 (Some 6) ∷ ticked None false ∷ released 0 (Some 4) ∷ ticked None false ∷ ticked None false ∷ ticked None false ∷ [];
  entry = ticked None true;
  cut = refl;
  still = refl;
  wakes = refl;
}

longer_row : (row : ℕ) → row < length cutter → 4 < sleep_at (5 ∷ 5 ∷ 7 ∷ []) row
longer_row zero l = omega arith
longer_row (suc zero) l = omega arith
longer_row (suc (suc zero)) l = omega arith
longer_row (suc (suc (suc row))) l = absurd (omega arith)

abbrev lamp_awake : View
lamp_awake = record { now = 0; ran = 0; slept = 0; mode = Awake; slots = opened 0 1 ∷ []; alarm = None }

abbrev lamp_asleep : View
lamp_asleep = record { now = 1; ran = 1; slept = 0; mode = Asleep; slots = closed (opened 0 1) ∷ []; alarm = None }

lamp_whole : AllWhole lamp_rules.tasks
unfolding all_whole
lamp_whole = whole_rows lamp_rules.tasks refl

lamp_wakes : Step lamp_rules (fresh 1) (released 0 (Some 0)) lamp_awake
lamp_wakes = record {
  listed = omega arith;
  apart = tt;
  now = refl;
  ran = refl;
  slept = refl;
  slots = refl;
  sets = record { most = omega arith; near = omega arith; alarm = refl; mode = refl };
}

lamp_empties : Step lamp_rules lamp_awake (ticked (Some 0) false) lamp_asleep
lamp_empties = record {
  early = omega arith;
  now = refl;
  rung = refl;
  works = (
    record { due = 1; given = 0 },
    record { chosen = record { job = refl; first = first }; slots = refl; ran = refl; slept = refl; settles = inl (idle, refl, refl) },
  );
}
  where
    first : (other : ℕ) (k : Job) → job_at lamp_awake.slots other ≡ Some k → (1 < k.due) ⊎ ((1 ≡ k.due) × (0 ≤ other))
    first zero k e = inr (ap (λ (x : Job). x.due) (some_same e), omega arith)
    first (suc other) k e = absurd (none_some e)

    idle : (row : ℕ) → job_at lamp_asleep.slots row ≡ None
    idle zero = refl
    idle (suc row) = refl

-- after as many ticks as the clock has the next is refused
lamp_clock : (log : List Entry) × (v : View) × Reached lamp_rules log v × Step lamp_rules v (refused Tick ClockEnd) v
lamp_clock =
    let r = ticks_on lamp_rules lamp_whole (omega arith) limit (fresh 1) (sane_fresh lamp_rules) (omega arith) in
    (r.0, r.1, record { whole = lamp_whole; run = r.2 }, ((refl, omega (arith, r.4)), refl))

pub premises : Premises
premises =
    record {
      plan = (cutter_planned, cutter_shortest);
      due = goes_by;
      sleep = (cutter_sleeps, sleep_ends);
      longer = (5 ∷ 5 ∷ 7 ∷ [], refl, longer_row);
      far = omega arith;
      wakes = record {
        log = [];
        before = fresh 1;
        reached = record { whole = lamp_whole; run = refl };
        entry = released 0 (Some 0);
        after = lamp_awake;
        step = lamp_wakes;
        so = (refl, refl);
      };
      empties = record {
        log = released 0 (Some 0) ∷ [];
        before = lamp_awake;
        reached = record { whole = lamp_whole; run = (lamp_awake, lamp_wakes, refl) };
        entry = ticked (Some 0) false;
        after = lamp_asleep;
        step = lamp_empties;
        so = (refl, (0, record { due = 1; given = 0 }, refl), idle);
      };
      clock = lamp_clock;
    }
  where
    idle : (row : ℕ) → job_at lamp_asleep.slots row ≡ None
    idle zero = refl
    idle (suc row) = refl
