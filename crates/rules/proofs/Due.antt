-- The first promise: no due tick is missed. The room of proofs/Room.antt is kept by every step: a release asleep fits by
-- the row's sleep, and an awake tick serves the job that is due first. So an open job is never past its due tick, a
-- release finds its slot free, and within its due ticks a job has had its run or was done: by counting along the log.
use Rattle.std.proofs.Common.{◌≡◌, ℕ, zero, suc, ◌+◌, ◌-◌, ◌<◌, ◌≤◌, eqb, ◌⊎◌, List, [], ◌∷◌, length, set, replicate, Some, None, Option, sym, refl, ap, ◌∙◌, subst, inl, inr, arith}
use Rattle.std.proofs.lemmas.Bool.{cases_eq}
use Rattle.table.specs.declared.task.Task.{Task}
use Rattle.table.specs.Tasks.{task_at, Whole, AllWhole}
use Rattle.planner.specs.Demand.{need}
use Rattle.alarm.specs.Meaning.{waiting, onward}
use Rattle.rules.specs.declared.slots.Mode.{Mode}
use Rattle.rules.specs.declared.slots.Mode.TheVariants.{Asleep, Awake}
use Rattle.rules.specs.declared.slots.Job.{Job}
use Rattle.rules.specs.declared.slots.Slot.{Slot}
use Rattle.rules.specs.Views.{empty, slot_at, job_at, opened, closed, fed, View, Rules, count, task_of, sleep_of, fresh}
use Rattle.rules.specs.Plans.{Planned}
use Rattle.rules.specs.Steps.{Entry, Entry.released, Entry.done, Entry.ticked, Entry.reported, Entry.refused, Apart, Idle, Asks, Sets, Releases, Settles, Feeds, Works, Closes, Step, Runs}
use Rattle.rules.specs.Logs.{one, tally, is_run, is_done, ticks, up_to}
use Rattle.rules.specs.Promises.{Logged, DueKept}
use Rattle.rules.proofs.Waits.{waiting_some}
use Rattle.rules.proofs.Claims.{Cell, backlog, backlog_none}
use Rattle.rules.proofs.Room.{Room, kept, release_room, serve_room, close_room, wait_room, rest_room}
use Rattle.rules.proofs.Cells.{cells, cell_of, next_of, until_of, left_of, within, some_same, none_some, cases_job, slot_set, slot_other, alike_set, cell_set, cell_opened, fed_cases, fed_last}
use Rattle.rules.proofs.Sane.{Sane, not_both, Made, Mood, done_mood, sane_step, sane_fresh}
use Rattle.rules.proofs.Runs.{runs_split}
use Rattle.rules.proofs.Told.{one_same, one_other}

abbrev held : Option ℕ → ℕ
held None = 0
held (Some l) = l

record Inv (R : Rules) (v : View) : Type 0 where
  sane : Sane R v
  room : Room R.tasks v.now (cells R.tasks v.slots) (held v.alarm)

-- the sleeps fit
abbrev Rested : Rules → Type 0
Rested R = (i t : ℕ) → i < count R → (task_of R i).due ≤ t → sleep_of R i + need R.tasks t ≤ t

held_for : (m : ℕ) → held (waiting m) ≡ m
held_for zero = refl
held_for (suc m) = ap held (waiting_some m)

held_pass : (l : ℕ) → held (onward (Some (suc l))) ≡ l
held_pass l = let e : suc l - 1 ≡ l = omega arith in ap (λ n. held (waiting n)) e ∙ held_for l

idle_backlog : (tasks : List Task) (slots : List Slot) → Idle slots → (d : ℕ) → backlog tasks (cells tasks slots) d ≡ 0
idle_backlog tasks slots h d = backlog_none tasks (cells tasks slots) d (λ i l. ap (left_of (task_at tasks i)) (h i))

asks_held : (R : Rules) (s : ℕ) (wait : Option ℕ) (w : View) → Asks R s wait w → held w.alarm ≤ s
asks_held R s None w k = absurd k
asks_held R s (Some m) w k = omega (arith, ap held k.alarm, held_for m, k.most)

sets_held : (m : Mode) (a : Option ℕ) (R : Rules) (s : ℕ) (wait : Option ℕ) (w : View) (slots : List Slot) → Sets m a R s wait w → Mood m a slots
    → (held w.alarm ≤ s) × (Idle slots ⊎ (held w.alarm ≤ held a))
sets_held Awake None R s wait w slots k h = (omega (arith, ap held k.alarm), inr (omega (arith, ap held k.alarm)))
sets_held Awake (Some l) R s wait w slots k h = absurd h
sets_held Asleep None R s wait w slots k h = (asks_held R s wait w k, inl h)
sets_held Asleep (Some l) R s wait w slots (inl k) h = (omega (arith, k.0, ap held k.1.alarm), inr (omega (arith, ap held k.1.alarm)))
sets_held Asleep (Some l) R s wait w slots (inr k) h =
    (asks_held R s wait w k.1, inr (omega (arith, k.0, asks_held R s wait w k.1)))

settles_held : (m : Mode) (w : View) → Settles m None w → held w.alarm ≡ 0
settles_held m w (inl k) = ap held k.2
settles_held m w (inr k) = ap held k.2

-- a released row's next release
apart_next : (r : Task) (a : Option ℕ) (now : ℕ) → Apart a r.gap now → next_of r a ≤ now
apart_next r None now h = omega arith
apart_next r (Some t) now h = h

made_order : (r : Task) (a : Option ℕ) (j : Job) → Whole r → Made r a j → (j.due ≤ next_of r a) × (0 < r.run - j.given)
made_order r None j w m = absurd m
made_order r (Some t) j w m = (omega (arith, m.0, w.2), omega (arith, m.1))

room_by : (tasks : List Task) (slots : List Slot) (now held : ℕ) (w : View) (h : ℕ) → w.slots ≡ slots → w.now ≡ now → h ≡ held
    → Room tasks now (cells tasks slots) held → Room tasks w.now (cells tasks w.slots) h
room_by tasks slots now held w h p q r k =
    subst (λ x. Room tasks w.now (cells tasks x) h) (sym p)
    (subst (λ x. Room tasks x (cells tasks slots) h) (sym q) (subst (Room tasks now (cells tasks slots)) (sym r) k))

module _ (R : Rules) (ok : AllWhole R.tasks) (rested : Rested R) where
  -- an open job is not yet due
  early : (v : View) → Inv R v → (row : ℕ) (j : Job) → job_at v.slots row ≡ Some j → (v.now < j.due) × (v.now < next_of (task_of R row) (slot_at v.slots row).last)
  early v h row j e =
      let l : row < count R = omega (arith, within v.slots row j e, h.sane.size) in
      let f = made_order (task_of R row) (slot_at v.slots row).last j (ok row l) (h.sane.made row j e) in
      let left : (cells R.tasks v.slots row).left ≡ (task_of R row).run - j.given = ap (left_of (task_of R row)) e in
      let until : (cells R.tasks v.slots row).until ≡ j.due = ap until_of e in
      let k : v.now < (cells R.tasks v.slots row).until =
      kept R.tasks v.now (cells R.tasks v.slots) (held v.alarm) h.room row l (omega (arith, f.1)) in
      (omega arith, omega (arith, f.0))

  -- a release finds its slot free
  free : (v : View) → Inv R v → (row : ℕ) → Apart (slot_at v.slots row).last (task_of R row).gap v.now → job_at v.slots row ≡ None
  free v h row a = go (cases_job (job_at v.slots row))
    where
      go : (job_at v.slots row ≡ None) ⊎ ((j : Job) × (job_at v.slots row ≡ Some j)) → job_at v.slots row ≡ None
      go (inl e) = e
      go (inr (j, e)) = absurd (omega (arith, (early v h row j e).1, apart_next (task_of R row) (slot_at v.slots row).last v.now a))

  released_room : (v w : View) (row : ℕ) (wait : Option ℕ) → Inv R v → Releases R v row wait w
      → Room R.tasks w.now (cells R.tasks w.slots) (held w.alarm)
  released_room v w row wait h k =
      let T : List Task = R.tasks in
      let new : Slot = opened v.now (v.now + (task_of R row).due) in
      let l : row < length v.slots = omega (arith, k.listed, h.sane.size) in
      let a = sets_held v.mode v.alarm R (sleep_of R row) wait w v.slots k.sets h.sane.mood in
      room_by T (set v.slots row new) v.now (held w.alarm) w (held w.alarm) k.slots k.now refl
      (release_room T ok (cells T v.slots) (cells T (set v.slots row new)) row k.listed (alike_set T v.slots row new)
      v.now (held v.alarm) (held w.alarm) (sleep_of R row) h.room
      (apart_next (task_of R row) (slot_at v.slots row).last v.now k.apart)
      (ap (left_of (task_of R row)) (free v h row k.apart))
      (cell_opened T v.slots row v.now l)
      a.0 (λ t. rested row t k.listed) (go a.1))
    where
      go : Idle v.slots ⊎ (held w.alarm ≤ held v.alarm) → ((d : ℕ) → backlog R.tasks (cells R.tasks v.slots) d ≡ 0) ⊎ (held w.alarm ≤ held v.alarm)
      go (inl i) = inl (idle_backlog R.tasks v.slots i)
      go (inr l) = inr l

  served_room : (v w : View) (row : ℕ) (j : Job) → Sane R v → Room R.tasks v.now (cells R.tasks v.slots) 0 → w.now ≡ v.now + 1 → Feeds R None v row j w
      → Room R.tasks w.now (cells R.tasks w.slots) (held w.alarm)
  served_room v w row j h room n k =
      room_by T (set v.slots row new) (v.now + 1) 0 w (held w.alarm) k.slots n (settles_held Awake w k.settles)
      (serve_room T ok (cells T v.slots) (cells T (set v.slots row new)) row l (alike_set T v.slots row new)
      v.now room (omega (arith, left, f.1)) first
      (ap (λ (c : Cell). c.next) at ∙ ap (next_of (task_of R row)) (fed_last (task_of R row).run (slot_at v.slots row) j))
      (fed_until (fed_cases (task_of R row).run (slot_at v.slots row) j)) (fed_left (fed_cases (task_of R row).run (slot_at v.slots row) j)))
    where
      T : List Task
      T = R.tasks

      s : Slot
      s = slot_at v.slots row

      new : Slot
      new = fed (task_of R row).run (slot_at v.slots row) j

      b : row < length v.slots
      b = within v.slots row j k.chosen.job

      l : row < count R
      l = omega (arith, b, h.size)

      at : cells T (set v.slots row new) row ≡ cell_of (task_of R row) new
      at = cell_set T v.slots row new b

      f : (j.due ≤ next_of (task_of R row) s.last) × (0 < (task_of R row).run - j.given)
      f = made_order (task_of R row) s.last j (ok row l) (h.made row j k.chosen.job)

      left : (cells T v.slots row).left ≡ (task_of R row).run - j.given
      left = ap (left_of (task_of R row)) k.chosen.job

      until : (cells T v.slots row).until ≡ j.due
      until = ap until_of k.chosen.job

      first : (i : ℕ) → i < count R → 0 < (cells T v.slots i).left → (cells T v.slots row).until ≤ (cells T v.slots i).until
      first i m o = by (cases_job (job_at v.slots i))
        where
          by : (job_at v.slots i ≡ None) ⊎ ((x : Job) × (job_at v.slots i ≡ Some x)) → (cells T v.slots row).until ≤ (cells T v.slots i).until
          by (inl e) = absurd (omega (arith, o, ap (left_of (task_of R i)) e))
          by (inr (x, e)) = omega (arith, until, ap until_of e, k.chosen.first i x e)

      more : Slot
      more = record { last = s.last; job = Some (record { due = j.due; given = j.given + 1 }) }

      fed_until : (((task_of R row).run ≤ j.given + 1) × (fed (task_of R row).run s j ≡ closed s)) ⊎ ((j.given + 1 < (task_of R row).run) × (fed (task_of R row).run s j ≡ more))
          → 0 < (cells T (set v.slots row new) row).left → (cells T (set v.slots row new) row).until ≡ (cells T v.slots row).until
      fed_until (inl (x, e)) o =
          let q = at ∙ ap (cell_of (task_of R row)) e in
          absurd (omega (arith, o, ap (λ (c : Cell). c.left) q))
      fed_until (inr (x, e)) o =
          let q = at ∙ ap (cell_of (task_of R row)) e in
          ap (λ (c : Cell). c.until) q ∙ sym until

      fed_left : (((task_of R row).run ≤ j.given + 1) × (fed (task_of R row).run s j ≡ closed s)) ⊎ ((j.given + 1 < (task_of R row).run) × (fed (task_of R row).run s j ≡ more))
          → (cells T (set v.slots row new) row).left + 1 ≡ (cells T v.slots row).left
      fed_left (inl (x, e)) =
          let q = at ∙ ap (cell_of (task_of R row)) e in
          omega (arith, x, f.1, left, ap (λ (c : Cell). c.left) q)
      fed_left (inr (x, e)) =
          let q = at ∙ ap (cell_of (task_of R row)) e in
          omega (arith, x, f.1, left, ap (λ (c : Cell). c.left) q)

  tick_room : (m : Mode) (a who : Option ℕ) (v w : View) → Sane R v → Mood m a v.slots
      → Room R.tasks v.now (cells R.tasks v.slots) (held a) → w.now ≡ v.now + 1 → Works m a R who v w
      → Room R.tasks w.now (cells R.tasks w.slots) (held w.alarm)
  tick_room Asleep None who v w h mood room n k =
      room_by R.tasks v.slots (v.now + 1) 0 w (held w.alarm) k.slots n (ap held k.alarm)
      (rest_room R.tasks (cells R.tasks v.slots) (v.now + 1) 0 (idle_backlog R.tasks v.slots mood))
  tick_room Asleep (Some zero) who v w h mood room n k = absurd (omega (arith, mood.0))
  tick_room Asleep (Some (suc l)) who v w h mood room n k =
      room_by R.tasks v.slots (v.now + 1) l w (held w.alarm) k.slots n (ap held k.alarm ∙ held_pass l)
      (wait_room R.tasks ok (cells R.tasks v.slots) v.now l room)
  tick_room Awake None None v w h mood room n k = absurd (not_both v.slots k.idle mood)
  tick_room Awake None (Some row) v w h mood room n (j, k) = served_room v w row j h room n k
  tick_room Awake (Some l) who v w h mood room n k = absurd mood

  closed_room : (v w : View) (row : ℕ) → Inv R v → Closes R v row w → Room R.tasks w.now (cells R.tasks w.slots) (held w.alarm)
  closed_room v w row h k =
      let T : List Task = R.tasks in
      let new : Slot = closed (slot_at v.slots row) in
      let l : row < length v.slots = omega (arith, k.listed, h.sane.size) in
      let up : (v.mode ≡ Awake) × (v.alarm ≡ None) = done_mood v.mode v.alarm v.slots row k.begun.0 h.sane.mood k.begun.1 k.begun.2 in
      let at = cell_set T v.slots row new l in
      room_by T (set v.slots row new) v.now 0 w (held w.alarm) k.slots k.now
      (settles_held v.mode w (subst (λ a. Settles v.mode a w) up.1 k.settles))
      (close_room T ok (cells T v.slots) (cells T (set v.slots row new)) row k.listed (alike_set T v.slots row new)
      v.now (held v.alarm) 0 h.room (ap (λ (c : Cell). c.next) at) (ap (λ (c : Cell). c.left) at) (omega arith))

  inv_step : (v : View) (e : Entry) (w : View) → Inv R v → Step R v e w → Inv R w
  inv_step v (released row wait) w h k = record { sane = sane_step R ok v (released row wait) w h.sane k; room = released_room v w row wait h k }
  inv_step v (done row) w h k = record { sane = sane_step R ok v (done row) w h.sane k; room = closed_room v w row h k }
  inv_step v (ticked who rang) w h k =
      record {
        sane = sane_step R ok v (ticked who rang) w h.sane k;
        room = tick_room v.mode v.alarm who v w h.sane h.sane.mood h.room k.now k.works;
      }
  inv_step v (reported row status) w h k = subst (Inv R) (sym k.same) h
  inv_step v (refused call why) w h k = subst (Inv R) (sym k.1) h

  inv_runs : (log : List Entry) (v w : View) → Inv R v → Runs R v log w → Inv R w
  inv_runs [] v w h k = subst (Inv R) (sym k) h
  inv_runs (e ∷ log) v w h (u, s, k) = inv_runs log u w (inv_step v e u h s) k

  inv_fresh : Inv R (fresh (count R))
  inv_fresh =
      record {
        sane = sane_fresh R;
        room = rest_room R.tasks (cells R.tasks (replicate (count R) empty)) 0 0 (idle_backlog R.tasks (replicate (count R) empty) (sane_fresh R).mood);
      }

  -- where the row has no job and may not be released within n ticks, it does not run in them
  abbrev Shut : View → ℕ → ℕ → Type 0
  Shut v row n = (job_at v.slots row ≡ None) × (v.now + n ≤ next_of (task_of R row) (slot_at v.slots row).last)

  shut_same : (v w : View) (row n m : ℕ) → slot_at w.slots row ≡ slot_at v.slots row → w.now + m ≡ v.now + n → Shut v row n → Shut w row m
  shut_same v w row n m e q (a, b) =
      (ap (λ (s : Slot). s.job) e ∙ a, omega (arith, b, q, ap (λ (s : Slot). next_of (task_of R row) s.last) e))

  -- the slot of a row that an entry does not name
  other_slot : (v w : View) (r row : ℕ) (s : Slot) → w.slots ≡ set v.slots r s → (r ≡ row → ⊥) → slot_at w.slots row ≡ slot_at v.slots row
  other_slot v w r row s e ne = ap (λ x. slot_at x row) e ∙ slot_other v.slots r row s (λ p. ne (sym p))

  -- a tick that does not run the row leaves its slot
  tick_slot : (m : Mode) (a who : Option ℕ) (v w : View) (row : ℕ) → (who ≡ Some row → ⊥) → Works m a R who v w → slot_at w.slots row ≡ slot_at v.slots row
  tick_slot Asleep a who v w row ne k = ap (λ x. slot_at x row) k.slots
  tick_slot Awake a None v w row ne k = ap (λ x. slot_at x row) k.slots
  tick_slot Awake a (Some r) v w row ne (j, k) =
      other_slot v w r row (fed (task_of R r).run (slot_at v.slots r) j) k.slots (λ p. ne (ap (λ x. Some x) p))

  -- the row that ran had an open job
  ran_job : (m : Mode) (a : Option ℕ) (v w : View) (r : ℕ) → Works m a R (Some r) v w → (j : Job) × Feeds R a v r j w
  ran_job Asleep a v w r k = absurd (none_some (sym k.nobody))
  ran_job Awake a v w r k = k

  quiet : (log : List Entry) (v w : View) (row n : ℕ) → Shut v row n → Runs R v log w → tally (is_run row) (up_to n log) ≡ 0
  quiet log v w row zero h k = refl
  quiet [] v w row (suc n) h k = refl
  quiet (released r wait ∷ log) v w row (suc n) h (u, s, k) =
      by (cases_eq r row) (λ e. quiet log u w row (suc n) (shut_same v u row (suc n) (suc n) e (omega (arith, s.now)) h) k)
    where
      by : (r ≡ row) ⊎ (r ≡ row → ⊥) → (slot_at u.slots row ≡ slot_at v.slots row → tally (is_run row) (up_to (suc n) log) ≡ 0) → 0 + tally (is_run row) (up_to (suc n) log) ≡ 0
      by (inl e) f =
          absurd (omega (
            arith,
            h.1,
            subst (λ x. next_of (task_of R x) (slot_at v.slots x).last ≤ v.now) e (apart_next (task_of R r) (slot_at v.slots r).last v.now s.apart),
          ))
      by (inr ne) f = omega (arith, f (other_slot v u r row (opened v.now (v.now + (task_of R r).due)) s.slots ne))
  quiet (done r ∷ log) v w row (suc n) h (u, s, k) =
      by (cases_eq r row) (λ e. quiet log u w row (suc n) (shut_same v u row (suc n) (suc n) e (omega (arith, s.now)) h) k)
    where
      by : (r ≡ row) ⊎ (r ≡ row → ⊥) → (slot_at u.slots row ≡ slot_at v.slots row → tally (is_run row) (up_to (suc n) log) ≡ 0) → 0 + tally (is_run row) (up_to (suc n) log) ≡ 0
      by (inl e) f = absurd (none_some (sym h.0 ∙ subst (λ x. job_at v.slots x ≡ Some s.begun.0) e s.begun.1))
      by (inr ne) f = omega (arith, f (other_slot v u r row (closed (slot_at v.slots r)) s.slots ne))
  quiet (ticked None rang ∷ log) v w row (suc n) h (u, s, k) =
      let e : slot_at u.slots row ≡ slot_at v.slots row = tick_slot v.mode v.alarm None v u row none_some s.works in
      omega (arith, quiet log u w row n (shut_same v u row (suc n) n e (omega (arith, s.now)) h) k)
  quiet (ticked (Some r) rang ∷ log) v w row (suc n) h (u, s, k) =
      by (cases_eq r row) (λ e. quiet log u w row n (shut_same v u row (suc n) n e (omega (arith, s.now)) h) k)
    where
      by : (r ≡ row) ⊎ (r ≡ row → ⊥) → (slot_at u.slots row ≡ slot_at v.slots row → tally (is_run row) (up_to n log) ≡ 0)
          → one (eqb r row) + tally (is_run row) (up_to n log) ≡ 0
      by (inl e) f =
          let x = ran_job v.mode v.alarm v u r s.works in
          absurd (none_some (sym h.0 ∙ subst (λ y. job_at v.slots y ≡ Some x.0) e x.1.chosen.job))
      by (inr ne) f =
          omega (arith, one_other r row ne, f (tick_slot v.mode v.alarm (Some r) v u row (λ p. ne (some_same p)) s.works))
  quiet (reported r status ∷ log) v w row (suc n) h (u, s, k) =
      omega (arith, quiet log u w row (suc n) (subst (λ x. Shut x row (suc n)) (sym s.same) h) k)
  quiet (refused call why ∷ log) v w row (suc n) h (u, s, k) =
      omega (arith, quiet log u w row (suc n) (subst (λ x. Shut x row (suc n)) (sym s.1) h) k)

  -- the row's open job within the n ticks up to its due tick
  abbrev Served : ℕ → ℕ → Job → List Entry → Type 0
  Served row n j log = (tally (is_run row) (up_to n log) + j.given ≡ (task_of R row).run) ⊎ (0 < tally (is_done row) (up_to n log))

  -- an entry that is neither a run nor a done of the row
  served_more : (row n : ℕ) (j : Job) (log part : List Entry) → tally (is_run row) part ≡ tally (is_run row) (up_to n log)
      → tally (is_done row) part ≡ tally (is_done row) (up_to n log)
      → Served row n j log → (tally (is_run row) part + j.given ≡ (task_of R row).run) ⊎ (0 < tally (is_done row) part)
  served_more row n j log part p q (inl e) = inl (omega arith)
  served_more row n j log part p q (inr e) = inr (omega arith)

  served : (log : List Entry) (v w : View) (row n : ℕ) (j : Job) → Inv R v → job_at v.slots row ≡ Some j → v.now + n ≡ j.due → n ≤ ticks log
      → Runs R v log w → Served row n j log
  served log v w row zero j h e d t k = absurd (omega (arith, (early v h row j e).0))
  served [] v w row (suc n) j h e d t k = absurd (omega arith)
  served (released r wait ∷ log) v w row (suc n) j h e d t (u, s, k) =
      by (cases_eq r row)
      (λ x. served log u w row (suc n) j (inv_step v (released r wait) u h s) (ap (λ (y : Slot). y.job) x ∙ e) (omega (arith, s.now)) (omega arith) k)
    where
      by : (r ≡ row) ⊎ (r ≡ row → ⊥) → (slot_at u.slots row ≡ slot_at v.slots row → Served row (suc n) j log) → Served row (suc n) j (released r wait ∷ log)
      by (inl p) f = absurd (none_some (sym (subst (λ x. job_at v.slots x ≡ None) p (free v h r s.apart)) ∙ e))
      by (inr ne) f =
          served_more row (suc n) j log (up_to (suc n) (released r wait ∷ log)) (omega arith) (omega arith)
          (f (other_slot v u r row (opened v.now (v.now + (task_of R r).due)) s.slots ne))
  served (done r ∷ log) v w row (suc n) j h e d t (u, s, k) =
      by (cases_eq r row)
      (λ x. served log u w row (suc n) j (inv_step v (done r) u h s) (ap (λ (y : Slot). y.job) x ∙ e) (omega (arith, s.now)) (omega arith) k)
    where
      by : (r ≡ row) ⊎ (r ≡ row → ⊥) → (slot_at u.slots row ≡ slot_at v.slots row → Served row (suc n) j log) → Served row (suc n) j (done r ∷ log)
      by (inl p) f = inr (omega (arith, one_same r row p))
      by (inr ne) f =
          served_more row (suc n) j log (up_to (suc n) (done r ∷ log)) (omega arith) (omega (arith, one_other r row ne))
          (f (other_slot v u r row (closed (slot_at v.slots r)) s.slots ne))
  served (ticked None rang ∷ log) v w row (suc n) j h e d t (u, s, k) =
      let x : slot_at u.slots row ≡ slot_at v.slots row = tick_slot v.mode v.alarm None v u row none_some s.works in
      served_more row n j log (up_to (suc n) (ticked None rang ∷ log)) (omega arith) (omega arith)
      (served log u w row n j (inv_step v (ticked None rang) u h s) (ap (λ (y : Slot). y.job) x ∙ e) (omega (arith, s.now)) (omega arith) k)
  served (ticked (Some r) rang ∷ log) v w row (suc n) j h e d t (u, s, k) =
      by (cases_eq r row) (λ i q a. served log u w row n i (inv_step v (ticked (Some r) rang) u h s) q (omega (arith, s.now, a)) (omega arith) k)
    where
      x : (i : Job) × Feeds R v.alarm v r i u
      x = ran_job v.mode v.alarm v u r s.works

      run : ℕ
      run = (task_of R row).run

      by_fed : r ≡ row → ((i : Job) → job_at u.slots row ≡ Some i → i.due ≡ j.due → Served row n i log)
          → ((run ≤ j.given + 1) × (fed run (slot_at v.slots row) j ≡ closed (slot_at v.slots row)))
          ⊎ ((j.given + 1 < run) × (fed run (slot_at v.slots row) j ≡ record { last = (slot_at v.slots row).last; job = Some (record { due = j.due; given = j.given + 1 }) }))
          → Served row (suc n) j (ticked (Some r) rang ∷ log)
      by_fed p f c =
          let same : x.0 ≡ j = some_same (sym x.1.chosen.job ∙ (ap (λ y. job_at v.slots y) p ∙ e)) in
          let l : row < length v.slots = within v.slots row j e in
          let new : slot_at u.slots row ≡ fed run (slot_at v.slots row) j =
          ap (λ y. slot_at y row) (x.1.slots ∙ cc (p, same)) ∙ slot_set v.slots row (fed run (slot_at v.slots row) j) l in
          go new c
        where
          go : slot_at u.slots row ≡ fed run (slot_at v.slots row) j
              → ((run ≤ j.given + 1) × (fed run (slot_at v.slots row) j ≡ closed (slot_at v.slots row)))
              ⊎ ((j.given + 1 < run) × (fed run (slot_at v.slots row) j ≡ record { last = (slot_at v.slots row).last; job = Some (record { due = j.due; given = j.given + 1 }) }))
              → Served row (suc n) j (ticked (Some r) rang ∷ log)
          go new (inl (a, q)) =
              let l : row < count R = omega (arith, within v.slots row j e, h.sane.size) in
              let m = made_order (task_of R row) (slot_at v.slots row).last j (ok row l) (h.sane.made row j e) in
              let z : slot_at u.slots row ≡ closed (slot_at v.slots row) = new ∙ q in
              let none : tally (is_run row) (up_to n log) ≡ 0 =
              quiet log u w row n
              (ap (λ (y : Slot). y.job) z, omega (arith, s.now, m.0, ap (λ (y : Slot). next_of (task_of R row) y.last) z)) k in
              inl (omega (arith, none, one_same r row p, m.1))
          go new (inr (a, q)) =
              by_more (f (record { due = j.due; given = j.given + 1 }) (ap (λ (y : Slot). y.job) (new ∙ q)) refl)
            where
              by_more : Served row n (record { due = j.due; given = j.given + 1 }) log → Served row (suc n) j (ticked (Some r) rang ∷ log)
              by_more (inl g) = inl (omega (arith, g, one_same r row p))
              by_more (inr g) = inr (omega (arith, g))

      by : (r ≡ row) ⊎ (r ≡ row → ⊥) → ((i : Job) → job_at u.slots row ≡ Some i → i.due ≡ j.due → Served row n i log)
          → Served row (suc n) j (ticked (Some r) rang ∷ log)
      by (inl p) f = by_fed p f (fed_cases run (slot_at v.slots row) j)
      by (inr ne) f =
          let y : slot_at u.slots row ≡ slot_at v.slots row = tick_slot v.mode v.alarm (Some r) v u row (λ q. ne (some_same q)) s.works in
          served_more row n j log (up_to (suc n) (ticked (Some r) rang ∷ log)) (omega (arith, one_other r row ne)) (omega arith)
          (f j (ap (λ (z : Slot). z.job) y ∙ e) refl)
  served (reported r status ∷ log) v w row (suc n) j h e d t (u, s, k) =
      served_more row (suc n) j log (up_to (suc n) (reported r status ∷ log)) (omega arith) (omega arith)
      (served log u w row (suc n) j (inv_step v (reported r status) u h s) (ap (λ (y : View). job_at y.slots row) s.same ∙ e)
      (omega (arith, ap (λ (y : View). y.now) s.same)) (omega arith) k)
  served (refused call why ∷ log) v w row (suc n) j h e d t (u, s, k) =
      served_more row (suc n) j log (up_to (suc n) (refused call why ∷ log)) (omega arith) (omega arith)
      (served log u w row (suc n) j (inv_step v (refused call why) u h s) (ap (λ (y : View). job_at y.slots row) s.1 ∙ e)
      (omega (arith, ap (λ (y : View). y.now) s.1)) (omega arith) k)

  due_kept : (log : List Entry) → Logged R log → DueKept R.tasks log
  due_kept log (w, k) before after row wait cut long =
      let split = runs_split R before (released row wait ∷ after) (fresh (count R)) w (subst (λ x. Runs R (fresh (count R)) x w) cut k) in
      let v : View = split.0 in
      let h : Inv R v = inv_runs before (fresh (count R)) v inv_fresh split.1 in
      let u : View = split.2.0 in
      let s : Releases R v row wait u = split.2.1 in
      let j : Job = record { due = v.now + (task_of R row).due; given = 0 } in
      let l : row < length v.slots = omega (arith, s.listed, h.sane.size) in
      let e : job_at u.slots row ≡ Some j =
      ap (λ x. job_at x row) s.slots ∙ ap (λ (x : Slot). x.job) (slot_set v.slots row (opened v.now (v.now + (task_of R row).due)) l) in
      go (served after u w row (task_of R row).due j (inv_step v (released row wait) u h s) e (omega (arith, s.now)) long split.2.2)
    where
      go : (tally (is_run row) (up_to (task_of R row).due after) + 0 ≡ (task_of R row).run) ⊎ (0 < tally (is_done row) (up_to (task_of R row).due after))
          → (tally (is_run row) (up_to (task_of R row).due after) ≡ (task_of R row).run) ⊎ (0 < tally (is_done row) (up_to (task_of R row).due after))
      go (inl e) = inl (omega arith)
      go (inr e) = inr e

pub due_promise : (R : Rules) → Planned R.tasks R.sleeps → (log : List Entry) → Logged R log → DueKept R.tasks log
due_promise R p log k = due_kept R p.whole p.rested log k
