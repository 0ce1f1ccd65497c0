-- What holds of every view that the rules reach, whatever the sleeps. A job is due a due after its row's last release;
-- awake, a job is open and the alarm unset; asleep, the alarm is set just if a job is open, and none has begun.
use Rattle.std.proofs.Common.{◌≡◌, ℕ, zero, suc, ◌+◌, ◌<◌, ◌≤◌, List, [], ◌∷◌, length, set, Some, None, Option, sym, refl, ap, ◌∙◌, subst, inl, inr, arith}
use Rattle.std.proofs.lemmas.List.{length-set, length-replicate}
use Rattle.table.specs.declared.task.Task.{Task}
use Rattle.table.specs.Tasks.{AllWhole}
use Rattle.alarm.specs.Meaning.{onward, rings}
use Rattle.rules.specs.declared.slots.Mode.{Mode}
use Rattle.rules.specs.declared.slots.Mode.TheVariants.{Asleep, Awake}
use Rattle.rules.specs.declared.slots.Job.{Job}
use Rattle.rules.specs.declared.slots.Slot.{Slot}
use Rattle.rules.specs.Views.{empty, slot_at, job_at, opened, closed, fed, View, Rules, count, task_of, sleep_of, fresh}
use Rattle.rules.specs.Steps.{Entry, Entry.released, Entry.done, Entry.ticked, Entry.reported, Entry.refused, mode_after, Idle, Busy, Asked, Asks, Sets, Settles, Works, Step, Runs}
use Rattle.rules.proofs.Waits.{waiting_some, stays_asleep, onward_more, silent}
use Rattle.rules.proofs.Cells.{within, some_same, none_some, slot_set, all_set, fed_last, fed_job, slot_fresh}

-- a job is due a due after its release, and it was given less than its run
abbrev pub Made : Task → Option ℕ → Job → Type 0
Made r None j = ⊥
Made r (Some t) j = (j.due ≡ t + r.due) × (j.given < r.run)

abbrev pub Unbegun : List Slot → Type 0
Unbegun slots = (row : ℕ) (j : Job) → job_at slots row ≡ Some j → j.given ≡ 0

-- awake: a job is open and the alarm unset; asleep: the alarm is set just if a job is open, and none has begun
abbrev pub Mood : Mode → Option ℕ → List Slot → Type 0
Mood Awake None slots = Busy slots
Mood Awake (Some l) slots = ⊥
Mood Asleep None slots = Idle slots
Mood Asleep (Some l) slots = (1 ≤ l) × Busy slots × Unbegun slots

pub record Sane (R : Rules) (v : View) : Type 0 where
  pub size : length v.slots ≡ count R
  pub made : (row : ℕ) (j : Job) → job_at v.slots row ≡ Some j → Made (task_of R row) (slot_at v.slots row).last j
  pub mood : Mood v.mode v.alarm v.slots

pub mood_by : (m : Mode) (a : Option ℕ) (slots : List Slot) (w : View) → w.mode ≡ m → w.alarm ≡ a → w.slots ≡ slots → Mood m a slots
    → Mood w.mode w.alarm w.slots
mood_by m a slots w p q r h =
    subst (λ x. Mood x w.alarm w.slots) (sym p) (subst (λ x. Mood m x w.slots) (sym q) (subst (λ x. Mood m a x) (sym r) h))

-- no slots have an open job and none
pub not_both : (slots : List Slot) → Idle slots → Busy slots → ⊥
not_both slots i b = none_some (sym (i b.0) ∙ b.2)

pub unbegun : (m : Mode) (a : Option ℕ) (slots : List Slot) → m ≡ Asleep → Mood m a slots → Unbegun slots
unbegun Asleep None slots e h = λ row j q. absurd (none_some (sym (h row) ∙ q))
unbegun Asleep (Some l) slots e h = h.2
unbegun Awake None slots e h = let z : ◌≡◌ {A = ℕ} 0 1 = cc in absurd (omega arith)
unbegun Awake (Some l) slots e h = absurd h

-- after Set
asked_mood : (R : Rules) (s m : ℕ) (w : View) (slots : List Slot) → Asked R s m w → w.slots ≡ slots → Busy slots → Unbegun slots
    → Mood w.mode w.alarm w.slots
asked_mood R s zero w slots k e b u = mood_by Awake None slots w k.mode k.alarm e b
asked_mood R s (suc m) w slots k e b u =
    mood_by Asleep (Some (suc m)) slots w (k.mode ∙ stays_asleep m) (k.alarm ∙ waiting_some m) e (omega arith, b, u)

asks_mood : (R : Rules) (s : ℕ) (wait : Option ℕ) (w : View) (slots : List Slot) → Asks R s wait w → w.slots ≡ slots → Busy slots → Unbegun slots
    → Mood w.mode w.alarm w.slots
asks_mood R s None w slots k e b u = absurd k
asks_mood R s (Some m) w slots k e b u = asked_mood R s m w slots k e b u

sets_mood : (m : Mode) (a : Option ℕ) (R : Rules) (s : ℕ) (wait : Option ℕ) (w : View) (old new : List Slot)
    → Sets m a R s wait w → Mood m a old → w.slots ≡ new → Busy new → (Unbegun old → Unbegun new)
    → Mood w.mode w.alarm w.slots
sets_mood Awake None R s wait w old new k h e b u = mood_by Awake None new w k.mode k.alarm e b
sets_mood Awake (Some l) R s wait w old new k h e b u = absurd h
sets_mood Asleep None R s wait w old new k h e b u = asks_mood R s wait w new k e b (u (unbegun Asleep None old refl h))
sets_mood Asleep (Some l) R s wait w old new (inl k) h e b u = mood_by Asleep (Some l) new w k.1.mode k.1.alarm e (h.0, b, u h.2)
sets_mood Asleep (Some l) R s wait w old new (inr k) h e b u = asks_mood R s wait w new k.1 e b (u h.2)

settles_mood : (w : View) → Settles Awake None w → Mood w.mode w.alarm w.slots
settles_mood w (inl k) = mood_by Asleep None w.slots w k.1 k.2 refl k.0
settles_mood w (inr k) = mood_by Awake None w.slots w k.1 k.2 refl k.0

sleeps_mood : (a : Option ℕ) (w : View) (slots : List Slot) → Mood Asleep a slots → w.slots ≡ slots → w.alarm ≡ onward a → w.mode ≡ mode_after (rings a)
    → Mood w.mode w.alarm w.slots
sleeps_mood None w slots h e p q = mood_by Asleep None slots w q p e h
sleeps_mood (Some zero) w slots h e p q = absurd (omega (arith, h.0))
sleeps_mood (Some (suc zero)) w slots h e p q = mood_by Awake None slots w q p e h.1
sleeps_mood (Some (suc (suc l))) w slots h e p q =
    mood_by Asleep (Some (suc l)) slots w (q ∙ ap mode_after (silent l)) (p ∙ onward_more l) e (omega arith, h.1, h.2)

-- a done finds a board awake, with the alarm unset
pub done_mood : (m : Mode) (a : Option ℕ) (slots : List Slot) (row : ℕ) (j : Job) → Mood m a slots → job_at slots row ≡ Some j → 0 < j.given
    → (m ≡ Awake) × (a ≡ None)
done_mood Awake None slots row j h e g = (refl, refl)
done_mood Awake (Some l) slots row j h e g = absurd h
done_mood Asleep None slots row j h e g = absurd (none_some (sym (h row) ∙ e))
done_mood Asleep (Some l) slots row j h e g = absurd (omega (arith, h.2 row j e))

module _ (R : Rules) (ok : AllWhole R.tasks) where
  MadeAt : ℕ → Slot → Type 0
  MadeAt row s = (j : Job) → s.job ≡ Some j → Made (task_of R row) s.last j

  made_set : (v w : View) (row : ℕ) (s : Slot) → Sane R v → row < count R → w.slots ≡ set v.slots row s → MadeAt row s
      → (i : ℕ) (j : Job) → job_at w.slots i ≡ Some j → Made (task_of R i) (slot_at w.slots i).last j
  unfolding MadeAt
  made_set v w row s h l e p =
      subst (λ x. (i : ℕ) (j : Job) → job_at x i ≡ Some j → Made (task_of R i) (slot_at x i).last j) (sym e)
      (all_set MadeAt v.slots row s (omega (arith, h.size)) p h.made)

  made_fed : (row : ℕ) (s : Slot) (j : Job) → Made (task_of R row) s.last j → MadeAt row (fed (task_of R row).run s j)
  unfolding MadeAt
  made_fed row s j h k e = subst (λ a. Made (task_of R row) a k) (sym (fed_last (task_of R row).run s j)) (go s.last h)
    where
      f : (k.due ≡ j.due) × (k.given ≡ j.given + 1) × (j.given + 1 < (task_of R row).run)
      f = fed_job (task_of R row).run s j k e

      go : (a : Option ℕ) → Made (task_of R row) a j → Made (task_of R row) a k
      go None m = m
      go (Some t) m = (omega (arith, f.0, m.0), omega (arith, f.1, f.2))

  tick_sane : (m : Mode) (a who : Option ℕ) (v w : View) → Sane R v → Mood m a v.slots → Works m a R who v w → Sane R w
  unfolding MadeAt
  tick_sane Asleep a who v w h mood k =
      record {
        size = ap length k.slots ∙ h.size;
        made = subst (λ x. (i : ℕ) (j : Job) → job_at x i ≡ Some j → Made (task_of R i) (slot_at x i).last j) (sym k.slots) h.made;
        mood = sleeps_mood a w v.slots mood k.slots k.alarm k.mode;
      }
  tick_sane Awake None None v w h mood k = absurd (not_both v.slots k.idle mood)
  tick_sane Awake (Some l) None v w h mood k = absurd mood
  tick_sane Awake None (Some row) v w h mood (j, k) =
      record {
        size = ap length k.slots ∙ (length-set v.slots row (fed (task_of R row).run (slot_at v.slots row) j) ∙ h.size);
        made = made_set v w row (fed (task_of R row).run (slot_at v.slots row) j) h
            (omega (arith, within v.slots row j k.chosen.job, h.size)) k.slots
            (made_fed row (slot_at v.slots row) j (h.made row j k.chosen.job));
        mood = settles_mood w k.settles;
      }
  tick_sane Awake (Some l) (Some row) v w h mood k = absurd mood

  pub sane_step : (v : View) (e : Entry) (w : View) → Sane R v → Step R v e w → Sane R w
  unfolding MadeAt
  sane_step v (released row wait) w h k =
      let new : Slot = opened v.now (v.now + (task_of R row).due) in
      let job : Job = record { due = v.now + (task_of R row).due; given = 0 } in
      let l : row < length v.slots = omega (arith, k.listed, h.size) in
      record {
        size = ap length k.slots ∙ (length-set v.slots row new ∙ h.size);
        made = made_set v w row new h k.listed k.slots
            (λ j e.
            let same : job ≡ j = some_same e in
            (sym (ap (λ (x : Job). x.due) same), subst (λ (x : Job). x.given < (task_of R row).run) same (ok row k.listed).0));
        mood = sets_mood v.mode v.alarm R (sleep_of R row) wait w v.slots (set v.slots row new) k.sets h.mood k.slots
            (row, job, ap (λ (s : Slot). s.job) (slot_set v.slots row new l))
            (λ u. all_set (λ _ s. (j : Job) → s.job ≡ Some j → j.given ≡ 0) v.slots row new l
            (λ j e. sym (ap (λ (x : Job). x.given) (some_same e))) u);
      }
  sane_step v (done row) w h k =
      let new : Slot = closed (slot_at v.slots row) in
      let up : (v.mode ≡ Awake) × (v.alarm ≡ None) = done_mood v.mode v.alarm v.slots row k.begun.0 h.mood k.begun.1 k.begun.2 in
      record {
        size = ap length k.slots ∙ (length-set v.slots row new ∙ h.size);
        made = made_set v w row new h k.listed k.slots (λ j e. absurd (none_some e));
        mood = settles_mood w (subst (λ a. Settles Awake a w) up.1 (subst (λ m. Settles m v.alarm w) up.0 k.settles));
      }
  sane_step v (ticked who rang) w h k = tick_sane v.mode v.alarm who v w h h.mood k.works
  sane_step v (reported row status) w h k = subst (Sane R) (sym k.same) h
  sane_step v (refused call why) w h k = subst (Sane R) (sym k.1) h

  pub sane_runs : (log : List Entry) (v w : View) → Sane R v → Runs R v log w → Sane R w
  sane_runs [] v w h k = subst (Sane R) (sym k) h
  sane_runs (e ∷ log) v w h (u, s, k) = sane_runs log u w (sane_step v e u h s) k

pub sane_fresh : (R : Rules) → Sane R (fresh (count R))
sane_fresh R =
    record {
      size = length-replicate (count R) empty;
      made = λ row j e. absurd (none_some (sym (ap (λ (s : Slot). s.job) (slot_fresh (count R) row)) ∙ e));
      mood = λ row. ap (λ (s : Slot). s.job) (slot_fresh (count R) row);
    }
