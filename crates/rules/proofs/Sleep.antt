-- The second promise: no sleep is cut short. Where a sleep begins by the log, no job is open, so the board is asleep with
-- its alarm unset. From its first release on, the alarm has at least the lesser of shortest sleep and reach left, but for
-- less than a grain, minus the ticks gone by; a later release only sets it anew by the same bound. Which job a tick serves
-- is not used.
use Rattle.std.proofs.Common.{◌≡◌, ℕ, zero, suc, ◌+◌, ◌<◌, ◌≤◌, min, Bool, ◌⊎◌, List, [], ◌∷◌, ◌++◌, length, Some, None, Option, sym, refl, ap, ◌∙◌, subst, inl, inr, arith}
use Rattle.std.proofs.lemmas.Bool.{cases_eq}
use Rattle.table.specs.Tasks.{AllWhole}
use Rattle.alarm.specs.Meaning.{rings}
use Rattle.rules.specs.declared.slots.Mode.{Mode}
use Rattle.rules.specs.declared.slots.Mode.TheVariants.{Asleep, Awake}
use Rattle.rules.specs.declared.slots.Job.{Job}
use Rattle.rules.specs.declared.slots.Slot.{Slot}
use Rattle.rules.specs.Views.{slot_at, job_at, closed, fed, View, Rules, count, task_of, sleep_of, fresh}
use Rattle.rules.specs.Plans.{Planned}
use Rattle.rules.specs.Steps.{Entry, Entry.released, Entry.done, Entry.ticked, Entry.reported, Entry.refused, mode_after, Idle, Kept, Asked, Sets, Releases, Sleeps, Works, Ticks, Closes, Step, Runs}
use Rattle.rules.specs.Logs.{one, tally, is_waking, ticks, since_release, Open, Shuts, Begins, Ends}
use Rattle.rules.specs.Promises.{Logged, SleepKept}
use Rattle.rules.proofs.Waits.{waiting_some, stays_asleep, onward_more, silent}
use Rattle.rules.proofs.Cells.{none_some, some_none, cases_job, slot_other}
use Rattle.rules.proofs.Sane.{Sane, Mood, done_mood, sane_step, sane_runs, sane_fresh}
use Rattle.rules.proofs.Runs.{runs_split}
use Rattle.rules.proofs.Told.{Told, told_runs, told_fresh, open_told}

pub idle_mood : (m : Mode) (a : Option ℕ) (slots : List Slot) → Mood m a slots → Idle slots → (m ≡ Asleep) × (a ≡ None)
idle_mood Awake None slots h i = absurd (none_some (sym (i h.0) ∙ h.2))
idle_mood Awake (Some l) slots h i = absurd h
idle_mood Asleep None slots h i = (refl, refl)
idle_mood Asleep (Some l) slots h i = absurd (none_some (sym (i h.1.0) ∙ h.1.2))

-- a done finds no sleeping board
pub no_done : (R : Rules) (v : View) (row : ℕ) (w : View) → Sane R v → v.mode ≡ Asleep → Closes R v row w → ⊥
no_done R v row w h m k =
    let up = done_mood v.mode v.alarm v.slots row k.begun.0 h.mood k.begun.1 k.begun.2 in
    let e : Asleep ≡ Awake = sym m ∙ up.0 in
    let z : ◌≡◌ {A = ℕ} 0 1 = cc in
    omega arith

pub sets_at : (R : Rules) (v w : View) (row : ℕ) (wait a : Option ℕ) → v.mode ≡ Asleep → v.alarm ≡ a → Releases R v row wait w
    → Sets Asleep a R (sleep_of R row) wait w
sets_at R v w row wait a p q k =
    subst (λ x. Sets Asleep x R (sleep_of R row) wait w) q (subst (λ x. Sets x v.alarm R (sleep_of R row) wait w) p k.sets)

pub works_at : (R : Rules) (v w : View) (who a : Option ℕ) (rang : Bool) → v.mode ≡ Asleep → v.alarm ≡ a → Ticks R v who rang w → Sleeps who a v w
works_at R v w who a rang p q k =
    subst (λ x. Works Asleep x R who v w) q (subst (λ x. Works x v.alarm R who v w) p k.works)

-- a job that is open after a tick or a done was open before
shuts_tick : (m : Mode) (a who : Option ℕ) (R : Rules) (x y : View) → Works m a R who x y
    → (row : ℕ) (j : Job) → job_at y.slots row ≡ Some j → (i : Job) × (job_at x.slots row ≡ Some i)
shuts_tick Asleep a who R x y k row j e = (j, sym (ap (λ s. job_at s row) k.slots) ∙ e)
shuts_tick Awake a None R x y k row j e = (j, sym (ap (λ s. job_at s row) k.slots) ∙ e)
shuts_tick Awake a (Some r) R x y (i, k) row j e = go (cases_eq row r)
  where
    go : (row ≡ r) ⊎ (row ≡ r → ⊥) → (i : Job) × (job_at x.slots row ≡ Some i)
    go (inl p) = (i, ap (λ n. job_at x.slots n) p ∙ k.chosen.job)
    go (inr ne) =
        (j, sym (ap (λ s. job_at s row) k.slots ∙ ap (λ (s : Slot). s.job) (slot_other x.slots r row (fed (task_of R r).run (slot_at x.slots r) i) ne)) ∙ e)

shuts_job : (R : Rules) (x : View) (e : Entry) (y : View) → Shuts e → length x.slots ≡ count R → Step R x e y
    → (row : ℕ) (j : Job) → job_at y.slots row ≡ Some j → (i : Job) × (job_at x.slots row ≡ Some i)
shuts_job R x (released r wait) y h size k row j e = absurd h
shuts_job R x (done r) y h size k row j e = go (cases_eq row r)
  where
    go : (row ≡ r) ⊎ (row ≡ r → ⊥) → (i : Job) × (job_at x.slots row ≡ Some i)
    go (inl p) = (k.begun.0, ap (λ n. job_at x.slots n) p ∙ k.begun.1)
    go (inr ne) =
        (j, sym (ap (λ s. job_at s row) k.slots ∙ ap (λ (s : Slot). s.job) (slot_other x.slots r row (closed (slot_at x.slots r)) ne)) ∙ e)
shuts_job R x (ticked who rang) y h size k row j e = shuts_tick x.mode x.alarm who R x y k.works row j e
shuts_job R x (reported r status) y h size k row j e = absurd h
shuts_job R x (refused call why) y h size k row j e = absurd h

module _ (R : Rules) (ok : AllWhole R.tasks) (shortest : ℕ) (least : (i : ℕ) → i < count R → shortest ≤ sleep_of R i) where
  -- where a sleep begins by the log, no job is open in the view
  pub begins_idle : (before : List Entry) (v : View) → Runs R (fresh (count R)) before v → Begins R.tasks before → Idle v.slots
  begins_idle before v k (inl e) =
      let z : v ≡ fresh (count R) = subst (λ x. Runs R (fresh (count R)) x v) e k in
      subst (λ (x : View). Idle x.slots) (sym z) (sane_fresh R).mood
  begins_idle before v k (inr b) = λ row. go row (cases_job (job_at v.slots row))
    where
      split : (x : View) × Runs R (fresh (count R)) b.earlier x × Runs R x (b.entry ∷ []) v
      split = runs_split R b.earlier (b.entry ∷ []) (fresh (count R)) v (subst (λ l. Runs R (fresh (count R)) l v) b.cut k)

      x : View
      x = split.0

      sane_x : Sane R x
      sane_x = sane_runs R ok b.earlier (fresh (count R)) x (sane_fresh R) split.1

      told_x : Told R b.earlier x
      told_x = told_runs R ok b.earlier [] (fresh (count R)) x (sane_fresh R) (told_fresh R) split.1

      sane_v : Sane R v
      sane_v = sane_runs R ok before (fresh (count R)) v (sane_fresh R) k

      told_v : Told R before v
      told_v = told_runs R ok before [] (fresh (count R)) v (sane_fresh R) (told_fresh R) k

      step : Step R x b.entry v
      step = subst (Step R x b.entry) (sym split.2.2) split.2.1

      go : (row : ℕ) → (job_at v.slots row ≡ None) ⊎ ((j : Job) × (job_at v.slots row ≡ Some j)) → job_at v.slots row ≡ None
      go row (inl e) = e
      go row (inr (j, e)) =
          let i = shuts_job R x b.entry v b.shuts sane_x.size step row j e in
          let same : row ≡ b.row = b.only row (open_told R b.earlier x sane_x told_x row i.0 i.1) in
          absurd (b.gone (subst (λ r. Open R.tasks r before) same (open_told R before v sane_v told_v row j e)))

  low : ℕ
  low = min shortest R.reach

  -- a wait that was asked for is long enough
  enough : (row m : ℕ) (w : View) → row < count R → Asked R (sleep_of R row) m w → low < m + R.grain
  unfolding low
  enough row m w l k = omega (arith, least row l, k.near)

  set_sleep : (sleeping : List Entry) (entry : Entry) (v w : View) (l g : ℕ) → Sane R v → v.mode ≡ Asleep → v.alarm ≡ Some l
      → low < l + g → R.grain ≤ g → tally is_waking sleeping ≡ 0 → is_waking entry ≡ 1 → Runs R v (sleeping ++ (entry ∷ [])) w
      → low < ticks (sleeping ++ (entry ∷ [])) + g
  set_sleep [] (released row None) v w l g h m a b c still wakes (u, s, k) = absurd (omega arith)
  set_sleep [] (released row (Some zero)) v w l g h m a b c still wakes (u, s, k) = go (sets_at R v u row (Some 0) (Some l) m a s)
    where
      go : Sets Asleep (Some l) R (sleep_of R row) (Some 0) u → low < 0 + 0 + g
      go (inl x) = absurd (some_none x.1.unasked)
      go (inr x) = omega (arith, enough row 0 u s.listed x.1)
  set_sleep [] (released row (Some (suc n))) v w l g h m a b c still wakes (u, s, k) = absurd (omega arith)
  set_sleep [] (done row) v w l g h m a b c still wakes (u, s, k) = absurd (omega arith)
  set_sleep [] (ticked who rang) v w l g h m a b c still wakes (u, s, k) = go l b (s.rung ∙ ap rings a)
    where
      go : (l : ℕ) → low < l + g → rang ≡ rings (Some l) → low < 1 + 0 + g
      go zero b e = omega (arith, b)
      go (suc zero) b e = omega (arith, b)
      go (suc (suc l)) b e = absurd (omega (arith, wakes, ap one (e ∙ silent l)))
  set_sleep [] (reported row status) v w l g h m a b c still wakes (u, s, k) = absurd (omega arith)
  set_sleep [] (refused call why) v w l g h m a b c still wakes (u, s, k) = absurd (omega arith)
  set_sleep (released row None ∷ rest) entry v w l g h m a b c still wakes (u, s, k) =
      omega (arith, set_sleep rest entry u w l g (sane_step R ok v (released row None) u h s) kept.mode kept.alarm b c (omega arith) wakes k)
    where
      go : Sets Asleep (Some l) R (sleep_of R row) None u → Kept Asleep (Some l) None u
      go (inl x) = x.1
      go (inr x) = absurd x.1

      kept : Kept Asleep (Some l) None u
      kept = go (sets_at R v u row None (Some l) m a s)
  set_sleep (released row (Some zero) ∷ rest) entry v w l g h m a b c still wakes (u, s, k) = absurd (omega arith)
  set_sleep (released row (Some (suc n)) ∷ rest) entry v w l g h m a b c still wakes (u, s, k) =
      omega (
        arith,
        set_sleep rest entry u w (suc n) g (sane_step R ok v (released row (Some (suc n))) u h s) (asked.mode ∙ stays_asleep n) (asked.alarm ∙ waiting_some n)
            (omega (arith, enough row (suc n) u s.listed asked)) c (omega arith) wakes k,
      )
    where
      go : Sets Asleep (Some l) R (sleep_of R row) (Some (suc n)) u → Asked R (sleep_of R row) (suc n) u
      go (inl x) = absurd (some_none x.1.unasked)
      go (inr x) = x.1

      asked : Asked R (sleep_of R row) (suc n) u
      asked = go (sets_at R v u row (Some (suc n)) (Some l) m a s)
  set_sleep (done row ∷ rest) entry v w l g h m a b c still wakes (u, s, k) = absurd (no_done R v row u h m s)
  set_sleep (ticked who rang ∷ rest) entry v w l g h m a b c still wakes (u, s, k) =
      go l b (s.rung ∙ ap rings a) (works_at R v u who (Some l) rang m a s)
      (λ n p q d. set_sleep rest entry u w n (g + 1) (sane_step R ok v (ticked who rang) u h s) p q d (omega arith) (omega arith) wakes k)
    where
      go : (l : ℕ) → low < l + g → rang ≡ rings (Some l) → Sleeps who (Some l) v u
          → ((n : ℕ) → u.mode ≡ Asleep → u.alarm ≡ Some n → low < n + (g + 1) → low < ticks (rest ++ (entry ∷ [])) + (g + 1))
          → low < 1 + ticks (rest ++ (entry ∷ [])) + g
      go zero b e x f = omega (arith, b)
      go (suc zero) b e x f = absurd (omega (arith, still, ap one e))
      go (suc (suc l)) b e x f = omega (arith, f (suc l) (x.mode ∙ ap mode_after (silent l)) (x.alarm ∙ onward_more l) (omega arith))
  set_sleep (reported row status ∷ rest) entry v w l g h m a b c still wakes (u, s, k) =
      let e : u ≡ v = s.same in
      omega (arith, set_sleep rest entry u w l g (subst (Sane R) (sym e) h) (ap (λ (x : View). x.mode) e ∙ m) (ap (λ (x : View). x.alarm) e ∙ a) b c (omega arith) wakes k)
  set_sleep (refused call why ∷ rest) entry v w l g h m a b c still wakes (u, s, k) =
      let e : u ≡ v = s.1 in
      omega (arith, set_sleep rest entry u w l g (subst (Sane R) (sym e) h) (ap (λ (x : View). x.mode) e ∙ m) (ap (λ (x : View). x.alarm) e ∙ a) b c (omega arith) wakes k)

  resting : (sleeping : List Entry) (entry : Entry) (v w : View) → Sane R v → v.mode ≡ Asleep → v.alarm ≡ None
      → tally is_waking sleeping ≡ 0 → is_waking entry ≡ 1 → Runs R v (sleeping ++ (entry ∷ [])) w
      → low < ticks (since_release (sleeping ++ (entry ∷ []))) + R.grain
  resting [] (released row None) v w h m a still wakes (u, s, k) = absurd (omega arith)
  resting [] (released row (Some zero)) v w h m a still wakes (u, s, k) =
      omega (arith, enough row 0 u s.listed (sets_at R v u row (Some 0) None m a s))
  resting [] (released row (Some (suc n))) v w h m a still wakes (u, s, k) = absurd (omega arith)
  resting [] (done row) v w h m a still wakes (u, s, k) = absurd (omega arith)
  resting [] (ticked who rang) v w h m a still wakes (u, s, k) = absurd (omega (arith, ap one (s.rung ∙ ap rings a)))
  resting [] (reported row status) v w h m a still wakes (u, s, k) = absurd (omega arith)
  resting [] (refused call why) v w h m a still wakes (u, s, k) = absurd (omega arith)
  resting (released row None ∷ rest) entry v w h m a still wakes (u, s, k) = absurd (sets_at R v u row None None m a s)
  resting (released row (Some zero) ∷ rest) entry v w h m a still wakes (u, s, k) = absurd (omega arith)
  resting (released row (Some (suc n)) ∷ rest) entry v w h m a still wakes (u, s, k) =
      let x : Asked R (sleep_of R row) (suc n) u = sets_at R v u row (Some (suc n)) None m a s in
      set_sleep rest entry u w (suc n) R.grain (sane_step R ok v (released row (Some (suc n))) u h s) (x.mode ∙ stays_asleep n) (x.alarm ∙ waiting_some n)
      (enough row (suc n) u s.listed x) (omega arith) (omega arith) wakes k
  resting (done row ∷ rest) entry v w h m a still wakes (u, s, k) = absurd (no_done R v row u h m s)
  resting (ticked who rang ∷ rest) entry v w h m a still wakes (u, s, k) =
      let x : Sleeps who None v u = works_at R v u who None rang m a s in
      resting rest entry u w (sane_step R ok v (ticked who rang) u h s) x.mode x.alarm (omega arith) wakes k
  resting (reported row status ∷ rest) entry v w h m a still wakes (u, s, k) =
      let e : u ≡ v = s.same in
      resting rest entry u w (subst (Sane R) (sym e) h) (ap (λ (x : View). x.mode) e ∙ m) (ap (λ (x : View). x.alarm) e ∙ a) (omega arith) wakes k
  resting (refused call why ∷ rest) entry v w h m a still wakes (u, s, k) =
      let e : u ≡ v = s.1 in
      resting rest entry u w (subst (Sane R) (sym e) h) (ap (λ (x : View). x.mode) e ∙ m) (ap (λ (x : View). x.alarm) e ∙ a) (omega arith) wakes k

  sleep_kept : (log : List Entry) → Logged R log → (before inside after : List Entry) → log ≡ before ++ (inside ++ after)
      → Begins R.tasks before → Ends inside → min shortest R.reach < ticks (since_release inside) + R.grain
  unfolding low
  sleep_kept log (w, k) before inside after cut begins ends =
      let fst = runs_split R before (inside ++ after) (fresh (count R)) w (subst (λ x. Runs R (fresh (count R)) x w) cut k) in
      let v : View = fst.0 in
      let snd = runs_split R inside after v w fst.2 in
      let h : Sane R v = sane_runs R ok before (fresh (count R)) v (sane_fresh R) fst.1 in
      let idle : Idle v.slots = begins_idle before v fst.1 begins in
      let mood = idle_mood v.mode v.alarm v.slots h.mood idle in
      subst (λ x. min shortest R.reach < ticks (since_release x) + R.grain) (sym ends.cut)
      (resting ends.sleeping ends.entry v snd.0 h mood.0 mood.1 ends.still ends.wakes
      (subst (λ x. Runs R v x snd.0) ends.cut snd.1))

pub sleep_promise : (R : Rules) → Planned R.tasks R.sleeps → (log : List Entry) → Logged R log → SleepKept R log
sleep_promise R p log k shortest s = sleep_kept R p.whole shortest (λ row l. s.below row (omega (arith, p.size))) log k
