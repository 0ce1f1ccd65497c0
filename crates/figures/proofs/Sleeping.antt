-- A sleeping board over an exact alarm has no choice: each call that fits has one step, the computed one. A release asks the
-- alarm or leaves it, as the ticks left say, and an exact alarm has one wait to answer; a tick passes. So the runs with
-- some calls are the computed one, and what is computed of its end is so of every end.
use Rattle.std.proofs.Common.{◌≡◌, ℕ, ◌+◌, ◌<◌, ◌≤◌, min, Bool, true, false, cond, ◌&&◌, ltb, ◌⊎◌, List, [], ◌∷◌, Some, None, Ok, Option, sym, refl, ap, ◌∙◌, subst, inl, inr, arith}
use Rattle.std.proofs.lemmas.Bool.{and_parts, true≢false, false≢true, ltb-true, ltb-false, leb-true, eqb-true, not-true}
use Rattle.refusal.specs.declared.cases.Refusal.TheVariants.{NoSuchRow, TooSoon}
use Rattle.table.specs.declared.task.Task.{Task}
use Rattle.alarm.specs.Meaning.{waiting, rings}
use Rattle.rules.specs.declared.slots.Mode.{Mode}
use Rattle.rules.specs.declared.slots.Mode.TheVariants.{Asleep, Awake}
use Rattle.rules.specs.declared.slots.Slot.{Slot}
use Rattle.rules.specs.declared.calls.Call.{Call}
use Rattle.rules.specs.declared.calls.Call.TheVariants.{Release, Done, Tick, Report}
use Rattle.rules.specs.Views.{slot_at, View, Rules, count, task_of, sleep_of, fresh}
use Rattle.rules.specs.Plans.{limit}
use Rattle.rules.specs.Promises.{exact}
use Rattle.rules.specs.Steps.{Entry, Entry.released, Entry.done, Entry.ticked, Entry.reported, Entry.refused, mode_for, Apart, Soon, Asked, Asks, Sets, Releases, Sleeps, Works, Refuses, Step, Runs}
use Rattle.rules.specs.declared.calls.Answer.TheVariants.{Ticked}
use Rattle.rules.specs.Logs.{call_of, calls_of, answer_of, answers_of}
use Rattle.figures.specs.Sleeping.{Quiet, Quietly, Leads, sleeping, apart, fits_call, fits, answered, asked, entry_for, opened_in, view_after, fit_all, log_of, end_of, hushed, hushed_all, leaves, leads}
use Rattle.figures.proofs.Alike.{row_in, apart_kinds}

same_view : (w : View) (now ran slept : ℕ) (mode : Mode) (slots : List Slot) (alarm : Option ℕ) → w.now ≡ now → w.ran ≡ ran → w.slept ≡ slept
    → w.mode ≡ mode → w.slots ≡ slots → w.alarm ≡ alarm
    → w ≡ record { now = now; ran = ran; slept = slept; mode = mode; slots = slots; alarm = alarm }
same_view w now ran slept mode slots alarm a b c d e f =
    let parts : w ≡ record { now = w.now; ran = w.ran; slept = w.slept; mode = w.mode; slots = w.slots; alarm = w.alarm } = refl in
    cc

module _ {A : Type 0} where
  cons_nil : {a : A} {xs : List A} → ◌≡◌ {A = List A} (a ∷ xs) [] → ⊥
  cons_nil e = let z : ◌≡◌ {A = ℕ} 0 1 = cc in omega arith

  nil_cons : {a : A} {xs : List A} → ◌≡◌ {A = List A} [] (a ∷ xs) → ⊥
  nil_cons e = let z : ◌≡◌ {A = ℕ} 0 1 = cc in omega arith

  heads : {a b : A} {xs ys : List A} → ◌≡◌ {A = List A} (a ∷ xs) (b ∷ ys) → a ≡ b
  heads e = cc

  tails : {a b : A} {xs ys : List A} → ◌≡◌ {A = List A} (a ∷ xs) (b ∷ ys) → xs ≡ ys
  tails e = cc

apart_so : (last : Option ℕ) (gap now : ℕ) → apart last gap now ≡ true → Apart last gap now
apart_so None gap now e = tt
apart_so (Some t) gap now e = leb-true (t + gap) now e

not_soon : (last : Option ℕ) (gap now : ℕ) → apart last gap now ≡ true → Soon last gap now → ⊥
not_soon None gap now e s = s
not_soon (Some t) gap now e s = omega (arith, leb-true (t + gap) now e)

module _ (R : Rules) (fine : R.grain ≡ 1) where
  -- what a release does to mode and alarm
  record SetAsAsked (s : ℕ) (wait : Option ℕ) (w : View) : Type 0 where
    answer : wait ≡ Some (min s R.reach)
    alarm : w.alarm ≡ waiting (min s R.reach)
    mode : w.mode ≡ mode_for (min s R.reach)

  record LeftSo (mode₀ : Mode) (alarm₀ : Option ℕ) (wait : Option ℕ) (w : View) : Type 0 where
    answer : wait ≡ None
    alarm : w.alarm ≡ alarm₀
    mode : w.mode ≡ mode₀

  one_wait : (s : ℕ) (wait : Option ℕ) (w : View) → Asks R s wait w → SetAsAsked s wait w
  one_wait s None w k = absurd k
  one_wait s (Some m) w k =
      let e : m ≡ min s R.reach = omega (arith, k.most, k.near, fine) in
      record { answer = ap Some e; alarm = k.alarm ∙ ap waiting e; mode = k.mode ∙ ap mode_for e }

  asked_only : (m : Mode) (a : Option ℕ) (s : ℕ) (wait : Option ℕ) (w : View) → sleeping m ≡ true → asked a s ≡ true → Sets m a R s wait w → SetAsAsked s wait w
  asked_only Awake a s wait w p q k = absurd (false≢true p)
  asked_only Asleep None s wait w p q k = one_wait s wait w k
  asked_only Asleep (Some l) s wait w p q (inl k) = absurd (omega (arith, ltb-true s l q, k.0))
  asked_only Asleep (Some l) s wait w p q (inr k) = one_wait s wait w k.1

  kept_only : (m : Mode) (a : Option ℕ) (s : ℕ) (wait : Option ℕ) (w : View) → sleeping m ≡ true → asked a s ≡ false → Sets m a R s wait w → LeftSo m a wait w
  kept_only Awake a s wait w p q k = absurd (false≢true p)
  kept_only Asleep None s wait w p q k = absurd (true≢false q)
  kept_only Asleep (Some l) s wait w p q (inl k) = record { answer = k.1.unasked; alarm = k.1.alarm; mode = k.1.mode }
  kept_only Asleep (Some l) s wait w p q (inr k) = absurd (omega (arith, ltb-false s l q, k.0))

  asked_so : (m : Mode) (a : Option ℕ) (s k : ℕ) (w : View) → sleeping m ≡ true → asked a s ≡ true → Asked R s k w → Sets m a R s (Some k) w
  asked_so Awake a s k w p q x = absurd (false≢true p)
  asked_so Asleep None s k w p q x = x
  asked_so Asleep (Some l) s k w p q x = inr (ltb-true s l q, x)

  kept_so : (m : Mode) (a : Option ℕ) (s : ℕ) (w : View) → sleeping m ≡ true → asked a s ≡ false → w.alarm ≡ a → w.mode ≡ m → Sets m a R s None w
  kept_so Awake a s w p q x y = absurd (false≢true p)
  kept_so Asleep None s w p q x y = absurd (true≢false q)
  kept_so Asleep (Some l) s w p q x y = inl (ltb-false s l q, record { unasked = refl; alarm = x; mode = y })

  module _ (v : View) where
    module _ (row : ℕ) where
      wait_for : Bool → Option ℕ
      wait_for b = cond b (Some (answered R row)) None

      view_for : Bool → View
      view_for b = cond b (opened_in R v row (mode_for (answered R row)) (waiting (answered R row))) (opened_in R v row v.mode v.alarm)

      release_so : (b : Bool) → asked v.alarm (sleep_of R row) ≡ b → sleeping v.mode ≡ true → row < count R
          → Apart (slot_at v.slots row).last (task_of R row).gap v.now → Releases R v row (wait_for b) (view_for b)
      unfolding wait_for view_for
      release_so true e p l far =
          let k : Asked R (sleep_of R row) (answered R row) (view_for true) =
          record { most = omega arith; near = omega (arith, fine); alarm = refl; mode = refl } in
          record { listed = l; apart = far; now = refl; ran = refl; slept = refl; slots = refl; sets = asked_so v.mode v.alarm (sleep_of R row) (answered R row) (view_for true) p e k }
      release_so false e p l far =
          record { listed = l; apart = far; now = refl; ran = refl; slept = refl; slots = refl; sets = kept_so v.mode v.alarm (sleep_of R row) (view_for false) p e refl refl }

      release_only : (b : Bool) → asked v.alarm (sleep_of R row) ≡ b → sleeping v.mode ≡ true → (wait : Option ℕ) (w : View) → Releases R v row wait w
          → (wait ≡ wait_for b) × (w ≡ view_for b)
      unfolding wait_for view_for
      release_only true e p wait w k =
          let s = asked_only v.mode v.alarm (sleep_of R row) wait w p e k.sets in
          (s.answer, same_view w _ _ _ _ _ _ k.now k.ran k.slept s.mode k.slots s.alarm)
      release_only false e p wait w k =
          let s = kept_only v.mode v.alarm (sleep_of R row) wait w p e k.sets in
          (s.answer, same_view w _ _ _ _ _ _ k.now k.ran k.slept s.mode k.slots s.alarm)

    sleeps_so : (m : Mode) (a who : Option ℕ) (w : View) → sleeping m ≡ true → Sleeps who a v w → Works m a R who v w
    sleeps_so Asleep a who w p k = k
    sleeps_so Awake a who w p k = absurd (false≢true p)

    sleeps_only : (m : Mode) (a who : Option ℕ) (w : View) → sleeping m ≡ true → Works m a R who v w → Sleeps who a v w
    sleeps_only Asleep a who w p k = k
    sleeps_only Awake a who w p k = absurd (false≢true p)

    -- the computed step is one
    step_so : (call : Call) → fits R v call ≡ true → Step R v (entry_for R v call) (view_after R v call) × (call_of (entry_for R v call) ≡ call)
    unfolding wait_for view_for
    step_so (Release row) e =
        let a = and_parts (sleeping v.mode) _ e in
        let b = and_parts (ltb row (count R)) _ a.1 in
        (release_so row (asked v.alarm (sleep_of R row)) refl a.0 (ltb-true _ _ b.0) (apart_so _ _ _ b.1), refl)
    step_so Tick e =
        let a = and_parts (sleeping v.mode) (ltb v.now limit) e in
        let k : Sleeps None v.alarm v (view_after R v Tick) = record { nobody = refl; slots = refl; ran = refl; slept = refl; alarm = refl; mode = refl } in
        (record { early = ltb-true _ _ a.1; now = refl; rung = refl; works = sleeps_so v.mode v.alarm None (view_after R v Tick) a.0 k }, refl)
    step_so (Done row) e = absurd (false≢true (and_parts (sleeping v.mode) false e).1)
    step_so (Report row) e = absurd (false≢true (and_parts (sleeping v.mode) false e).1)

    Only : Call → Entry → View → Type 0
    Only call e w = (e ≡ entry_for R v call) × (w ≡ view_after R v call)

    -- and there is no other
    release_alone : (row : ℕ) → fits R v (Release row) ≡ true → (e : Entry) (w : View) → Step R v e w → call_of e ≡ Release row → Only (Release row) e w
    unfolding Only wait_for view_for
    release_alone row f (released r wait) w k q =
        let a = and_parts (sleeping v.mode) _ f in
        let same : r ≡ row = ap row_in q in
        let one = release_only row (asked v.alarm (sleep_of R row)) refl a.0 wait w (subst (λ x. Releases R v x wait w) same k) in
        (ap (λ x. released x wait) same ∙ ap (released row) one.0, one.1)
    release_alone row f (done r) w k q = absurd (apart_kinds (Done r) (Release row) q (λ z. omega arith))
    release_alone row f (ticked who rang) w k q = absurd (apart_kinds Tick (Release row) q (λ z. omega arith))
    release_alone row f (reported r status) w k q = absurd (apart_kinds (Report r) (Release row) q (λ z. omega arith))
    release_alone row f (refused call why) w k q = absurd (go (subst (λ x. Refuses R v x why) q k.0))
      where
        a : (sleeping v.mode ≡ true) × (fits_call R v (Release row) ≡ true)
        a = and_parts (sleeping v.mode) (fits_call R v (Release row)) f

        b : (ltb row (count R) ≡ true) × (apart (slot_at v.slots row).last (task_of R row).gap v.now ≡ true)
        b = and_parts (ltb row (count R)) (apart (slot_at v.slots row).last (task_of R row).gap v.now) a.1

        go : ((why ≡ NoSuchRow) × (count R ≤ row)) ⊎ ((why ≡ TooSoon) × (row < count R) × Soon (slot_at v.slots row).last (task_of R row).gap v.now) → ⊥
        go (inl x) = omega (arith, ltb-true _ _ b.0, x.1)
        go (inr x) = not_soon _ _ _ b.1 x.2

    tick_alone : fits R v Tick ≡ true → (e : Entry) (w : View) → Step R v e w → call_of e ≡ Tick → Only Tick e w
    unfolding Only
    tick_alone f (released r wait) w k q = absurd (apart_kinds (Release r) Tick q (λ z. omega arith))
    tick_alone f (done r) w k q = absurd (apart_kinds (Done r) Tick q (λ z. omega arith))
    tick_alone f (ticked who rang) w k q =
        let a = and_parts (sleeping v.mode) (ltb v.now limit) f in
        let s = sleeps_only v.mode v.alarm who w a.0 k.works in
        (ap (λ x. ticked x rang) s.nobody ∙ ap (ticked None) k.rung, same_view w _ _ _ _ _ _ k.now s.ran s.slept s.mode s.slots s.alarm)
    tick_alone f (reported r status) w k q = absurd (apart_kinds (Report r) Tick q (λ z. omega arith))
    tick_alone f (refused call why) w k q =
        let a = and_parts (sleeping v.mode) (ltb v.now limit) f in
        let x = subst (λ c. Refuses R v c why) q k.0 in
        absurd (omega (arith, ltb-true _ _ a.1, x.1))

    step_alone : (call : Call) → fits R v call ≡ true → (e : Entry) (w : View) → Step R v e w → call_of e ≡ call → Only call e w
    step_alone (Release row) f e w k q = release_alone row f e w k q
    step_alone Tick f e w k q = tick_alone f e w k q
    step_alone (Done row) f e w k q = absurd (false≢true (and_parts (sleeping v.mode) false f).1)
    step_alone (Report row) f e w k q = absurd (false≢true (and_parts (sleeping v.mode) false f).1)

    hushed_so : (call : Call) → fits R v call ≡ true → hushed v call ≡ true → Quiet call (answer_of (entry_for R v call))
    hushed_so (Release row) f h = refl
    hushed_so Tick f h = ap (λ rang. Ok (Ticked None rang)) (not-true (rings v.alarm) h)
    hushed_so (Done row) f h = false≢true (and_parts (sleeping v.mode) false f).1
    hushed_so (Report row) f h = false≢true (and_parts (sleeping v.mode) false f).1

  pub run_so : (calls : List Call) (v : View) → fit_all R v calls ≡ true → Runs R v (log_of R v calls) (end_of R v calls) × (calls_of (log_of R v calls) ≡ calls)
  unfolding fit_all log_of end_of
  run_so [] v f = (refl, refl)
  run_so (call ∷ calls) v f =
      let a = and_parts (fits R v call) (fit_all R (view_after R v call) calls) f in
      let s = step_so v call a.0 in
      let r = run_so calls (view_after R v call) a.1 in
      ((view_after R v call, s.0, r.0), ap (λ c. c ∷ calls_of (log_of R (view_after R v call) calls)) s.1 ∙ ap (λ cs. call ∷ cs) r.1)

  run_alone : (calls : List Call) (v : View) → fit_all R v calls ≡ true → (log : List Entry) (w : View) → Runs R v log w → calls_of log ≡ calls
      → (log ≡ log_of R v calls) × (w ≡ end_of R v calls)
  unfolding fit_all log_of end_of Only
  run_alone [] v f [] w k q = (refl, k)
  run_alone [] v f (e ∷ log) w k q = absurd (cons_nil q)
  run_alone (call ∷ calls) v f [] w k q = absurd (nil_cons q)
  run_alone (call ∷ calls) v f (e ∷ log) w (u, s, k) q =
      let a = and_parts (fits R v call) (fit_all R (view_after R v call) calls) f in
      let one = step_alone v call a.0 e u s (heads q) in
      let r = run_alone calls (view_after R v call) a.1 log w (subst (λ x. Runs R x log w) one.1 k) (tails q) in
      (ap (λ x. x ∷ log) one.0 ∙ ap (λ l. entry_for R v call ∷ l) r.0, r.1)

  quiet_so : (calls : List Call) (v : View) → fit_all R v calls ≡ true → hushed_all R v calls ≡ true → Quietly calls (answers_of (log_of R v calls))
  unfolding fit_all log_of hushed_all
  quiet_so [] v f h = tt
  quiet_so (call ∷ calls) v f h =
      let a = and_parts (fits R v call) (fit_all R (view_after R v call) calls) f in
      let b = and_parts (hushed v call) (hushed_all R (view_after R v call) calls) h in
      (hushed_so v call a.0 b.0, quiet_so calls (view_after R v call) a.1 b.1)

leaves_so : (a : Option ℕ) (left : ℕ) → leaves a left ≡ true → a ≡ Some left
leaves_so None left e = absurd (false≢true e)
leaves_so (Some n) left e = ap Some (eqb-true n left e)

leads_tells : (R : Rules) → R.grain ≡ 1 → (calls : List Call) (left : ℕ) → leads R calls left ≡ true → Leads R calls left
unfolding leads
leads_tells R fine calls left e =
    let v : View = fresh (count R) in
    let a = and_parts (fit_all R v calls) (hushed_all R v calls && leaves (end_of R v calls).alarm left) e in
    let b = and_parts (hushed_all R v calls) (leaves (end_of R v calls).alarm left) a.1 in
    let r = run_so R fine calls v a.0 in
    record {
      exists = (log_of R v calls, end_of R v calls, r.0, r.1);
      always = λ log w k q. let one = run_alone R fine calls v a.0 log w k q in (
        subst (λ l. Quietly calls (answers_of l)) (sym one.0) (quiet_so R fine calls v a.0 b.0),
        ap (λ (x : View). x.alarm) one.1 ∙ leaves_so (end_of R v calls).alarm left b.1,
      );
    }

pub leads_so : (tasks : List Task) (sleeps : List ℕ) (reach : ℕ) (calls : List Call) (left : ℕ) → leads (exact tasks sleeps reach) calls left ≡ true
    → Leads (exact tasks sleeps reach) calls left
leads_so tasks sleeps reach calls left e = leads_tells (exact tasks sleeps reach) refl calls left e
