-- Each call of the board is one step of the rules: what it does to the core and what it does to the alarm, put together. The
-- wait that the alarm answered is the one that the step's entry names.
use Rattle.std.proofs.Common.{◌≡◌, ℕ, ◌<◌, ◌≤◌, Bool, IsTrue, eqb, ltb, ◌⊎◌, Some, None, Ok, Err, Option, Result, sym, refl, ap, ◌∙◌, subst, inl, inr, arith, MatchOption, MatchResult}
use Rattle.std.specs.Result.{IsErrAnd}
use Rattle.std.proofs.lemmas.Bool.{ltb-true, eq-eqb, ne_eqb, cond-true, cond-false}
use Rattle.alarm.specs.Effects.{Passed}
use Rattle.alarm.specs.Meaning.{onward, rings}
use Rattle.planner.specs.declared.plan.Plan.{Plan}
use Rattle.refusal.specs.declared.cases.Refusal.{Refusal}
use Rattle.refusal.specs.declared.cases.Refusal.TheVariants.{ClockEnd}
use Rattle.rules.specs.declared.slots.Mode.{Mode}
use Rattle.rules.specs.declared.slots.Mode.TheVariants.{Asleep, Awake}
use Rattle.rules.specs.declared.calls.Call.{Call}
use Rattle.rules.specs.declared.calls.Call.TheVariants.{Release, Done, Tick, Report}
use Rattle.rules.specs.declared.calls.Status.{Status}
use Rattle.rules.specs.declared.calls.Answer.{Answer}
use Rattle.rules.specs.declared.calls.Answer.TheVariants.{Released, Closed, Ticked, Reported}
use Rattle.rules.specs.Plans.{limit}
use Rattle.rules.specs.Views.{View, Rules, sleep_of}
use Rattle.rules.specs.Steps.{Entry.released, Entry.done, Entry.ticked, Entry.reported, Entry.refused, Asked, Sets, Settles, Idle, Busy, Works, Step, mode_for, mode_after}
use Rattle.rules.specs.Steps as steps
use Rattle.rules.proofs.Sane.{not_both}
use Rattle.board.specs.declared.inner.Core.{Core}
use Rattle.board.specs.Cores.{slots_of, view, rules_for, Refusing, Tells, Opens, Settled, Serves, Dozes, Shuts}
use Rattle.alarm.specs.declared.base.Alarm.{Ghosts}
use Rattle.board.specs.declared.board.Board.{Board}
use Rattle.board.specs.Boards.{rules_of, answer_for, Asking, Calmed, Passing, Arms, Does}

-- what a calmed alarm means: with no job open it is unset
abbrev Calms : Core → Option ℕ → Option ℕ → Type 0
Calms c a b = (Idle (slots_of c) × (b ≡ None)) ⊎ (Busy (slots_of c) × (b ≡ a))

module _ {X : Type 0} (alarm : Ghosts X) where
  pub calms : (c : Core) (x y : X) → Calmed alarm (slots_of c) x y → Calms c (alarm.meaning x) (alarm.meaning y)
  calms c x y (inl k) = inl (k.0, k.1.0)
  calms c x y (inr k) = inr (k.0, ap alarm.meaning k.1)

  -- the core stays when its alarm is calmed
  pub calmed_by : (c d : Core) (x y : X) → c ≡ d → Calmed alarm (slots_of d) x y → Calmed alarm (slots_of c) x y
  calmed_by c d x y e k = subst (λ (z : Core). Calmed alarm (slots_of z) x y) (sym e) k

  pub passing : (m n : Mode) (c : Core) (x y : X) → m ≡ n → Passing alarm n (slots_of c) x y → Passing alarm m (slots_of c) x y
  passing m n c x y e k = subst (λ z. Passing alarm z (slots_of c) x y) (sym e) k

-- a closing settles the board and its alarm
settles : (d : Core) (m : Mode) (a b : Option ℕ) → Settled m d → Calms d a b → Settles m a (view d b)
settles d m a b (inl s) (inl k) = inl (s.0, s.1, k.1)
settles d m a b (inl s) (inr k) = absurd (not_both (slots_of d) s.0 k.0)
settles d m a b (inr s) (inl k) = absurd (not_both (slots_of d) k.0 s.0)
settles d m a b (inr s) (inr k) = inr (s.0, s.1, k.1)

-- a wait of 0 wakes the board, and no other does
pub wakes_at : (m : ℕ) (x : Mode) → m ≡ 0 → x ≡ Awake → x ≡ mode_for m
wakes_at m x e q = q ∙ sym (cond-true (eqb m 0) Awake Asleep (eq-eqb m 0 e))

pub sleeps_at : (m : ℕ) (x : Mode) → (m ≡ 0 → ⊥) → x ≡ Asleep → x ≡ mode_for m
sleeps_at m x e q = q ∙ sym (cond-false (eqb m 0) Awake Asleep (ne_eqb m 0 e))

-- o is what the alarm said of the ticks left, and later that it is unset or has more left than the sleep
pub unset_or_more : (a o : Option ℕ) (s : ℕ) (later : Bool) → o ≡ a → MatchOption o (IsTrue later) (λ l. later ≡ ltb s l) → IsTrue later
    → (a ≡ None) ⊎ ((l : ℕ) × (a ≡ Some l) × (s < l))
unset_or_more a None s later e m t = inl (sym e)
unset_or_more a (Some l) s later e m t = inr (l, sym e, ltb-true s l (sym m ∙ t))

-- the alarm was unset or had more left, and was set
pub sets : (R : Rules) (a : Option ℕ) (s m : ℕ) (w : View) → Asked R s m w → (a ≡ None) ⊎ ((l : ℕ) × (a ≡ Some l) × (s < l)) → Sets Asleep a R s (Some m) w
sets R a s m w asked (inl e) = subst (λ x. Sets Asleep x R s (Some m) w) (sym e) asked
sets R a s m w asked (inr (l, e, h)) = subst (λ x. Sets Asleep x R s (Some m) w) (sym e) (inr (h, asked))

pub same_rules : (p q : Plan) (r s g h : ℕ) → p ≡ q → r ≡ s → g ≡ h → rules_for p r g ≡ rules_for q s h
same_rules p q r s g h a b c = cc

module _ (reach grain : ℕ) (c : Core) (a : Option ℕ) where
  abbrev R : Rules
  R = rules_for c.plan reach grain

  pub refuses : (call : Call) (why : Refusal) (d : Core) → Refusing c call why → d ≡ c → Step R (view c a) (refused call why) (view d a)
  refuses call why d h e = (h reach grain a, ap (λ x. view x a) e)

  pub ends : limit ≤ c.now → Step R (view c a) (refused Tick ClockEnd) (view c a)
  ends h = ((refl, h), refl)

  pub reports : (row : ℕ) (status : Status) → Tells c row status → Step R (view c a) (reported row status) (view c a)
  reports row status t = record { listed = t.0; tells = t.1 a; same = refl }

  pub releases_awake : (row sleep : ℕ) (d : Core) → c.mode ≡ Awake → Opens c row sleep d → Step R (view c a) (released row None) (view d a)
  releases_awake row sleep d m o =
      record {
        listed = o.listed;
        apart = o.apart;
        now = o.now;
        ran = o.ran;
        slept = o.slept;
        slots = o.slots;
        sets = subst (λ x. Sets x a R (sleep_of R row) None (view d a)) (sym m) (record { unasked = refl; alarm = refl; mode = o.mode ∙ m });
      }

  -- d: the job is open; e: the alarm was asked or not
  pub releases_asleep : (row sleep : ℕ) (wait : Option ℕ) (d e : Core) (b : Option ℕ) → c.mode ≡ Asleep → Opens c row sleep d
      → e.now ≡ d.now → e.ran ≡ d.ran → e.slept ≡ d.slept → slots_of e ≡ slots_of d → Sets Asleep a (rules_for d.plan reach grain) sleep wait (view e b)
      → Step R (view c a) (released row wait) (view e b)
  releases_asleep row sleep wait d e b m o now ran slept slots k =
      record {
        listed = o.listed;
        apart = o.apart;
        now = now ∙ o.now;
        ran = ran ∙ o.ran;
        slept = slept ∙ o.slept;
        slots = slots ∙ o.slots;
        sets = subst (λ x. Sets x a R (sleep_of R row) wait (view e b)) (sym m)
            (subst (λ s. Sets Asleep a R s wait (view e b)) o.waits (subst (λ p. Sets Asleep a (rules_for p reach grain) sleep wait (view e b)) o.plan k));
      }

  pub ticks_asleep : (rang : Bool) (d : Core) (b : Option ℕ) → c.mode ≡ Asleep → c.now < limit
      → rang ≡ rings a → b ≡ onward a → Dozes c rang d → Step R (view c a) (ticked None rang) (view d b)
  ticks_asleep rang d b m l rung left z =
      record {
        early = l;
        now = z.now;
        rung = rung;
        works = subst (λ x. Works x a R None (view c a) (view d b)) (sym m)
            (record { nobody = refl; slots = z.slots; ran = z.ran; slept = z.slept; alarm = left; mode = z.mode ∙ ap mode_after rung });
      }

  serves : (who : Option ℕ) (d : Core) (f : Option ℕ) → Serves c who d → Settles Awake (onward a) (view d f) → steps.Serves who a R (view c a) (view d f)
  serves None d f s k = record { idle = s.gives.idle; slots = s.gives.slots; ran = s.gives.ran; slept = s.slept; settles = k }
  serves (Some row) d f s k =
      let g = s.gives in
      (g.0, record { chosen = g.1.chosen; slots = g.1.slots; ran = g.1.ran; slept = s.slept; settles = k })

  pub ticks_awake : (who : Option ℕ) (rang : Bool) (d e : Core) (b f : Option ℕ) → c.mode ≡ Awake → c.now < limit
      → rang ≡ rings a → b ≡ onward a → Serves c who d → e ≡ d → Calms d b f → Step R (view c a) (ticked who rang) (view e f)
  ticks_awake who rang d e b f m l rung left s same k =
      let settled : Settles Awake (onward a) (view d f) =
      subst (λ x. Settles Awake x (view d f)) left (settles d Awake b f (subst (λ x. Settled x d) m s.settled) k) in
      subst (λ x. Step R (view c a) (ticked who rang) (view x f)) (sym same) (record {
        early = l;
        now = s.now;
        rung = rung;
        works = subst (λ x. Works x a R who (view c a) (view d f)) (sym m) (serves who d f s settled);
      })

  pub closes : (row : ℕ) (d e : Core) (f : Option ℕ) → Shuts c row d → e ≡ d → Calms d a f → Step R (view c a) (done row) (view e f)
  closes row d e f s same k =
      subst (λ x. Step R (view c a) (done row) (view x f)) (sym same) (record {
        listed = s.listed;
        begun = s.begun;
        now = s.now;
        ran = s.ran;
        slept = s.slept;
        slots = s.slots;
        settles = settles d c.mode a f s.settled k;
      })

-- each call of a board, from what its core and its alarm did
module _ {X : Type 0} (alarm : Ghosts X) (b : Board X) (call : Call) where
  abbrev reach : ℕ
  reach = alarm.reach b.alarm

  abbrev grain : ℕ
  grain = alarm.grain b.alarm

  abbrev left : Option ℕ
  left = alarm.meaning b.alarm

  pub turned_away : (asked : Call) (why : Refusal) (r : Result Answer Refusal) (d : Core) → call ≡ asked → IsErrAnd r (λ e. e ≡ why)
      → Refusing b.core asked why → d ≡ b.core → Does alarm b call r (record { core = d; alarm = b.alarm })
  turned_away asked why (Ok x) d q e h same = absurd e
  turned_away asked why (Err y) d q e h same =
      record {
        entry = refused asked why;
        made = sym q;
        told = ap Err (sym e);
        step = refuses reach grain b.core left asked why d h same;
        rules = ap (λ (x : Core). rules_for x.plan reach grain) same;
        handles = refl;
      }

  pub opened_asleep : (row sleep : ℕ) (d : Core) (e : Board X) → call ≡ Release row → b.core.mode ≡ Asleep → Opens b.core row sleep d
      → Arms alarm (record { core = d; alarm = b.alarm }) sleep e → Does alarm b call (Ok Released) e
  opened_asleep row sleep d e q m o k =
      record {
        entry = released row k.wait;
        made = sym q;
        told = refl;
        step = releases_asleep reach grain b.core left row sleep k.wait d e.core (alarm.meaning e.alarm) m o k.now k.ran k.slept k.slots k.sets;
        rules = k.rules ∙ same_rules _ _ _ _ _ _ o.plan refl refl;
        handles = subst (λ n. Asking alarm n k.wait b.alarm e.alarm) o.waits k.asking;
      }

  pub opened_awake : (row sleep : ℕ) (d : Core) → call ≡ Release row → b.core.mode ≡ Awake → Opens b.core row sleep d
      → Does alarm b call (Ok Released) (record { core = d; alarm = b.alarm })
  opened_awake row sleep d q m o =
      record {
        entry = released row None;
        made = sym q;
        told = refl;
        step = releases_awake reach grain b.core left row sleep d m o;
        rules = same_rules _ _ _ _ _ _ o.plan refl refl;
        handles = refl;
      }

  -- d: a tick is slept through, and the ring has woken the board
  pub dozed : (rang : Bool) (d : Core) (y : X) → call ≡ Tick → b.core.mode ≡ Asleep → rang ≡ rings left → Passed alarm b.alarm y → Dozes b.core rang d
      → Does alarm b call (Ok (Ticked None rang)) (record { core = d; alarm = y })
  dozed rang d y q m rung p z =
      record {
        entry = ticked None rang;
        made = sym q;
        told = refl;
        step = ticks_asleep reach grain b.core left rang d (alarm.meaning y) m (omega (arith, z.now, d.clock)) rung p.0 z;
        rules = same_rules _ _ _ _ _ _ z.plan p.1 p.2;
        handles = (y, p, passing alarm b.core.mode Asleep d y y m refl);
      }

  -- d: a job got the tick; e: the alarm is calmed
  pub served : (who : Option ℕ) (rang : Bool) (d : Core) (y : X) (e : Board X) → call ≡ Tick → b.core.mode ≡ Awake → rang ≡ rings left → Passed alarm b.alarm y
      → Serves b.core who d → e.core ≡ d → Calmed alarm (slots_of d) y e.alarm → rules_of alarm e ≡ rules_for d.plan (alarm.reach y) (alarm.grain y)
      → Does alarm b call (Ok (Ticked who rang)) e
  served who rang d y e q m rung p s same k r =
      record {
        entry = ticked who rang;
        made = sym q;
        told = refl;
        step = ticks_awake reach grain b.core left who rang d e.core (alarm.meaning y) (alarm.meaning e.alarm) m (omega (arith, s.now, d.clock)) rung p.0 s same
            (calms alarm d y e.alarm k);
        rules = r ∙ same_rules _ _ _ _ _ _ s.plan p.1 p.2;
        handles = (y, p, passing alarm b.core.mode Awake e.core y e.alarm m (calmed_by alarm e.core d y e.alarm same k));
      }

  -- d: the job is closed; e: the alarm is calmed
  pub shut : (row : ℕ) (d : Core) (e : Board X) → call ≡ Done row → Shuts b.core row d → e.core ≡ d → Calmed alarm (slots_of d) b.alarm e.alarm
      → rules_of alarm e ≡ rules_for d.plan reach grain → Does alarm b call (Ok Closed) e
  shut row d e q s same k r =
      record {
        entry = done row;
        made = sym q;
        told = refl;
        step = closes reach grain b.core left row d e.core (alarm.meaning e.alarm) s same (calms alarm d b.alarm e.alarm k);
        rules = r ∙ same_rules _ _ _ _ _ _ s.plan refl refl;
        handles = calmed_by alarm e.core d b.alarm e.alarm same k;
      }

  pub told_of : (row : ℕ) (status : Status) → call ≡ Report row → Tells b.core row status → Does alarm b call (Ok (Reported status)) b
  told_of row status q t =
      record {
        entry = reported row status;
        made = sym q;
        told = refl;
        step = reports reach grain b.core left row status t;
        rules = refl;
        handles = refl;
      }

-- a report is made of the board as it is
pub reports_any : {X : Type 0} (alarm : Ghosts X) (b : Board X) (row : ℕ) (r : Result Status Refusal) → MatchResult r (Tells b.core row) (Refusing b.core (Report row))
    → Does alarm b (Report row) (answer_for Reported r) b
reports_any alarm b row (Ok status) h = told_of alarm b (Report row) row status refl h
reports_any alarm b row (Err why) h = turned_away alarm b (Report row) (Report row) why (Err why) b.core refl refl h refl
