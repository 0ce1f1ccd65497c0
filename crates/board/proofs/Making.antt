-- A new board is as the rules have it, and its plan is one that the promises ask for: so every run from it keeps them. A
-- list of calls, each answered by a step, is such a run.
use Rattle.std.proofs.Common.{◌≡◌, ℕ, ◌+◌, ◌<◌, ◌≤◌, List, [], ◌∷◌, ◌++◌, length, None, Option, Result, sym, refl, ap, ◌∙◌, subst, arith}
use Rattle.table.specs.Tasks.{task_at}
use Rattle.planner.specs.declared.plan.Plan.{Plan}
use Rattle.planner.specs.Demand.{need}
use Rattle.planner.specs.Sleeps.{sleep_at}
use Rattle.planner.specs.Plans.{planned, sleeps_of, period_of}
use Rattle.planner.proofs.Plans.{sleeps_count, plan_met}
use Rattle.refusal.specs.declared.cases.Refusal.{Refusal}
use Rattle.rules.specs.declared.calls.Call.{Call}
use Rattle.rules.specs.declared.calls.Answer.{Answer}
use Rattle.rules.specs.Views.{View, Rules, count, fresh}
use Rattle.rules.specs.Plans.{limit, Planned}
use Rattle.rules.specs.Steps.{Entry, Step, Runs}
use Rattle.rules.specs.Logs.{call_of, calls_of, answer_of, answers_of}
use Rattle.rules.specs.Promises.{Promise, Promised, Replayed}
use Rattle.rules.proofs.Promises.{promises_kept}
use Rattle.rules.proofs.Runs.{runs_more}
use Rattle.board.specs.declared.inner.Core.{Core}
use Rattle.alarm.specs.declared.base.Alarm.{Ghosts}
use Rattle.board.specs.declared.board.Board.{Board}
use Rattle.board.specs.Cores.{view, rules_for, New}
use Rattle.board.specs.Boards.{view_of, rules_of, Does, Acts, Built, Replays}

-- the window at which a sleep is met ends before the clock does
soon_enough : (t due gap h : ℕ) → t < due + h → due ≤ gap → gap ≤ 100000 → h ≤ 1000000 → t ≤ limit
soon_enough t due gap h a b c d = omega arith

pub plan_planned : (p : Plan) → Planned (planned p) (sleeps_of p)
plan_planned p =
    record {
      size = sleeps_count p;
      whole = p.rows.whole;
      rested = p.rested;
      met = met;
    }
  where
    met : (row : ℕ) → row < length (planned p)
        → (t : ℕ) × ((task_at (planned p) row).due ≤ t) × (t ≤ limit) × (sleep_at (sleeps_of p) row + need (planned p) t ≡ t)
    met row l =
        let m = plan_met p row l in
        (m.0, m.1, soon_enough m.0 (task_at (planned p) row).due (task_at (planned p) row).gap (period_of p) m.2 (p.rows.whole row l).2 (p.rows.bounded row l) p.rows.short, m.3)

pub new_view : (p : Plan) (c : Core) (a : Option ℕ) → New p c → a ≡ None → view c a ≡ fresh (length (planned p))
new_view p c a n e =
    let now = n.now in
    let ran = n.ran in
    let slept = n.slept in
    let mode = n.mode in
    let slots = n.slots in
    cc

pub promised : (p : Plan) (reach grain : ℕ) (v : View) (R : Rules) → v ≡ fresh (length (planned p)) → R ≡ rules_for p reach grain → Promised R v
promised p reach grain v R e q =
    subst (λ x. Promised x v) (sym q) (subst (Promised (rules_for p reach grain)) (sym e) (promises_kept (rules_for p reach grain) (plan_planned p)))

-- the calls made so far, with their answers
pub record Replaying (R : Rules) (v : View) (calls : List Call) (answers : List (Result Answer Refusal)) (w : View) : Type 0 where
  pub log : List Entry
  pub run : Runs R v log w
  pub made : calls_of log ≡ calls
  pub told : answers_of log ≡ answers

pub replaying_none : (R : Rules) (v : View) (answers : List (Result Answer Refusal)) → answers ≡ [] → Replaying R v [] answers v
replaying_none R v answers e = record { log = []; run = refl; made = refl; told = sym e }

calls_more : (log : List Entry) (e : Entry) → calls_of (log ++ (e ∷ [])) ≡ calls_of log ++ (call_of e ∷ [])
calls_more [] e = refl
calls_more (x ∷ log) e = ap (λ l. call_of x ∷ l) (calls_more log e)

answers_more : (log : List Entry) (e : Entry) → answers_of (log ++ (e ∷ [])) ≡ answers_of log ++ (answer_of e ∷ [])
answers_more [] e = refl
answers_more (x ∷ log) e = ap (λ l. answer_of x ∷ l) (answers_more log e)

-- one call more, made by the same rules
pub replaying_more : (R S : Rules) (v u w : View) (calls more : List Call) (answers told : List (Result Answer Refusal)) (call : Call) (answer : Result Answer Refusal) (e : Entry) → S ≡ R
    → Replaying R v calls answers u → call_of e ≡ call → answer_of e ≡ answer → Step S u e w
    → more ≡ calls ++ (call ∷ []) → told ≡ answers ++ (answer ∷ []) → Replaying R v more told w
replaying_more R S v u w calls more answers told call answer e q r made tells step p t =
    record {
      log = r.log ++ (e ∷ []);
      run = runs_more R r.log v u w e r.run (subst (λ x. Step x u e w) q step);
      made = calls_more r.log e ∙ (ap (λ l. l ++ (call_of e ∷ [])) r.made ∙ (ap (λ x. calls ++ (x ∷ [])) made ∙ sym p));
      told = answers_more r.log e ∙ (ap (λ l. l ++ (answer_of e ∷ [])) r.told ∙ (ap (λ x. answers ++ (x ∷ [])) tells ∙ sym t));
    }

pub replayed : (R S : Rules) (v w : View) (calls all : List Call) (answers : List (Result Answer Refusal)) → S ≡ R → v ≡ fresh (count R) → calls ≡ all
    → Replaying S v calls answers w → Promised S v → Replayed R all answers
replayed R S v w calls all answers q e p r promise =
    record {
      log = r.log;
      run = (w, subst (λ x. Runs x (fresh (count R)) r.log w) q (subst (λ x. Runs S x r.log w) e r.run));
      made = r.made ∙ p;
      told = r.told;
      promise = subst (λ x. Promise x r.log) q (promise r.log w r.run);
    }

module _ {X : Type 0} (alarm : Ghosts X) where
  acts_more : (calls : List Call) (answers : List (Result Answer Refusal)) (b u d : Board X) (call : Call) (answer : Result Answer Refusal) → Acts alarm b calls answers u → Does alarm u call answer d
      → Acts alarm b (calls ++ (call ∷ [])) (answers ++ (answer ∷ [])) d
  acts_more [] [] b u d call answer e does = (d, subst (λ x. Does alarm x call answer d) e does, refl)
  acts_more [] (a ∷ answers) b u d call answer e does = absurd e
  acts_more (c ∷ calls) [] b u d call answer e does = absurd e
  acts_more (c ∷ calls) (a ∷ answers) b u d call answer (x, first, rest) does = (x, first, acts_more calls answers x u d call answer rest does)

  -- the calls made so far lead from the board b to the board d
  pub record Acting (b : Board X) (calls : List Call) (answers : List (Result Answer Refusal)) (d : Board X) : Type 0 where
    pub rules : rules_of alarm d ≡ rules_of alarm b
    pub replaying : Replaying (rules_of alarm b) (view_of alarm b) calls answers (view_of alarm d)
    pub acts : Acts alarm b calls answers d

  pub acting_none : (b : Board X) (answers : List (Result Answer Refusal)) → answers ≡ [] → Acting b [] answers b
  acting_none b answers e =
      record {
        rules = refl;
        replaying = replaying_none (rules_of alarm b) (view_of alarm b) answers e;
        acts = subst (λ told. Acts alarm b [] told b) (sym e) refl;
      }

  pub acting_more : (b u d : Board X) (calls more : List Call) (answers told : List (Result Answer Refusal)) (call : Call) (answer : Result Answer Refusal) → Acting b calls answers u → Does alarm u call answer d
      → more ≡ calls ++ (call ∷ []) → told ≡ answers ++ (answer ∷ []) → Acting b more told d
  acting_more b u d calls more answers told call answer a does p t =
      record {
        rules = does.rules ∙ a.rules;
        replaying = replaying_more (rules_of alarm b) (rules_of alarm u) (view_of alarm b) (view_of alarm u) (view_of alarm d) calls more answers told call answer does.entry
            a.rules a.replaying does.made does.told does.step p t;
        acts = subst (λ cs. Acts alarm b cs told d) (sym p)
            (subst (λ xs. Acts alarm b (calls ++ (call ∷ [])) xs d) (sym t) (acts_more calls answers b u d call answer a.acts does));
      }

  pub replays : (plan : Plan) (x : X) (b d : Board X) (calls all : List Call) (answers : List (Result Answer Refusal)) → Built alarm plan x b → Promised (rules_of alarm b) (view_of alarm b)
      → calls ≡ all → Acting b calls answers d → Replays alarm plan x all answers
  replays plan x b d calls all answers built promise e a =
      record {
        replayed = replayed (rules_for plan (alarm.reach x) (alarm.grain x)) (rules_of alarm b) (view_of alarm b) (view_of alarm d) calls all answers built.rules built.view e a.replaying promise;
        first = b;
        built = built;
        last = d;
        acts = subst (λ cs. Acts alarm b cs answers d) e a.acts;
      }
