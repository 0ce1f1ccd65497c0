-- A board over an alarm, and what its calls do. Assumes nothing.
--   view_of, rules_of   what is seen of a board, and the rules that it goes by
--   answer_for          what a call answered, from what its function returned
--   Asking              what becomes of the alarm in a release
--   Calmed              what becomes of it when a job may have closed
--   Handles             what a step does to the alarm, by the alarm's own effects
--   Does                a call leads from one board to another: one step of the rules, with its answer
--   Acts                a list of calls leads from one board to another, with these answers
--   Built               a new board over a plan and an alarm, which it cleared
--   Replays             a list of calls, made on a new board: what they answer, by the alarm's own effects, and the promise
--   Arms                the part of a release that concerns the alarm
use Rattle.std.specs.Prelude.{◌≡◌, ℕ, ◌⊎◌, List, [], ◌∷◌, length, Some, None, Ok, Err, Option, Result}
use Rattle.alarm.specs.declared.base.Alarm.{Ghosts}
use Rattle.alarm.specs.Effects.{SetTo, Cleared, Passed}
use Rattle.refusal.specs.declared.cases.Refusal.{Refusal}
use Rattle.rules.specs.declared.slots.Mode.{Mode}
use Rattle.rules.specs.declared.slots.Mode.TheVariants.{Asleep, Awake}
use Rattle.rules.specs.declared.slots.Slot.{Slot}
use Rattle.rules.specs.declared.calls.Call.{Call}
use Rattle.rules.specs.declared.calls.Answer.{Answer}
use Rattle.planner.specs.declared.plan.Plan.{Plan}
use Rattle.planner.specs.Plans.{planned}
use Rattle.rules.specs.Views.{View, Rules, sleep_of, fresh}
use Rattle.rules.specs.Steps.{Entry, Entry.released, Entry.done, Entry.ticked, Entry.reported, Entry.refused, Idle, Busy, Sets, Step}
use Rattle.rules.specs.Logs.{call_of, answer_of}
use Rattle.rules.specs.Promises.{Replayed}
use Rattle.board.specs.declared.board.Board.{Board}
use Rattle.board.specs.Cores.{view, rules_for}

-- the answer that stands for what an accepted call's function returned
abbrev pub answer_for : {X : Type 0} → (X → Answer) → Result X Refusal → Result Answer Refusal
answer_for accepted (Ok x) = Ok (accepted x)
answer_for accepted (Err why) = Err why

module _ {X : Type 0} (alarm : Ghosts X) where
  abbrev pub view_of : Board X → View
  view_of b = view b.core (alarm.meaning b.alarm)

  abbrev pub rules_of : Board X → Rules
  rules_of b = rules_for b.core.plan (alarm.reach b.alarm) (alarm.grain b.alarm)

  -- without a wait the alarm stays; otherwise it was set to n and answered the wait
  abbrev pub Asking : ℕ → Option ℕ → X → X → Type 0
  Asking n None x y = y ≡ x
  Asking n (Some m) x y = SetTo alarm x n m y

  -- with no job open it is cleared, and otherwise it stays
  abbrev pub Calmed : List Slot → X → X → Type 0
  Calmed slots x y = (Idle slots × Cleared alarm x y) ⊎ (Busy slots × (y ≡ x))

  -- after the pass of a tick: only awake may a job have closed
  abbrev pub Passing : Mode → List Slot → X → X → Type 0
  Passing Asleep slots x y = y ≡ x
  Passing Awake slots x y = Calmed slots x y

  -- from the view v, where the alarm is x, to the view w, where it is y; every accepted tick is passed to it once
  abbrev pub Handles : Rules → View → Entry → View → X → X → Type 0
  Handles R v (released row wait) w x y = Asking (sleep_of R row) wait x y
  Handles R v (done row) w x y = Calmed w.slots x y
  Handles R v (ticked who rang) w x y = (z : X) × Passed alarm x z × Passing v.mode w.slots z y
  Handles R v (reported row status) w x y = y ≡ x
  Handles R v (refused call why) w x y = y ≡ x

  -- the wait that the alarm answered stands in the entry
  pub record Does (b : Board X) (call : Call) (answer : Result Answer Refusal) (d : Board X) : Type 0 where
    pub entry : Entry
    pub made : call_of entry ≡ call
    pub told : answer_of entry ≡ answer
    pub step : Step (rules_of b) (view_of b) entry (view_of d)
    pub rules : rules_of d ≡ rules_of b
    pub handles : Handles (rules_of b) (view_of b) entry (view_of d) b.alarm d.alarm

  abbrev pub Acts : Board X → List Call → List (Result Answer Refusal) → Board X → Type 0
  Acts b [] [] d = d ≡ b
  Acts b [] (answer ∷ answers) d = ⊥
  Acts b (call ∷ calls) [] d = ⊥
  Acts b (call ∷ calls) (answer ∷ answers) d = (u : Board X) × Does b call answer u × Acts u calls answers d

  pub record Built (plan : Plan) (x : X) (b : Board X) : Type 0 where
    pub view : view_of b ≡ fresh (length (planned plan))
    pub rules : rules_of b ≡ rules_for plan (alarm.reach x) (alarm.grain x)
    pub cleared : Cleared alarm x b.alarm

  -- what an alarm's own effects leave open, they leave open here, and nothing else
  pub record Replays (plan : Plan) (x : X) (calls : List Call) (answers : List (Result Answer Refusal)) : Type 0 where
    pub replayed : Replayed (rules_for plan (alarm.reach x) (alarm.grain x)) calls answers
    pub first : Board X
    pub built : Built plan x first
    pub last : Board X
    pub acts : Acts first calls answers last

  -- a sleeping board whose released row has the sleep s
  pub record Arms (b : Board X) (s : ℕ) (d : Board X) : Type 0 where
    pub wait : Option ℕ
    pub now : (view_of d).now ≡ (view_of b).now
    pub ran : (view_of d).ran ≡ (view_of b).ran
    pub slept : (view_of d).slept ≡ (view_of b).slept
    pub slots : (view_of d).slots ≡ (view_of b).slots
    pub sets : Sets Asleep (view_of b).alarm (rules_of b) s wait (view_of d)
    pub rules : rules_of d ≡ rules_of b
    pub asking : Asking s wait b.alarm d.alarm
