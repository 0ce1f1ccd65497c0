-- What a list of calls for C answers and writes. Assumes nothing.
--   Answered                       the calls were made on a new board over an alarm, and what each answered stands in its place
--   Over                           the same over an alarm, or over it under a ramp, if its warm-up is within its limit
--   told                           the number of what was made, or refused
--   Piled                          the same over the alarm of a number: a counter, a divider, or a top-up over a divider
--   no_such_alarm, too_few_places  what is answered for another alarm, and for more calls than places
--   Unmade                         why no call was made
--   Called                         the whole promise
use Rattle.std.specs.Prelude.{◌≡◌, ℕ, ◌<◌, ◌≤◌, ◌⊎◌, List, map, length, take, drop, Ok, Err, Result}
use Rattle.refusal.specs.declared.cases.Refusal.{Refusal}
use Rattle.refusal.specs.declared.cases.Refusal.TheVariants.{WarmUpLimit}
use Rattle.refusal.specs.Records.{number_of}
use Rattle.alarm.specs.declared.base.Alarm.{Ghosts}
use Rattle.alarm.specs.declared.counter.Counter.{Counter}
use Rattle.alarm.specs.declared.divider.Divider.{Divider}
use Rattle.alarm.specs.declared.ramp.Ramp.{Ramp}
use Rattle.alarm.specs.declared.topup.TopUp.{TopUp}
use Rattle.alarm.specs.contracts.counter.Counter as the_counter
use Rattle.alarm.specs.contracts.counter.CounterAlarm.TheImpl as counter
use Rattle.alarm.specs.contracts.divider.Divider as the_divider
use Rattle.alarm.specs.contracts.divider.DividerAlarm.TheImpl as divider
use Rattle.alarm.specs.contracts.ramp.RampAlarm.TheImpl as ramp
use Rattle.alarm.specs.contracts.topup.TopUp as the_topup
use Rattle.alarm.specs.contracts.topup.TopUpAlarm.TheImpl as topup
use Rattle.alarm.specs.Effects.{Cleared}
use Rattle.alarm.specs.Warming.{warm_up_limit}
use Rattle.planner.specs.declared.plan.Plan.{Plan}
use Rattle.planner.specs.Texts.{answer_to, Filled}
use Rattle.rules.specs.declared.calls.Answer.{Answer}
use Rattle.board.specs.Boards.{Replays}
use Rattle.board_c.specs.declared.record.AnswerRecord.{AnswerRecord}
use Rattle.board_c.specs.Codes.{decoded, encoded}

-- over the alarm x; what stood past the records stays
pub record Answered {X : Type 0} (alarm : Ghosts X) (plan : Plan) (x : X) (codes : List ℕ) (before after : List AnswerRecord) : Type 0 where
  pub answers : List (Result Answer Refusal)
  pub replays : Replays alarm plan x (map decoded codes) answers
  pub written : take (length codes) after ≡ map encoded answers
  pub rest : drop (length codes) after ≡ drop (length codes) before

-- a new ramp of this warm-up over an alarm, which it cleared
pub record Warmed {X : Type 0} (below : Ghosts X) (x : X) (warm : ℕ) (y : Ramp X) : Type 0 where
  pub lasts : y.warm ≡ warm
  pub cleared : Cleared below x y.below

-- no ramp stands over the alarm where the warm-up is 0
abbrev pub Over : {X : Type 0} → Ghosts X → Ghosts (Ramp X) → Plan → X → ℕ → List ℕ → List AnswerRecord → ℕ → List AnswerRecord → Type 0
Over {X} below above plan x warm codes before number after =
    ((number ≡ 0) × (warm ≡ 0) × Answered below plan x codes before after)
    ⊎ (((number ≡ 0) × (1 ≤ warm) × (warm ≤ warm_up_limit) × ((y : Ramp X) × Warmed below x warm y × Answered above plan y codes before after))
    ⊎ ((number ≡ number_of WarmUpLimit) × (warm_up_limit < warm) × (after ≡ before)))

-- the number that is told of what was made, or refused
abbrev pub told : Result (Unit {0}) Refusal → ℕ
told (Ok _) = 0
told (Err e) = number_of e

abbrev pub ramp_over_counter : Ghosts (Ramp Counter)
ramp_over_counter = ramp.ghosts the_counter.the_row counter.ghosts counter.dict

abbrev pub ramp_over_divider : Ghosts (Ramp Divider)
ramp_over_divider = ramp.ghosts the_divider.the_row divider.ghosts divider.dict

abbrev pub top_up_over_divider : Ghosts (TopUp Divider)
top_up_over_divider = topup.ghosts the_divider.the_row divider.ghosts divider.dict

abbrev pub ramp_over_top_up : Ghosts (Ramp (TopUp Divider))
ramp_over_top_up = ramp.ghosts (the_topup.the_row the_divider.the_row) top_up_over_divider (topup.dict the_divider.the_row divider.ghosts divider.dict)

-- a divider is at phase 0
abbrev pub Piled : ℕ → Plan → ℕ → List ℕ → List AnswerRecord → ℕ → List AnswerRecord → Type 0
Piled alarm plan warm codes before number after =
    ((alarm ≡ 0) × ((x : Counter) × Over counter.ghosts ramp_over_counter plan x warm codes before number after))
    ⊎ (((alarm ≡ 1) × ((x : Divider) × (x.phase ≡ 0) × Over divider.ghosts ramp_over_divider plan x warm codes before number after))
    ⊎ ((alarm ≡ 2) × ((x : TopUp Divider) × (x.below.phase ≡ 0) × Over top_up_over_divider ramp_over_top_up plan x warm codes before number after)))

abbrev pub no_such_alarm : ℕ
no_such_alarm = 100

abbrev pub too_few_places : ℕ
too_few_places = 101

-- the questions, asked in turn: is there a place for each answer, is the text accepted, is the alarm known
abbrev pub Unmade : List ℕ → ℕ → List ℕ → List AnswerRecord → ℕ → Type 0
Unmade text alarm codes before number =
    ((number ≡ too_few_places) × (length before < length codes))
    ⊎ (((e : Refusal) × (number ≡ number_of e) × (length codes ≤ length before) × (answer_to text ≡ Err e))
    ⊎ ((number ≡ no_such_alarm) × (length codes ≤ length before) × ((sleeps : List ℕ) × (answer_to text ≡ Ok sleeps)) × (2 < alarm)))

-- the calls are made over the plan of the text, unless the warm-up is refused
pub record Made (text : List ℕ) (alarm warm : ℕ) (codes : List ℕ) (before : List AnswerRecord) (number : ℕ) (after : List AnswerRecord) : Type 0 where
  pub places : length codes ≤ length before
  pub plan : Plan
  pub filled : Filled {A = Unit {0}} text (Ok tt) plan
  pub piled : Piled alarm plan warm codes before number after

abbrev pub Called : List ℕ → ℕ → ℕ → List ℕ → List AnswerRecord → ℕ → List AnswerRecord → Type 0
Called text alarm warm codes before number after =
    (Unmade text alarm codes before number × (after ≡ before)) ⊎ Made text alarm warm codes before number after
