-- Each call adds a step to the run and its record to those written. What is written so far is the front of the answers,
-- and their rest is as it was.
use Rattle.std.proofs.Common.{◌≡◌, ℕ, ◌+◌, ◌<◌, ◌≤◌, List, [], ◌∷◌, ◌++◌, map, length, get_or, take, drop, set, Result, sym, refl, ap, ◌∙◌, subst, le_refl, arith}
use native.Mathlib.Numerals.{lt-add-one}
use Rattle.std.proofs.lemmas.List.{take_more_set, drop-set-lt, drop-drop, map_push, map_more, take_all}
use Rattle.alarm.specs.declared.base.Alarm.{Ghosts}
use Rattle.refusal.specs.declared.cases.Refusal.{Refusal}
use Rattle.planner.specs.declared.plan.Plan.{Plan}
use Rattle.rules.specs.declared.calls.Call.{Call}
use Rattle.rules.specs.declared.calls.Answer.{Answer}
use Rattle.rules.specs.Promises.{Promised}
use Rattle.board.specs.declared.board.Board.{Board}
use Rattle.board.specs.Boards.{view_of, rules_of, Does, Built}
use Rattle.board.proofs.Making.{Acting, acting_more, replays}
use Rattle.board_c.specs.declared.record.AnswerRecord.{AnswerRecord}
use Rattle.board_c.specs.Codes.{decoded, encoded}
use Rattle.board_c.specs.Called.{Answered}

-- every call has its place
pub within : (i n m k : ℕ) → i < n → n ≤ m → k ≡ m → i < k
within i n m k a b c = omega arith

pub at_end : (i n : ℕ) → n ≤ i → i ≤ n → i ≡ n
at_end i n a b = omega arith

rest_more : (i : ℕ) (before after : List AnswerRecord) (y : AnswerRecord) → drop i after ≡ drop i before
    → drop (i + 1) (set after i y) ≡ drop (i + 1) before
rest_more i before after y e =
    drop-set-lt (i + 1) after i y (lt-add-one i) ∙ (sym (drop-drop 1 i after) ∙ (ap (drop 1) e ∙ drop-drop 1 i before))

module _ {X : Type 0} (alarm : Ghosts X) where
  -- the first i calls are made, and lead from the board b to the board d
  pub record Answering (b : Board X) (i : ℕ) (codes : List ℕ) (before after : List AnswerRecord) (d : Board X) : Type 0 where
    pub answers : List (Result Answer Refusal)
    pub acting : Acting alarm b (map decoded (take i codes)) answers d
    pub written : take i after ≡ map encoded answers
    pub rest : drop i after ≡ drop i before

  pub answering_more : (b u d : Board X) (i : ℕ) (codes : List ℕ) (before after : List AnswerRecord) (call : Call) (answer : Result Answer Refusal) (y : AnswerRecord)
      → i < length codes → i < length after → Answering b i codes before after u → call ≡ decoded (get_or codes i 0) → Does alarm u call answer d → y ≡ encoded answer
      → Answering b (i + 1) codes before (set after i y) d
  answering_more b u d i codes before after call answer y l k a asked does told =
      let more : map decoded (take (i + 1) codes) ≡ map decoded (take i codes) ++ (call ∷ []) =
      map_more decoded codes i 0 l ∙ ap (λ x. map decoded (take i codes) ++ (x ∷ [])) (sym asked) in
      record {
        answers = a.answers ++ (answer ∷ []);
        acting = acting_more alarm b u d _ _ a.answers _ call answer a.acting does more refl;
        written = take_more_set after i y k
            ∙ (ap (λ x. take i after ++ (x ∷ [])) told ∙ (ap (λ x. x ++ (encoded answer ∷ [])) a.written ∙ sym (map_push encoded a.answers answer)));
        rest = rest_more i before after y a.rest;
      }

  pub answered : (plan : Plan) (x : X) (b d : Board X) (i : ℕ) (codes : List ℕ) (before after : List AnswerRecord) → Built alarm plan x b
      → Promised (rules_of alarm b) (view_of alarm b) → i ≡ length codes → Answering b i codes before after d → Answered alarm plan x codes before after
  answered plan x b d i codes before after built promise n a =
      let all : map decoded (take i codes) ≡ map decoded codes =
      ap (λ k. map decoded (take k codes)) n ∙ ap (map decoded) (take_all (length codes) codes (le_refl (length codes))) in
      record {
        answers = a.answers;
        replays = replays alarm plan x b d _ (map decoded codes) a.answers built promise all a.acting;
        written = subst (λ k. take k after ≡ map encoded a.answers) n a.written;
        rest = subst (λ k. drop k after ≡ drop k before) n a.rest;
      }
