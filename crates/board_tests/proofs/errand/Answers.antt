-- The two steps are a run from the new board, by the same rules.
use Rattle.std.proofs.Common.{◌≡◌, List, [], ◌∷◌, Result, refl, subst, rules}
use Rattle.refusal.specs.declared.cases.Refusal.{Refusal}
use Rattle.alarm.specs.declared.base.Alarm.{Ghosts}
use Rattle.rules.specs.declared.calls.Call.{Call}
use Rattle.rules.specs.declared.calls.Call.TheVariants.{Release, Tick}
use Rattle.rules.specs.declared.calls.Answer.{Answer}
use Rattle.rules.specs.Views.{Rules}
use Rattle.rules.specs.Steps.{Entry, Step}
use Rattle.rules.specs.Logs.{calls_of}
use Rattle.rules.specs.Promises.{Promise, Promised}
use Rattle.board.specs.declared.board.Board.{Board}
use Rattle.board.specs.Boards.{Does, view_of, rules_of}
use Rattle.board.specs.Cores.{rules_for}
use Rattle.board_tests.proofs.errand.Goals as goal

-- a log of these two calls, which keeps the promise
record Kept (R : Rules) (a b : Call) : Type 0 where
  log : List Entry
  made : calls_of log ≡ a ∷ b ∷ []
  promise : Promise R log

module _ {X : Type 0} (alarm : Ghosts X) where
  two_steps : (R : Rules) (u : Board X) → rules_of alarm u ≡ R → Promised (rules_of alarm u) (view_of alarm u) → (a b : Call) (x y : Result Answer Refusal) (v w : Board X)
      → Does alarm u a x v → Does alarm v b y w → Kept R a b
  two_steps R u p promise a b x y v w first second =
      let d = first.entry in
      let e = second.entry in
      record {
        log = d ∷ e ∷ [];
        made = cc (first.made, second.made);
        promise = subst (λ r. Promise r (d ∷ e ∷ [])) p (promise (d ∷ e ∷ []) (view_of alarm w)
            (view_of alarm v, first.step, (view_of alarm w, subst (λ r. Step r (view_of alarm v) e (view_of alarm w)) first.rules second.step, refl)));
      }

pub returns : goal.returns
returns g c =
    let n = c.new-board.ensures in
    let R = rules_for c.args.plan (g.T.Alarm.reach c.args.alarm) (g.T.Alarm.grain c.args.alarm) in
    let kept : Kept R (Release c.args.row) Tick = search (rules, two_steps g.T.Alarm R c.new-board.result n.rules n.promise) in
    (kept.log, kept.made, kept.promise)
