-- The alarm is asked where it is unset or has more left than the row's sleep; what it answers is what the rules allow.
use Rattle.std.proofs.Common.{◌≡◌, ltb, IsTrue, Some, MatchOption, refl, rules}
use Rattle.board.proofs.Keeping.{slots_same}
use Rattle.board.proofs.Acts.{sets, wakes_at, sleeps_at, same_rules, unset_or_more}
use Rattle.board.proofs.board.Board.arm.Goals as goal

pub returns-then-set-eq0 : goal.returns-then-set-eq0
returns-then-set-eq0 g c =
    let b = c.args.self.now in
    let e = c.set.ensures in
    let asked : MatchOption c.left.result (IsTrue c.is_none_or.result) (λ l. c.is_none_or.result ≡ ltb c.args.sleep l) = search rules in
    let more = unset_or_more _ c.left.result c.args.sleep c.is_none_or.result c.left.ensures.value asked c.if-is_none_or.true in
    record {
      wait = Some c.set.result;
      now = c.wake.ensures.same.now;
      ran = c.wake.ensures.same.ran;
      slept = c.wake.ensures.same.slept;
      slots = slots_same b.core c.wake.new.self c.wake.ensures.same;
      sets = sets _ _ c.args.sleep c.set.result _ (record { most = e.above; near = e.near; alarm = e.left; mode = wakes_at c.set.result c.wake.new.self.mode c.if-set-eq0.true c.wake.ensures.mode })
          more;
      rules = same_rules c.wake.new.self.plan b.core.plan _ _ _ _ c.wake.ensures.same.plan e.reach e.grain;
      asking = (e.above, e.near, e.left, e.reach, e.grain, e.sets);
    }

pub returns-else-set-eq0 : goal.returns-else-set-eq0
returns-else-set-eq0 g c =
    let b = c.args.self.now in
    let e = c.set.ensures in
    let asked : MatchOption c.left.result (IsTrue c.is_none_or.result) (λ l. c.is_none_or.result ≡ ltb c.args.sleep l) = search rules in
    let more = unset_or_more _ c.left.result c.args.sleep c.is_none_or.result c.left.ensures.value asked c.if-is_none_or.true in
    record {
      wait = Some c.set.result;
      now = refl;
      ran = refl;
      slept = refl;
      slots = refl;
      sets = sets _ _ c.args.sleep c.set.result _ (record { most = e.above; near = e.near; alarm = e.left; mode = sleeps_at c.set.result b.core.mode c.if-set-eq0.false c.requires })
          more;
      rules = same_rules b.core.plan b.core.plan _ _ _ _ refl e.reach e.grain;
      asking = (e.above, e.near, e.left, e.reach, e.grain, e.sets);
    }
