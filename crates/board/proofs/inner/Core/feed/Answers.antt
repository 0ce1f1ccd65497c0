-- The row that comes first is one of the plan's, and its slot is the one that is written.
use Rattle.std.proofs.Common.{◌≡◌, ◌+◌, refl, arith}
use Rattle.std.proofs.lemmas.Grind.{common_steps}
use Rattle.std.proofs.lemmas.Option.{gets}
use Rattle.table.specs.Tasks.{task_at}
use Rattle.planner.specs.Plans.{planned}
use Rattle.board.proofs.Keeping.{write_past, write_below, foremost_listed, feeds, fed_past}
use Rattle.board.proofs.inner.Core.feed.Goals as goal

pub invariant_of-self : goal.invariant_of-self
invariant_of-self c =
    let s = c.args.self.now in
    let f = c.requires.foremost in
    let row = c.args.row in
    let j = f.1.0 in
    let l = foremost_listed s row f in
    let e = c.feed.ensures j f.1.1.job in
    let past = write_past s c.feed.new.self.slots row _ l e (s.now + 1) (omega arith) (fed_past s row c.unwrap-task.result.run j) in
    let below = write_below s c.feed.new.self.slots row _ l e in
    record {
      clock = omega (arith, c.requires.before_end);
      given = omega arith;
      rest = omega arith;
      past = past;
      listed = below;
    }

pub returns-clause-gives : goal.returns-clause-gives
returns-clause-gives c =
    let s = c.args.self.now in
    let task : c.unwrap-task.result ≡ task_at (planned s.plan) c.args.row = grind (arith, common_steps, gets) in
    feeds s _ c.args.row c.unwrap-task.result c.requires.foremost task refl refl c.feed.ensures
