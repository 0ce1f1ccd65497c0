-- The new element stands last, all others being in order, and is settled there.
use Rattle.std.proofs.Common.{◌≡◌, ◌+◌, ◌<◌, ◌∷◌, length, take, set, sym, refl, ◌∙◌, subst, arith, length-set}
use Rattle.std.specs.List.Sorted.{IsPermutation}
use Rattle.std.proofs.lemmas.List.{length-take-le}
use Rattle.queue.specs.Queue.{Heaped}
use Rattle.queue.specs.Order.{before}
use Rattle.queue.proofs.Order.{ranked}
use Rattle.queue.proofs.Held.{put_last, came, part_back, rest_set, within_front}
use Rattle.queue.proofs.push.Goals as goal

pub returns : goal.returns
returns g c =
    let xs = c.args.heap.now in
    let n = c.args.len in
    let x = c.args.x in
    let ys = c.settle.new.s in
    let below : n < length xs = omega arith in
    let told = c.settle.ensures in
    let long : length ys ≡ n + 1 = c.settle.auto.s ∙ length-take-le (n + 1) (set xs n x) (omega (arith, length-set xs n x)) in
    let back = part_back (set xs n x) ys _ (n + 1) (omega (arith, length-set xs n x)) told.shuffled in
    record {
      room = below;
      more = refl;
      held = subst (IsPermutation (x ∷ take n xs)) (sym back) (came xs ys n x below told.shuffled);
      queue = λ q. (
        within_front ys _ (n + 1) (omega arith),
        subst (Heaped (before g.T.Ord.cmp)) (sym back)
            (told.heaped (put_last (before g.T.Ord.cmp) (ranked g.T.Ord.cmp g.met.T.Ord.total) xs n x below q.1)),
      );
      rest = rest_set xs ys (n + 1) n x long (omega arith);
    }
