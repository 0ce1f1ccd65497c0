-- The new element stands first, all others being in order, and is settled there.
use Rattle.std.proofs.Common.{◌≡◌, ◌≤◌, ◌∷◌, length, take, set, sym, ◌∙◌, subst, arith, length-set}
use Rattle.std.specs.List.Sorted.{IsPermutation}
use Rattle.std.proofs.lemmas.List.{length-take-le}
use Rattle.queue.specs.Queue.{Heaped}
use Rattle.queue.specs.Order.{before}
use Rattle.queue.proofs.Order.{ranked}
use Rattle.queue.proofs.Held.{first, put_first, replaced, part_back, rest_set, within_front}
use Rattle.queue.proofs.replace_first.Goals as goal

pub returns : goal.returns
returns g c =
    let xs = c.args.heap.now in
    let n = c.args.len in
    let x = c.args.x in
    let ys = c.settle.new.s in
    let y = c.index-heap-0 in
    let fits : n ≤ length xs = omega arith in
    let some : 1 ≤ n = omega arith in
    let told = c.settle.ensures in
    let long : length ys ≡ n = c.settle.auto.s ∙ length-take-le n (set xs 0 x) (omega (arith, length-set xs 0 x)) in
    let back = part_back (set xs 0 x) ys _ n (omega (arith, length-set xs 0 x)) told.shuffled in (
      first (before g.T.Ord.cmp) (ranked g.T.Ord.cmp g.met.T.Ord.total) xs n y.result some fits y.is,
      record {
        held = subst (λ l. IsPermutation (x ∷ take n xs) (y.result ∷ l)) (sym back) (replaced xs ys n x y.result some fits y.is told.shuffled);
        queue = λ q. (
          within_front ys _ n (omega arith),
          subst (Heaped (before g.T.Ord.cmp)) (sym back)
              (told.heaped (put_first (before g.T.Ord.cmp) (ranked g.T.Ord.cmp g.met.T.Ord.total) xs n x some fits q.1)),
        );
        rest = rest_set xs ys n 0 x long some;
      },
    )
