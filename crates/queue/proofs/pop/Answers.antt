-- The first element of a heap is its least, and goes out.
use Rattle.std.proofs.Common.{◌≤◌, length, ◌∙◌, arith}
use Rattle.std.proofs.lemmas.List.{length-take-le, get_or-take}
use Rattle.queue.specs.Order.{before}
use Rattle.queue.proofs.Order.{ranked}
use Rattle.queue.proofs.Held.{first, went_out}
use Rattle.queue.proofs.pop.Goals as goal

pub returns : goal.returns
returns g c =
    let xs = c.args.heap.now in
    let n = c.args.len in
    let x = c.in_ok-x.x in
    let out = c.in_ok-x.ensures in
    let inside = out.inside in
    let fits : n ≤ length xs = omega arith in
    let some : 1 ≤ n = omega (arith, length-take-le n xs fits) in
    (first (before g.T.Ord.cmp) (ranked g.T.Ord.cmp g.met.T.Ord.total) xs n x some fits (out.value ∙ get_or-take n xs 0 x some), went_out (before g.T.Ord.cmp) xs _ n 0 x fits c.take_out.auto.s out)
