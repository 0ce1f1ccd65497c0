-- The element sinks past the first of its children while that comes before it, and the rest stays in order.
use Rattle.std.proofs.Common.{arith}
use Rattle.std.proofs.lemmas.List.Sorted.{IsPermutation-trans}
use Rattle.queue.specs.Order.{before}
use Rattle.queue.proofs.Order.{ranked}
use Rattle.queue.proofs.Heaps.{sinks}
use Rattle.queue.proofs.sift.sink.Goals as goal

pub loop-at-preserved : goal.loop-at-preserved
loop-at-preserved g c =
    let l = c.loop-at in
    let child = c.first_child-child in
    let w = c.swap in
    let told = w.ensures.by_index in
    let long = w.ensures.len in (
      IsPermutation-trans _ _ _ l.invariant.0 w.ensures.permutation,
      λ hole. sinks (before g.T.Ord.cmp) (ranked g.T.Ord.cmp g.met.T.Ord.total) l.s w.new.self l.at child.result (omega arith) (omega arith) (omega arith)
          (record { first = told.0; second = told.1; other = told.2; long = long }) child.ensures.foremost c.if-not-earlier.ensures (l.invariant.1 hole),
    )
