-- Where all but the rising element were in order they stay so at each step.
use Rattle.std.proofs.Common.{◌-◌, ◌/◌, arith}
use Rattle.std.proofs.lemmas.List.Sorted.{IsPermutation-trans}
use Rattle.queue.specs.Order.{before}
use Rattle.queue.proofs.Order.{ranked}
use Rattle.queue.proofs.Heaps.{rises}
use Rattle.queue.proofs.sift.rise.Goals as goal

pub loop-at-preserved : goal.loop-at-preserved
loop-at-preserved g c =
    let l = c.loop-at in
    let w = c.swap in
    let told = w.ensures.by_index in
    let long = w.ensures.len in (
      omega arith,
      IsPermutation-trans _ _ _ l.invariant.1 w.ensures.permutation,
      λ gap. rises (before g.T.Ord.cmp) (ranked g.T.Ord.cmp g.met.T.Ord.total) l.s w.new.self ((l.at - 1) / 2) l.at (omega arith) (omega arith) l.invariant.0
          (record { first = told.0; second = told.1; other = told.2; long = long }) (l.invariant.2 gap),
    )
