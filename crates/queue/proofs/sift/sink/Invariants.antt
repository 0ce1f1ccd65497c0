use Rattle.std.proofs.Common.{◌-◌, length}
use Rattle.std.specs.List.Sorted.{IsPermutation}
use Rattle.queue.specs.Sift.{Hole}
use Rattle.queue.specs.Order.{before}
use Rattle.queue.proofs.sift.sink.Given as goal

abbrev pub invariant-loop-at : goal.invariant-loop-at
invariant-loop-at g l =
    IsPermutation l.initial.s l.s × (Hole (before g.T.Ord.cmp) l.initial.s l.start → Hole (before g.T.Ord.cmp) l.s l.at)

abbrev pub decreases-loop-at : goal.decreases-loop-at
decreases-loop-at g l = length l.initial.s - l.at
