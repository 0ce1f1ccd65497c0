-- The two steps together keep the elements.
use Rattle.std.proofs.lemmas.List.Sorted.{IsPermutation-trans}
use Rattle.queue.proofs.sift.settle.Goals as goal

pub returns-then-start-s-clause-shuffled : goal.returns-then-start-s-clause-shuffled
returns-then-start-s-clause-shuffled g c = IsPermutation-trans _ _ _ c.rise-at.ensures.shuffled c.sink.ensures.shuffled
