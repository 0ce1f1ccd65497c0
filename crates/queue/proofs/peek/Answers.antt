-- The first element of a heap is its least.
use Rattle.std.proofs.Common.{rules, ◌≡◌, take, slice_get, ap, ◌∙◌, arith}
use Rattle.queue.specs.Order.{before}
use Rattle.queue.proofs.Order.{ranked}
use Rattle.queue.proofs.Held.{first_of}
use Rattle.queue.proofs.peek.Goals as goal

pub returns : goal.returns
returns g c =
    let xs = c.args.heap.now in
    let n = c.args.len in
    let held = c.in_ok-get.ensures.lookup in
    let part : c.in_ok-get.field-0.now ≡ take n xs = search rules in
    first_of (before g.T.Ord.cmp) (ranked g.T.Ord.cmp g.met.T.Ord.total) c.copied.result xs n (omega arith) (c.copied.ensures ∙ c.first.ensures.value ∙ ap (λ l. slice_get l 0) part)
