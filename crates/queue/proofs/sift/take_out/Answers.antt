-- The last element goes to the place that comes free, and the rest is settled there.
use Rattle.std.proofs.Common.{rules, ◌≡◌, ◌-◌, ◌<◌, ◌∷◌, length, get_or, sym, ◌∙◌, subst, arith}
use Rattle.std.specs.List.Sorted.{IsPermutation}
use Rattle.queue.specs.Order.{before}
use Rattle.queue.specs.Queue.{Heaped}
use Rattle.queue.proofs.Order.{ranked}
use Rattle.queue.proofs.Held.{last_out, went, part_back}
use Rattle.queue.proofs.sift.take_out.Goals as goal

pub returns : goal.returns
returns g c =
    let xs = c.args.s.now in
    let x = c.in_ok-x.field-0.now in
    let w = c.swap.ensures in
    let long = w.len in
    let ys = c.swap.new.self in
    let zs = c.settle.new.s in
    let told = c.settle.ensures in
    let n = length xs - 1 in
    let found = c.in_ok-x.ensures.lookup in
    let inside : c.args.at < length xs = search rules in
    let value : x ≡ get_or xs c.args.at x = search rules in
    let back = part_back ys zs _ n (omega arith) told.shuffled in
    record {
      inside = inside;
      value = value;
      held = subst (λ l. IsPermutation xs (x ∷ l)) (sym back) (went xs ys zs n x (omega arith) long (value ∙ sym (w.by_index.1 x)) w.permutation told.shuffled);
      heaped = λ heap. subst (Heaped (before g.T.Ord.cmp)) (sym back) (told.heaped (last_out (before g.T.Ord.cmp) (ranked g.T.Ord.cmp g.met.T.Ord.total) xs ys c.args.at _ inside (omega arith) long (λ k d u v. w.by_index.2 k d u (omega arith)) heap));
    }
