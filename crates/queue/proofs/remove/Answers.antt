-- The first element that is equal goes out of the part that is held.
use Rattle.std.proofs.Common.{rules, ◌≡◌, inr, refl, true, None, position, take, ap, ◌∙◌, ◌-◌, arith}
use Rattle.std.proofs.lemmas.List.Quantifiers.{position-Some}
use Rattle.queue.specs.Order.{before}
use Rattle.queue.specs.Queue.{Removed, NoneAlike}
use Rattle.queue.proofs.Order.{same_is_left, same_is_absent}
use Rattle.queue.proofs.Held.{not_found, went_out}
use Rattle.queue.proofs.remove.Goals as goal

pub returns-in_err-at : goal.returns-in_err-at
returns-in_err-at g c =
    let xs = c.args.heap.now in
    let n = c.args.len in
    let x = c.args.x in
    let same = g.T.PartialEq.eq in
    let none : position (λ y. same y x) (take n xs) ≡ None = search rules in
    let e : c.from_residual-in_err-at.result ≡ None = search rules in
    let gone : NoneAlike same x xs n = inr (λ y is held. not_found _ _ y none is held) in
    let itself : same x x ≡ true = search rules in
    rw e (record { equal = (gone, refl); exact = λ only. (same_is_absent same x xs n itself gone, refl) })

pub returns : goal.returns
returns g c =
    let xs = c.args.heap.now in
    let n = c.args.len in
    let same = g.T.PartialEq.eq in
    let first = before g.T.Ord.cmp in
    let y = c.in_ok-take_out.field-0 in
    let out = c.in_ok-take_out.ensures in
    let at = c.in_ok-at.at in
    let found = position-Some (λ y. same y c.args.x) (take n xs) at y (search rules) in
    let gone : Removed first same c.args.x xs n _ (n - 1) =
    (y, ap (λ y. same y c.args.x) out.value ∙ found.1, went_out first xs _ n at y (omega (arith, c.in_ok-get.ensures.lookup)) c.take_out.auto.s out) in
    record { equal = gone; exact = λ only. same_is_left first same c.args.x xs _ n (n - 1) only gone }
