-- A total comparison gives the order that a queue's proofs go by. Where it takes no two elements for equal, that is a linear order;
-- and for elements that are equal to themselves alone, what leaves a queue is the element that was asked for.
use Rattle.std.proofs.Common.{◌≡◌, ℕ, Bool, true, false, List, Ordering, sym, ap, ◌∙◌, subst, inl, inr, rules}
use Rattle.std.specs.declared.cmp.Ordering.TheVariants.{Equal}
use Rattle.std.specs.Ordering.{is_lt, is_gt, ordering_reverse}
use Rattle.std.specs.Cmp.{IsTotalOrder}
use Rattle.std.proofs.lemmas.Cmp.{upto}
use Rattle.queue.specs.Order.{before, Ranked, Linear}
use Rattle.queue.specs.Queue.{Left, Removed, Alone, NoneAlike, Absent}

turned_lt : (r : Ordering) → is_lt (ordering_reverse r) ≡ is_gt r
turned_lt r = search rules

lt_not_gt : (r : Ordering) → is_lt r ≡ true → is_gt r ≡ false
lt_not_gt r e = search rules

neither : (r : Ordering) → is_lt r ≡ false → is_gt r ≡ false → r ≡ Equal
neither r e f = search rules

module _ {X : Type 0} (R : X → X → Ordering) (o : IsTotalOrder R) where
  after : (x y : X) → before R y x ≡ is_gt (R x y)
  after x y = ap is_lt (o.antisymm y x) ∙ turned_lt (R x y)

  pub ranked : Ranked (before R)
  ranked = record {
    one_way = λ x y e. after x y ∙ lt_not_gt (R x y) e;
    chain = λ x y z p q. after x z ∙ upto o x y z (sym (after x y) ∙ p) (sym (after y z) ∙ q);
  }

  pub linear : ((x y : X) → R x y ≡ Equal → x ≡ y) → Linear (before R)
  linear same = record {
    one_way = ranked.one_way;
    chain = ranked.chain;
    apart = λ x y p q. same x y (neither (R x y) p (sym (after x y) ∙ q));
  }

-- where only x itself is the same as x, what went out is x, and where none did there is no x
pub same_is_left : {X : Type 0} (first : X → X → Bool) (same : X → X → Bool) (x : X) (ws xs : List X) (m n : ℕ)
    → Alone same x → Removed first same x ws m xs n → Left first x ws m xs n
same_is_left first same x ws xs m n only out = subst (λ y. Left first y ws m xs n) (only out.0 out.1) out.2

pub same_is_absent : {X : Type 0} (same : X → X → Bool) (x : X) (xs : List X) (n : ℕ) → same x x ≡ true → NoneAlike same x xs n → Absent x xs n
same_is_absent same x xs n is (inl long) = inl long
same_is_absent same x xs n is (inr none) = inr (none x is)
