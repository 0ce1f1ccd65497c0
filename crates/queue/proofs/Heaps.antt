-- An element rises and sinks in a heap, and the top of a heap is its least element.
use Rattle.std.proofs.Common.{◌≡◌, ℕ, zero, suc, ◌+◌, ◌-◌, ◌*◌, ◌/◌, ◌<◌, ◌≤◌, Bool, true, false, List, length, get_or, refl, ap, ◌∙◌, ⊎_elim, arith}
use Rattle.std.proofs.lemmas.Bool.{cases_eq}
use Rattle.queue.specs.Order.{Ranked}
use Rattle.queue.specs.Queue.{Heaped}
use Rattle.queue.specs.Sift.{Gap, Hole, Foremost}

-- ys is xs with the elements at a and b in each other's place
pub record Swapped {X : Type 0} (xs ys : List X) (a b : ℕ) : Type 0 where
  pub first : (d : X) → get_or ys a d ≡ get_or xs b d
  pub second : (d : X) → get_or ys b d ≡ get_or xs a d
  pub other : (k : ℕ) (d : X) → (k ≡ a → ⊥) → (k ≡ b → ⊥) → get_or ys k d ≡ get_or xs k d
  pub long : length ys ≡ length xs

module _ {X : Type 0} (before : X → X → Bool) where
  pub by : (a b x y : X) → a ≡ x → b ≡ y → before x y ≡ false → before a b ≡ false
  by a b x y p q h = (λ k. before (p k) (q k)) ∙ h

  at_place : (xs : List X) (d : X) (a b : ℕ) → a ≡ b → get_or xs a d ≡ get_or xs b d
  at_place xs d a b e = ap (λ m. get_or xs m d) e

  -- the same by a parent and a child
  abbrev pub Paired : List X → Type 0
  Paired xs = (p k : ℕ) (d : X) → p * 2 + 1 ≤ k → k ≤ p * 2 + 2 → k < length xs → before (get_or xs k d) (get_or xs p d) ≡ false

  pub paired : (xs : List X) → Heaped before xs → Paired xs
  paired xs h = λ p k d a b f. by _ _ _ _ (at_place xs d k (k - 1 + 1) (omega arith)) (at_place xs d p ((k - 1) / 2) (omega arith)) (h (k - 1) d (omega arith))

  module _ (o : Ranked before) where
    itself_by : (x : X) (b : Bool) → before x x ≡ b → before x x ≡ false
    itself_by x true e = o.one_way x x e
    itself_by x false e = e

    itself : (xs : List X) (j k : ℕ) (d : X) → k ≡ j → before (get_or xs k d) (get_or xs j d) ≡ false
    itself xs j k d e = by _ _ _ _ (at_place xs d k j e) refl (itself_by (get_or xs j d) _ refl)

    -- c is a child of j
    module _ (xs ys : List X) (j c : ℕ) (from : j * 2 + 1 ≤ c) (to : c ≤ j * 2 + 2) (in' : c < length xs) (s : Swapped xs ys j c) where
      pub rises : Gap before xs c → Gap before ys j
      rises h = (
        λ p k d a b f u v. let n = s.long in ⊎_elim
            (λ e. by _ _ _ _ (s.other k d v (omega arith)) (at_place ys d p c e ∙ s.second d) (h.1 j k d from to (omega arith) (omega arith) (omega arith)))
            (λ w. let z : k ≡ c → ⊥ = omega arith in by _ _ _ _ (s.other k d v z) (s.other p d u w) (h.0 p k d a b (omega arith) w z))
            (cases_eq p c),
        λ p k d a b f g i.
            let n = s.long in
            let over = h.0 p j d a b (omega arith) (omega arith) (omega arith) in
            let same = s.other p d (omega arith) (omega arith) in
            ⊎_elim
            (λ e. by _ _ _ _ (at_place ys d k c e ∙ s.second d) same over)
            (λ w. by _ _ _ _ (s.other k d (omega arith) w) same (o.chain _ _ _ over (h.0 j k d f g (omega arith) (omega arith) w)))
            (cases_eq k c),
      )

      pub sinks : Foremost before xs j c → ((d : X) → before (get_or xs c d) (get_or xs j d) ≡ true) → Hole before xs j → Hole before ys c
      sinks best t h = (
        λ p k d a b f n. let l = s.long in ⊎_elim
            (λ e. ⊎_elim
            (λ u. by _ _ _ _ (at_place ys d k c u ∙ s.second d) (at_place ys d p j e ∙ s.first d) (o.one_way _ _ (t d)))
            (λ u. by _ _ _ _ (s.other k d (omega arith) u) (at_place ys d p j e ∙ s.first d) (best k d (omega arith) (omega arith) (omega arith)))
            (cases_eq k c))
            (λ w. ⊎_elim
            (λ u. by _ _ _ _ (at_place ys d k j u ∙ s.first d) (s.other p d w n) (h.1 p c d (omega arith) (omega arith) from to in'))
            (λ u. by _ _ _ _ (s.other k d u (omega arith)) (s.other p d w n) (h.0 p k d a b (omega arith) w))
            (cases_eq k j))
            (cases_eq p j),
        λ p k d a b f g i.
            let l = s.long in
            by _ _ _ _ (s.other k d (omega arith) (omega arith)) (at_place ys d p j (omega arith) ∙ s.first d) (h.0 c k d f g (omega arith) (omega arith)),
      )

    top_by : (xs : List X) (d : X) → Paired xs → (fuel k : ℕ) → k ≤ fuel → k < length xs → before (get_or xs k d) (get_or xs 0 d) ≡ false
    top_by xs d h zero k a b = itself xs 0 k d (omega arith)
    top_by xs d h (suc fuel) k a b = ⊎_elim (itself xs 0 k d)
        (λ u. o.chain _ _ _ (top_by xs d h fuel ((k - 1) / 2) (omega arith) (omega arith)) (h ((k - 1) / 2) k d (omega arith) (omega arith) b))
        (cases_eq k 0)

    pub top : (xs : List X) (d : X) → Heaped before xs → (k : ℕ) → k < length xs → before (get_or xs k d) (get_or xs 0 d) ≡ false
    top xs d h k b = top_by xs d (paired xs h) k k (omega arith) b
