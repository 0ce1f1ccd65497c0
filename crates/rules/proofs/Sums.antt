-- Sums over the indices below n.
use Rattle.std.proofs.Common.{◌≡◌, ℕ, zero, suc, ◌+◌, ◌<◌, ◌≤◌, ◌≢◌, ◌⊎◌, sym, ap, inl, inr, arith}
use Rattle.std.proofs.lemmas.Bool.{cases_eq}
use Rattle.planner.proofs.Sums.{sum_to_same}
use Rattle.planner.specs.Demand.{sum_to}

pub sum_to_le : (n : ℕ) (f g : ℕ → ℕ) → ((i : ℕ) → i < n → f i ≤ g i) → sum_to n f ≤ sum_to n g
unfolding sum_to
sum_to_le zero f g h = omega arith
sum_to_le (suc n) f g h = omega (arith, sum_to_le n f g (λ i l. h i (omega arith)), h n (omega arith))

-- a sum changes at one index
pub sum_to_change : (n : ℕ) (f g : ℕ → ℕ) (i : ℕ) → i < n → ((j : ℕ) → j < n → j ≢ i → g j ≡ f j)
    → sum_to n g + f i ≡ sum_to n f + g i
unfolding sum_to
sum_to_change zero f g i l h = omega arith
sum_to_change (suc n) f g i l h = go (cases_eq i n) (λ k. sum_to_change n f g i k (λ j m. h j (omega arith)))
  where
    go : (i ≡ n) ⊎ (i ≡ n → ⊥) → (i < n → sum_to n g + f i ≡ sum_to n f + g i) → sum_to (suc n) g + f i ≡ sum_to (suc n) f + g i
    go (inl e) _ =
        let rest : sum_to n g ≡ sum_to n f = sum_to_same n g f (λ j k. h j (omega arith) (omega arith)) in
        let a : f i ≡ f n = ap f e in
        let b : g i ≡ g n = ap g e in
        omega arith
    go (inr e) ih =
        let rest : sum_to n g + f i ≡ sum_to n f + g i = ih (omega arith) in
        let here : g n ≡ f n = h n (omega arith) (λ x. e (sym x)) in
        omega arith

pub sum_to_at : (n : ℕ) (f : ℕ → ℕ) (i : ℕ) → i < n → f i ≤ sum_to n f
unfolding sum_to
sum_to_at zero f i l = omega arith
sum_to_at (suc n) f i l = go (cases_eq i n) (λ k. sum_to_at n f i k)
  where
    go : (i ≡ n) ⊎ (i ≡ n → ⊥) → (i < n → f i ≤ sum_to n f) → f i ≤ sum_to (suc n) f
    go (inl e) _ = let a : f i ≡ f n = ap f e in omega arith
    go (inr e) ih = omega (arith, ih (omega arith))
