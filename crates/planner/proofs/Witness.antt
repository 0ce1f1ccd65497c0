-- A number that is only said to be there can be named, if it lies in a known stretch and a test tells it: each number of
-- the stretch is tried in turn, and one must pass.
use Rattle.std.proofs.Common.{◌≡◌, ℕ, zero, suc, ◌+◌, ◌<◌, ◌≤◌, ◌⊎◌, sym, ap, ◌∙◌, inl, inr, arith}
use mathlib.Core.HLevel.{⊥_prop}
use mathlib.Core.Logic.{∥∥₁_elim, ∥∥₁_map}
use Rattle.std.proofs.lemmas.Bool.{cases_eq}

-- one of the k numbers from a on, at which f and g agree
abbrev pub Met : (ℕ → ℕ) → (ℕ → ℕ) → ℕ → ℕ → Type 0
Met f g a k = (t : ℕ) × (a ≤ t) × (t < a + k) × (f t ≡ g t)

pub found_again : (f g : ℕ → ℕ) (a k : ℕ) → ∥ Met f g a k ∥₁ → Met f g a k
found_again f g a zero some = absurd (∥∥₁_elim some ⊥_prop (λ m. omega (arith, m.1, m.2)))
found_again f g a (suc k) some = go (cases_eq (f (a + k)) (g (a + k))) (λ s. found_again f g a k s)
  where
    later : Met f g a k → Met f g a (suc k)
    later m = (m.0, m.1, omega (arith, m.2), m.3)

    sooner : (f (a + k) ≡ g (a + k) → ⊥) → (m : Met f g a (suc k)) → (m.0 ≡ a + k) ⊎ (m.0 ≡ a + k → ⊥) → Met f g a k
    sooner apart m (inl e) = absurd (apart (sym (ap f e) ∙ m.3 ∙ ap g e))
    sooner apart m (inr e) = (m.0, m.1, omega (arith, m.2, e), m.3)

    go : (f (a + k) ≡ g (a + k)) ⊎ (f (a + k) ≡ g (a + k) → ⊥) → (∥ Met f g a k ∥₁ → Met f g a k) → Met f g a (suc k)
    go (inl e) rest = (a + k, omega arith, omega arith, e)
    go (inr apart) rest = later (rest (∥∥₁_map some (λ m. sooner apart m (cases_eq m.0 (a + k)))))
