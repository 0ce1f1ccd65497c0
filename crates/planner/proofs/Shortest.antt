-- The smallest number of a list, as it is computed from the list's end to its front, is the smallest: below all of them, and
-- one of them. As there is only one such number, whatever is below all and one of them is the computed one.
use Rattle.std.proofs.Common.{◌≡◌, ℕ, zero, suc, ◌<◌, ◌≤◌, min, ◌⊎◌, List, [], ◌∷◌, length, Some, None, Option, refl, ap, inl, inr, arith}
use Rattle.std.proofs.lemmas.Bool.{cases_lt}
use Rattle.planner.specs.Computed.{lesser, shortest_of}
use Rattle.planner.specs.Plans.{Shortest}
use Rattle.planner.specs.Sleeps.{sleep_at}

-- what the smallest number tells of its list
abbrev Tells : List ℕ → Option ℕ → Type 0
Tells sleeps None = length sleeps ≡ 0
Tells sleeps (Some s) = Shortest sleeps s

one_more : (s : ℕ) (rest : List ℕ) (o : Option ℕ) → Tells rest o → Shortest (s ∷ rest) (lesser s o)
one_more s rest None none = record { below = below; met = (0, omega arith, refl) }
  where
    below : (row : ℕ) → row < length (s ∷ rest) → s ≤ sleep_at (s ∷ rest) row
    below zero l = omega arith
    below (suc row) l = absurd (omega (arith, none))
one_more s rest (Some t) told = record { below = below; met = met (cases_lt s t) }
  where
    below : (row : ℕ) → row < length (s ∷ rest) → min s t ≤ sleep_at (s ∷ rest) row
    below zero l = omega arith
    below (suc row) l = omega (arith, told.below row (omega arith))

    met : (s < t) ⊎ (t ≤ s) → (row : ℕ) × (row < length (s ∷ rest)) × (min s t ≡ sleep_at (s ∷ rest) row)
    met (inl l) = (0, omega arith, omega arith)
    met (inr l) = let m = told.met in (suc m.0, omega (arith, m.1), omega (arith, m.2))

shortest_tells : (sleeps : List ℕ) → Tells sleeps (shortest_of sleeps)
unfolding shortest_of
shortest_tells [] = refl
shortest_tells (s ∷ rest) = one_more s rest (shortest_of rest) (shortest_tells rest)

pub shortest_computed : (sleeps : List ℕ) (s : ℕ) → Shortest sleeps s → Some s ≡ shortest_of sleeps
shortest_computed sleeps s told = go (shortest_of sleeps) (shortest_tells sleeps)
  where
    go : (o : Option ℕ) → Tells sleeps o → Some s ≡ o
    go None none = absurd (omega (arith, none, told.met.1))
    go (Some t) other =
        let same : s ≡ t = omega (arith, told.met.2, other.met.2, told.below other.met.0 other.met.1, other.below told.met.0 told.met.1) in
        ap Some same

pub shortest_absent : (sleeps : List ℕ) → length sleeps ≡ 0 → None ≡ shortest_of sleeps
shortest_absent sleeps none = go (shortest_of sleeps) (shortest_tells sleeps)
  where
    go : (o : Option ℕ) → Tells sleeps o → None ≡ o
    go None _ = refl
    go (Some t) told = absurd (omega (arith, none, told.met.1))
