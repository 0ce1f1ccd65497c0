-- A heap in which one element has yet to find its place, or from which one went. Assumes nothing.
-- The children of the element at p are at 2 p + 1 and 2 p + 2.
use Rattle.std.specs.Prelude.{◌≡◌, ℕ, ◌+◌, ◌-◌, ◌*◌, ◌<◌, ◌≤◌, Bool, false, List, ◌∷◌, length, take, ◌≢◌, slice_index_or}
use Rattle.std.specs.List.Sorted.{IsPermutation}
use Rattle.queue.specs.Queue.{Heaped}

module _ {X : Type 0} (before : X → X → Bool) where
  -- all but the element at j are in order, j's parent and j's children too
  abbrev pub Gap : List X → ℕ → Type 0
  Gap xs j =
      ((p k : ℕ) (d : X) → p * 2 + 1 ≤ k → k ≤ p * 2 + 2 → k < length xs → (p ≢ j) → (k ≢ j) → before (slice_index_or xs k d) (slice_index_or xs p d) ≡ false)
      × ((p k : ℕ) (d : X) → p * 2 + 1 ≤ j → j ≤ p * 2 + 2 → j * 2 + 1 ≤ k → k ≤ j * 2 + 2 → k < length xs → before (slice_index_or xs k d) (slice_index_or xs p d) ≡ false)

  -- the same, and the element at j does not come before its parent
  abbrev pub Hole : List X → ℕ → Type 0
  Hole xs j =
      ((p k : ℕ) (d : X) → p * 2 + 1 ≤ k → k ≤ p * 2 + 2 → k < length xs → (p ≢ j) → before (slice_index_or xs k d) (slice_index_or xs p d) ≡ false)
      × ((p k : ℕ) (d : X) → p * 2 + 1 ≤ j → j ≤ p * 2 + 2 → j * 2 + 1 ≤ k → k ≤ j * 2 + 2 → k < length xs → before (slice_index_or xs k d) (slice_index_or xs p d) ≡ false)

  -- no child of j comes before the element at c
  abbrev pub Foremost : List X → ℕ → ℕ → Type 0
  Foremost xs j c = (k : ℕ) (d : X) → j * 2 + 1 ≤ k → k ≤ j * 2 + 2 → k < length xs → before (slice_index_or xs k d) (slice_index_or xs c d) ≡ false

  -- x, which was at j in the list xs, is out of it; what stays is in the list ys, whose last place is free
  pub record TakenOut (x : X) (j : ℕ) (xs ys : List X) : Type 0 where
    pub inside : j < length xs
    pub value : x ≡ slice_index_or xs j x
    pub held : IsPermutation xs (x ∷ take (length xs - 1) ys)
    pub heaped : Heaped before xs → Heaped before (take (length xs - 1) ys)
