-- A queue in a lent slice: its elements, the least of them, and what each call does to them. Assumes nothing.
--   take n xs   the elements of the queue that the first n places of the slice xs hold
--   drop n xs   the places past it
--   Queue       the first n places are a queue
--   Least       no element of a list comes before x
--   First       x is the answer where the smallest element is asked for
--   Entered     x was taken in
--   Left        x went out
--   Removed     x went out, or one that `same` takes for it
--   Replaced    x was taken in for y
--   Vacant      there is no smallest element to be had
--   Alone       `same` takes x for nothing but itself
--   NoneAlike   nothing that `same` takes for x is to be taken out
--   Absent      there is no x to be taken out
use Rattle.std.specs.Prelude.{◌≡◌, ℕ, ◌+◌, ◌/◌, ◌<◌, ◌≤◌, Bool, true, false, ◌⊎◌, List, ◌∷◌, length, take, drop, slice_index_or}
use Rattle.std.specs.List.Sorted.{IsPermutation}
use Rattle.std.specs.List.{ContainsAt, AllByRecursion}

module _ {X : Type 0} (before : X → X → Bool) where
  -- no element comes before its parent, which for the one at k + 1 is at k / 2
  abbrev pub Heaped : List X → Type 0
  Heaped xs = (k : ℕ) (d : X) → k + 1 < length xs → before (slice_index_or xs (k + 1) d) (slice_index_or xs (k / 2) d) ≡ false

  abbrev pub Queue : List X → ℕ → Type 0
  Queue xs n = (n ≤ length xs) × Heaped (take n xs)

  abbrev pub Least : X → List X → Type 0
  Least x xs = AllByRecursion (λ y. before y x ≡ false) xs

  -- x stands first in the slice xs of which n places are held; in a queue that is the least
  pub record First (x : X) (xs : List X) (n : ℕ) : Type 0 where
    pub some : 1 ≤ n
    pub fits : n ≤ length xs
    pub value : x ≡ slice_index_or xs 0 x
    pub held : ContainsAt (take n xs) x
    pub least : Queue xs n → Least x (take n xs)

  -- from m places of the slice ws to n of the slice xs
  pub record Entered (x : X) (ws : List X) (m : ℕ) (xs : List X) (n : ℕ) : Type 0 where
    pub room : m < length ws
    pub more : n ≡ m + 1
    pub held : IsPermutation (x ∷ take m ws) (take n xs)
    pub queue : Queue ws m → Queue xs n
    pub rest : drop n xs ≡ drop n ws

  -- from m places of the slice ws to n of the slice xs
  pub record Left (x : X) (ws : List X) (m : ℕ) (xs : List X) (n : ℕ) : Type 0 where
    pub fits : m ≤ length ws
    pub less : n + 1 ≡ m
    pub held : IsPermutation (take m ws) (x ∷ take n xs)
    pub queue : Queue ws m → Queue xs n
    pub rest : drop m xs ≡ drop m ws

  -- where x is Alone, that is Left
  abbrev pub Removed : (X → X → Bool) → X → List X → ℕ → List X → ℕ → Type 0
  Removed same x ws m xs n = (y : X) × (same y x ≡ true) × Left y ws m xs n

  -- from the slice ws to the slice xs, of which n places are held
  pub record Replaced (x y : X) (ws : List X) (n : ℕ) (xs : List X) : Type 0 where
    pub held : IsPermutation (x ∷ take n ws) (y ∷ take n xs)
    pub queue : Queue ws n → Queue xs n
    pub rest : drop n xs ≡ drop n ws

-- none is held, or more than the slice has places for
abbrev pub Vacant : {X : Type 0} → List X → ℕ → Type 0
Vacant xs n = (n ≡ 0) ⊎ (length xs < n)

-- only x itself is the same as x
abbrev pub Alone : {X : Type 0} → (X → X → Bool) → X → Type 0
Alone {X} same x = (y : X) → same y x ≡ true → y ≡ x

-- nothing that is the same as x is held, or more is held than the slice has places for
abbrev pub NoneAlike : {X : Type 0} → (X → X → Bool) → X → List X → ℕ → Type 0
NoneAlike {X} same x xs n = (length xs < n) ⊎ ((y : X) → same y x ≡ true → ContainsAt (take n xs) y → ⊥)

-- x is not held, or more is held than the slice has places for
abbrev pub Absent : {X : Type 0} → X → List X → ℕ → Type 0
Absent x xs n = (length xs < n) ⊎ (ContainsAt (take n xs) x → ⊥)
