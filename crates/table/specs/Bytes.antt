-- Which bytes may stand at which position of a name or a number. Assumes nothing.
--   is_name_byte i b     the byte b may stand at the position i of a name
--   is_number_byte i b   the same of a number
--   stretch t i bs       where the bytes stop that may stand at the positions from i on
--   Tells says t         what the code says of a byte at a position is what the test t does
use Rattle.std.specs.Prelude.{◌≡◌, ℕ, ◌+◌, ◌^◌, ◌<◌, Bool, cond, ◌&&◌, ◌||◌, List, [], ◌∷◌, ◌==◌, nat_lt}
use Rattle.table.specs.Lines.{letter, digit, lead}

abbrev pub is_name_byte : ℕ → ℕ → Bool
is_name_byte i b = nat_lt i 12 && (letter b || (nat_lt 0 i && digit b))

abbrev pub is_number_byte : ℕ → ℕ → Bool
is_number_byte i b = nat_lt i 7 && (lead b || (nat_lt 0 i && b == 48))

abbrev pub stretch : (ℕ → ℕ → Bool) → ℕ → List ℕ → ℕ
stretch t i [] = i
stretch t i (b ∷ bs) = cond (t i b) (stretch t (i + 1) bs) i

abbrev pub Tells : (ℕ → ℕ → Bool → Type 0) → (ℕ → ℕ → Bool) → Type 0
Tells says t = (b i : ℕ) (r : Bool) → b < 2 ^ 8 → i < 2 ^ 64 → says b i r → r ≡ t i b
