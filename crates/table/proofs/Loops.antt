-- What is known of the bytes of a number: up to where they stop each may stand at its place, and so is a digit.
use Rattle.std.proofs.Common.{◌≡◌, ℕ, zero, suc, ◌+◌, ◌<◌, ◌≤◌, Bool, true, false, cond, List, [], ◌∷◌, length, get_or, take, drop, sym, refl, add-zero, arith}
use Rattle.std.proofs.lemmas.List.{drop_more}
use Rattle.std.proofs.lemmas.Bool.Decides.{nat_tests}
use Rattle.table.specs.Bytes.{stretch, is_number_byte}

pub digit_is : (i b : ℕ) → is_number_byte i b ≡ true → (i < 7) × ((48 ≤ b) × (b ≤ 57))
digit_is i b e = grind (arith, nat_tests)

-- where the bytes from i on stop only at the end, the byte at i may stand there
pub allowed : (t : ℕ → ℕ → Bool) (xs : List ℕ) (i : ℕ) → i < length xs → stretch t i (drop i xs) ≡ length xs → t i (get_or xs i 0) ≡ true
allowed t xs i low all =
    let here : stretch t i (get_or xs i 0 ∷ drop (i + 1) xs) ≡ length xs = rw (drop_more xs i 0 low) at all in
    elim (t i (get_or xs i 0)) as (λ v. cond v (stretch t (i + 1) (drop (i + 1) xs)) i ≡ length xs → v ≡ true) [ true ↦ λ _. refl | false ↦ λ e. absurd (omega arith) ] here

-- the bytes up to where they stop are all that may stand there
pub stretch_front : (t : ℕ → ℕ → Bool) (i n : ℕ) (xs : List ℕ) → stretch t i xs ≡ i + n → stretch t i (take n xs) ≡ i + n
stretch_front t i zero xs e = sym (add-zero i)
stretch_front t i (suc n) [] e = e
stretch_front t i (suc n) (b ∷ bs) e =
    elim (t i b) as (λ v. cond v (stretch t (i + 1) bs) i ≡ i + suc n → cond v (stretch t (i + 1) (take n bs)) i ≡ i + suc n) [
      | true ↦ λ k. let more = stretch_front t (i + 1) n bs (omega arith) in omega arith
      | false ↦ λ k. absurd (omega arith)
    ] e
