-- A result whose error is made into another by `map_err`: what was said of it still tells of the value, and the error
-- that a caller sees comes from the one that it had.
use Rattle.std.proofs.Common.{◌≡◌, ℕ, Some, None, Option, Ok, Err, Result, MatchResult, refl, ap, subst, arith}
use Rattle.std.specs.Result.{IsErrAnd, result_ok}
use Rattle.std.proofs.lemmas.Result.{err_from_is_err_and}

module _ {X E D : Type 0} (P : X → Type 0) (Q : E → Type 0) (Made : E → D → Type 0) where
  pub mapped_ok : (r : Result X E) (s : Result X D) (v : X) → MatchResult r (λ x. s ≡ Ok x) (λ e. IsErrAnd s (Made e)) → s ≡ Ok v → MatchResult r P Q → P v
  mapped_ok (Ok x) s v h is said = let same : x ≡ v = cc in subst P same said
  mapped_ok (Err e) s v h is said = let y = err_from_is_err_and s h in absurd (let z : ◌≡◌ {A = ℕ} 0 1 = cc (y.1, is) in omega arith)

  pub mapped_err : (r : Result X E) (s : Result X D) (d : D) → MatchResult r (λ x. s ≡ Ok x) (λ e. IsErrAnd s (Made e)) → s ≡ Err d → MatchResult r P Q → (e : E) × Q e × Made e d
  mapped_err (Ok x) s d h is said = absurd (let z : ◌≡◌ {A = ℕ} 0 1 = cc in omega arith)
  mapped_err (Err e) s d h is said =
      let y = err_from_is_err_and s h in
      let same : y.0 ≡ d = cc (y.1, is) in
      (e, said, subst (Made e) same y.2)

-- the same of a result that `ok` makes an option
module _ {X E : Type 0} where
  pub ok_some : (r : Result X E) (o : Option X) (v : X) → o ≡ result_ok r → o ≡ Some v → r ≡ Ok v
  ok_some (Ok x) o v e is = let same : x ≡ v = cc in ap Ok same
  ok_some (Err d) o v e is = absurd (let z : ◌≡◌ {A = ℕ} 0 1 = cc in omega arith)

  pub ok_none : (r : Result X E) (o : Option X) → o ≡ result_ok r → o ≡ None → (d : E) × (r ≡ Err d)
  ok_none (Ok x) o e is = absurd (let z : ◌≡◌ {A = ℕ} 0 1 = cc in omega arith)
  ok_none (Err d) o e is = (d, refl)
