-- Euclid's steps keep the common divisors of the two numbers, at every multiple of them; so the product over the
-- greatest common divisor is the least common multiple, and there is only one.
use Rattle.std.proofs.Common.{◌≡◌, ℕ, zero, suc, ◌+◌, ◌-◌, ◌*◌, ◌/◌, ◌%◌, ◌<◌, ◌≤◌, Bool, true, false, cond, eqb, sym, refl, ap, ◌∙◌, subst, mod-lt, mul_assoc, mul_comm, mul-pos, mul-add, arith, eqb-true}
use Prim.Native.Nat.{◌∣◌}
use native.Mathlib.Nat.{dvd_refl, dvd-zero, dvd-sub, dvd-mul_right_of_dvd, dvd-mul_left, dvd-mul_right, dvd-mod_iff, dvd_of_mul-dvd-mul_right, dvd_antisymm, div-mul_cancel, mod-add-div, pos_of_dvd_of_pos, mul-dvd-mul_left, mul-dvd-mul_right}
use borrow.Author.Tests.{eqb-false}
use Rattle.table.specs.Common.{Measure, LeastMultiple, euclid, gcd, lcm}

pub record Euclid (a b high low : ℕ) : Type 0 where
  pub some : 1 ≤ high
  pub down : (d : ℕ) → d ∣ high → d ∣ low → (d ∣ a) × (d ∣ b)
  pub up : (d x : ℕ) → d ∣ x * a → d ∣ x * b → (d ∣ x * high) × (d ∣ x * low)

pub euclid_none : (a b : ℕ) → 1 ≤ a → Euclid a b a b
euclid_none a b p = record { some = p; down = λ d h k. (h, k); up = λ d x h k. (h, k) }

-- a multiple of a rest
rest_of : (d x h l : ℕ) → d ∣ x * h → d ∣ x * l → d ∣ x * (h % l)
rest_of d x h l p q =
    let e : x * h ≡ x * (h % l) + (x * l) * (h / l) = ap (λ n. x * n) (sym (mod-add-div h l)) ∙ mul-add x (h % l) (l * (h / l)) ∙ ap (λ n. x * (h % l) + n) (sym (mul_assoc x l (h / l))) in
    let s : x * h - (x * l) * (h / l) ≡ x * (h % l) = omega arith in
    subst (λ n. d ∣ n) s (dvd-sub d p (dvd-mul_right_of_dvd d q (h / l)))

pub euclid_more : (a b high low : ℕ) → Euclid a b high low → (low ≡ 0 → ⊥) → Euclid a b low (high % low)
euclid_more a b high low s ne =
    record {
      some = omega (arith, ne);
      down = λ d h k. s.down d ((dvd-mod_iff d h).0 k) h;
      up = λ d x h k. let u = s.up d x h k in (u.1, rest_of d x high low u.0 u.1);
    }

pub euclid_all : (a b high low : ℕ) → Euclid a b high low → low ≡ 0 → Measure a b high
euclid_all a b high low s e =
    let both = s.down high (dvd_refl high) (subst (λ n. high ∣ n) (sym e) (dvd-zero high)) in
    record { some = s.some; left = both.0; right = both.1; greatest = λ d x h k. (s.up d x h k).0 }

-- a / g * b
pub least_multiple : (a b g : ℕ) → 1 ≤ a → 1 ≤ b → Measure a b g → LeastMultiple a b (a / g * b)
least_multiple a b g p q m =
    let whole : a / g * g ≡ a = div-mul_cancel g m.left in
    let right : b / g * g ≡ b = div-mul_cancel g m.right in
    let k : ℕ = a / g in
    let j : ℕ = b / g in
    let as_left : a * j ≡ k * b = ap (λ n. n * j) (sym whole) ∙ mul_assoc k g j ∙ ap (λ n. k * n) (mul_comm g j ∙ right) in
    let times : k * b * g ≡ a * b = mul_assoc k b g ∙ ap (λ n. k * n) (mul_comm b g) ∙ sym (mul_assoc k g b) ∙ ap (λ n. n * b) whole in
    let high : 0 < k = pos_of_dvd_of_pos {n = a} (subst (λ n. k ∣ n) whole (dvd-mul_right k g)) p in
    record {
      some = mul-pos high q;
      left = subst (λ n. a ∣ n) as_left (dvd-mul_right a j);
      right = dvd-mul_left b k;
      least = λ x u v. dvd_of_mul-dvd-mul_right (k * b) m.some (subst (λ n. n ∣ x * g) (sym times) (m.greatest (a * b) x
          (subst (λ n. a * b ∣ n) (mul_comm a x) (mul-dvd-mul_left b a v)) (mul-dvd-mul_right a u b)));
    }

-- the computed steps end with the greatest common divisor
euclid_measure : (n a b high low : ℕ) → Euclid a b high low → low < n → Measure a b (euclid n high low)
unfolding euclid
euclid_measure zero a b high low s h = absurd (omega arith)
euclid_measure (suc n) a b high low s h =
    let by : (v : Bool) → eqb low 0 ≡ v → Measure a b (cond v high (euclid n low (high % low))) = λ v. elim v as (λ v. eqb low 0 ≡ v → Measure a b (cond v high (euclid n low (high % low)))) [ true ↦ λ e. euclid_all a b high low s (eqb-true low 0 e) | false ↦ λ e. let some : low ≡ 0 → ⊥ = eqb-false low 0 e in let less : high % low < low = mod-lt high (omega arith) in euclid_measure n a b low (high % low) (euclid_more a b high low s some) (omega arith) ] in
    by (eqb low 0) refl

pub lcm_least : (a b : ℕ) → 1 ≤ a → 1 ≤ b → LeastMultiple a b (lcm a b)
unfolding lcm gcd
lcm_least a b p q = least_multiple a b (gcd a b) p q (euclid_measure (b + 1) a b a b (euclid_none a b p) (omega arith))

pub least_unique : (a b m n : ℕ) → LeastMultiple a b m → LeastMultiple a b n → m ≡ n
least_unique a b m n s t = dvd_antisymm (s.least n t.left t.right) (t.least m s.left s.right)
