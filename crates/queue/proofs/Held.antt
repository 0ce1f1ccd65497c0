-- The elements of a queue, as one comes and one goes.
use Rattle.std.proofs.Common.{◌≡◌, ℕ, zero, suc, ◌+◌, ◌-◌, ◌<◌, ◌≤◌, Bool, true, false, inl, ⊎_elim, None, Some, Option, MatchOption, slice_get, List, [], ◌∷◌, ◌++◌, length, get_or, take, drop, set, position, sym, refl, ap, ◌∙◌, subst, arith}
use Rattle.std.specs.List.Sorted.{IsPermutation}
use Rattle.std.proofs.lemmas.List.{length-take-le, length-append, length-set, get_or-take, drop-set-lt, get_or-set_other, take_all, take_at, take-append-le, take_more, take_more_set}
use Rattle.std.proofs.lemmas.Bool.{true≢false}
use Rattle.std.proofs.lemmas.List.Sums.{fails_before_first}
use Rattle.std.proofs.lemmas.Option.{slice_get_within, get_or_from_slice_get, slice_get_cases, none-some}
use Rattle.std.proofs.lemmas.Slice.{drop-append-drop}
use Rattle.std.proofs.lemmas.List.Sorted.{IsPermutation-sym, IsPermutation-trans, IsPermutation-cons, IsPermutation-to_front, IsPermutation-swap, length_permutation}
use Rattle.std.specs.List.{ContainsAt, position_or_len}
use Rattle.std.proofs.lemmas.Grind.{common_steps}
use Rattle.std.proofs.ByRecursion.{All-from_get_or, has_get_or}
use Rattle.queue.specs.Order.{Ranked}
use Rattle.queue.specs.Queue.{Heaped, Least, First, Left, Vacant}
use Rattle.queue.specs.Sift.{Gap, TakenOut}
use Rattle.queue.proofs.Heaps.{by, paired, top}

module _ {X : Type 0} where
  has_held : (xs : List X) (n i : ℕ) (x : X) → i < n → n ≤ length xs → x ≡ get_or xs i x → ContainsAt (take n xs) x
  has_held xs n i x b l e =
      let a : length (take n xs) ≡ n = length-take-le n xs l in
      subst (ContainsAt (take n xs)) (get_or-take n xs i x b ∙ sym e) (has_get_or (take n xs) i x (omega arith))

module _ {X : Type 0} (before : X → X → Bool) (o : Ranked before) where
  -- all but the element at j are those of a heap
  opened : (xs zs : List X) (j : ℕ) → ((k : ℕ) (d : X) → (k ≡ j → ⊥) → k < length zs → get_or zs k d ≡ get_or xs k d) → ((k : ℕ) → (k ≡ j → ⊥) → k < length zs → k < length xs) → Heaped before xs → Gap before zs j
  opened xs zs j same in' heap = let h = paired before xs heap in (
    λ p k d a b f u v. by before _ _ _ _ (same k d v f) (same p d u (omega arith)) (h p k d a b (in' k v f)),
    λ p k d a b f g i.
        let n : k < length xs = in' k (omega arith) i in
        by before _ _ _ _ (same k d (omega arith) i) (same p d (omega arith) (omega arith)) (o.chain _ _ _ (h p j d a b (omega arith)) (h j k d f g n)),
  )

  pub put_last : (xs : List X) (n : ℕ) (x : X) → n < length xs → Heaped before (take n xs) → Gap before (take (n + 1) (set xs n x)) n
  put_last xs n x l h =
      let w = set xs n x in
      let a : length (take (n + 1) w) ≡ n + 1 = length-take-le (n + 1) w (omega (arith, length-set xs n x)) in
      let b : length (take n xs) ≡ n = length-take-le n xs (omega arith) in
      opened (take n xs) (take (n + 1) w) n
      (λ k d u f. get_or-take (n + 1) w k d (omega arith) ∙ get_or-set_other xs n k x d u ∙ sym (get_or-take n xs k d (omega arith)))
      (λ k u f. omega arith) h

  pub put_first : (xs : List X) (n : ℕ) (x : X) → 1 ≤ n → n ≤ length xs → Heaped before (take n xs) → Gap before (take n (set xs 0 x)) 0
  put_first xs n x i l h =
      let w = set xs 0 x in
      let a : length (take n w) ≡ n = length-take-le n w (omega (arith, length-set xs 0 x)) in
      let b : length (take n xs) ≡ n = length-take-le n xs (omega arith) in
      opened (take n xs) (take n w) 0
      (λ k d u f. get_or-take n w k d (omega arith) ∙ get_or-set_other xs 0 k x d u ∙ sym (get_or-take n xs k d (omega arith)))
      (λ k u f. omega arith) h

  pub last_out : (xs ys : List X) (at n : ℕ) → at < length xs → n + 1 ≡ length xs → length ys ≡ length xs → ((k : ℕ) (d : X) → (k ≡ at → ⊥) → (k ≡ n → ⊥) → get_or ys k d ≡ get_or xs k d) → Heaped before xs → Gap before (take n ys) at
  last_out xs ys at n i e l other h =
      let a : length (take n ys) ≡ n = length-take-le n ys (omega arith) in
      opened xs (take n ys) at (λ k d u f. get_or-take n ys k d (omega arith) ∙ other k d u (omega arith)) (λ k u f. omega arith) h

  least_first : (xs : List X) (n : ℕ) (x : X) → 0 < n → n ≤ length xs → x ≡ get_or xs 0 x → Heaped before (take n xs) → Least before x (take n xs)
  least_first xs n x z l e h =
      let a : length (take n xs) ≡ n = length-take-le n xs l in
      All-from_get_or (λ y. before y x ≡ false) (take n xs) x (λ k f. by before _ _ _ _ refl (e ∙ sym (get_or-take n xs 0 x z)) (top before o (take n xs) x h k f))

  pub first : (xs : List X) (n : ℕ) (x : X) → 1 ≤ n → n ≤ length xs → x ≡ get_or xs 0 x → First before x xs n
  first xs n x some fits e =
      record {
        some = some;
        fits = fits;
        value = e;
        held = has_held xs n 0 x some fits e;
        least = λ q. least_first xs n x some fits e q.1;
      }

  pub first_of : (r : Option X) (xs : List X) (n : ℕ) → n ≤ length xs → r ≡ slice_get (take n xs) 0 → MatchOption r (Vacant xs n) (λ x. First before x xs n)
  first_of None xs n l e = ⊎_elim
      (λ h. absurd (none-some h.0 (e ∙ h.2)))
      (λ h. inl (omega (arith, h.0, length-take-le n xs l)))
      (slice_get_cases (take n xs) 0).1
  first_of (Some x) xs n l e =
      let inside : 0 < length (take n xs) = slice_get_within (take n xs) 0 x (sym e) in
      let some : 1 ≤ n = omega (arith, length-take-le n xs l) in
      first xs n x some l (sym (get_or_from_slice_get (take n xs) 0 x x (sym e)) ∙ get_or-take n xs 0 x some)

module _ {X : Type 0} where
  pub came : (xs ys : List X) (n : ℕ) (x : X) → n < length xs → IsPermutation (take (n + 1) (set xs n x)) ys → IsPermutation (x ∷ take n xs) ys
  came xs ys n x l s =
      IsPermutation-trans (x ∷ take n xs) (take n xs ++ x ∷ []) ys (IsPermutation-sym (take n xs ++ x ∷ []) (x ∷ take n xs) (IsPermutation-to_front (take n xs) x))
      (subst (λ w. IsPermutation w ys) (take_more_set xs n x l) s)

  swap_front : (xs : List X) (n : ℕ) (x r : X) → 1 ≤ n → n ≤ length xs → r ≡ get_or xs 0 r → IsPermutation (x ∷ take n xs) (r ∷ take n (set xs 0 x))
  swap_front [] n x r i l e = absurd (omega arith)
  swap_front (a ∷ ws) zero x r i l e = absurd (omega arith)
  swap_front (a ∷ ws) (suc m) x r i l e =
      subst (λ z. IsPermutation (x ∷ a ∷ take m ws) (z ∷ x ∷ take m ws)) (sym e)
      (IsPermutation-swap (x ∷ a ∷ take m ws) (a ∷ x ∷ take m ws) 0 1 (omega arith) (omega arith) refl)

  pub replaced : (xs ys : List X) (n : ℕ) (x r : X) → 1 ≤ n → n ≤ length xs → r ≡ get_or xs 0 r → IsPermutation (take n (set xs 0 x)) ys → IsPermutation (x ∷ take n xs) (r ∷ ys)
  replaced xs ys n x r i l e s =
      IsPermutation-trans (x ∷ take n xs) (r ∷ take n (set xs 0 x)) (r ∷ ys) (swap_front xs n x r i l e)
      (IsPermutation-cons r (take n (set xs 0 x)) ys s)

  pub went : (xs ys zs : List X) (n : ℕ) (x : X) → n + 1 ≡ length xs → length ys ≡ length xs → x ≡ get_or ys n x → IsPermutation xs ys → IsPermutation (take n ys) zs → IsPermutation xs (x ∷ zs)
  went xs ys zs n x e l is s t =
      let all : ys ≡ take n ys ++ x ∷ [] = sym (take_all (n + 1) ys (omega arith)) ∙ take_more ys n x (omega arith) ∙ ap (λ w. take n ys ++ w ∷ []) (sym is) in
      IsPermutation-trans xs (x ∷ take n ys) (x ∷ zs)
      (IsPermutation-trans xs (take n ys ++ x ∷ []) (x ∷ take n ys) (subst (IsPermutation xs) all s) (IsPermutation-to_front (take n ys) x))
      (IsPermutation-cons x (take n ys) zs t)

  -- what a part from the start holds, once it is put back
  pub part_back : (xs ys rest : List X) (n : ℕ) → n ≤ length xs → IsPermutation (take n xs) ys → take n (ys ++ rest) ≡ ys
  part_back xs ys rest n l s = take_at ys rest n (length_permutation (take n xs) ys s ∙ length-take-le n xs l)

  -- and what lies past that part, where the element at i in it was set before
  rest_back : (xs ys : List X) (n : ℕ) → length ys ≡ n → drop n (ys ++ drop n xs) ≡ drop n xs
  rest_back xs ys n l = drop-append-drop n xs ys n (omega arith) l

  pub rest_set : (xs ys : List X) (n i : ℕ) (x : X) → length ys ≡ n → i < n → drop n (ys ++ drop n (set xs i x)) ≡ drop n xs
  rest_set xs ys n i x l b = rest_back (set xs i x) ys n l ∙ drop-set-lt n xs i x b

  -- where the search ended without a find, nothing that passes is held
  pub not_found : (p : X → Bool) (xs : List X) (y : X) → position p xs ≡ None → p y ≡ true → ContainsAt xs y → ⊥
  not_found p xs y none pass (k, b, e) =
      let past : length xs ≤ position_or_len p xs = grind (arith, common_steps) in
      let fail : p (get_or xs k y) ≡ false = fails_before_first p xs k y (omega arith) in
      true≢false (sym pass ∙ sym (ap p (e y)) ∙ fail)

  pub within_front : (ys rest : List X) (n : ℕ) → n ≤ length ys → n ≤ length (ys ++ rest)
  within_front ys rest n h = omega (arith, length-append ys rest)

  -- what went out of the part that is held went out of the queue
  pub went_out : (before : X → X → Bool) (xs zs : List X) (n j : ℕ) (x : X) → n ≤ length xs → length zs ≡ length (take n xs) → TakenOut before x j (take n xs) zs
      → Left before x xs n (zs ++ drop n xs) (n - 1)
  went_out before xs zs n j x fits long out =
      let whole : length (take n xs) ≡ n = length-take-le n xs fits in
      let inside = out.inside in
      let back : take (n - 1) (zs ++ drop n xs) ≡ take (n - 1) zs = take-append-le (n - 1) zs (drop n xs) (omega arith) in
      record {
        fits = fits;
        less = omega arith;
        held = subst (λ l. IsPermutation (take n xs) (x ∷ l)) (sym back) (subst (λ m. IsPermutation (take n xs) (x ∷ take (m - 1) zs)) whole out.held);
        queue = λ q. (
          within_front zs (drop n xs) (n - 1) (omega arith),
          subst (Heaped before) (sym back) (subst (λ m. Heaped before (take (m - 1) zs)) whole (out.heaped q.1)),
        );
        rest = rest_back xs zs n (long ∙ whole);
      }
