-- A name is looked for among those before it, one after the other: each that differs leaves the answer to the rest.
use Rattle.std.proofs.Common.{◌≡◌, ℕ, ◌+◌, ◌<◌, ◌≤◌, Bool, true, false, ◌||◌, List, length, get_or, drop, Decides, sym, ap, ◌∙◌, Bor, rules}
use Rattle.std.proofs.lemmas.Slice.Eq.{bytes_eq-Decides}
use Rattle.std.proofs.lemmas.List.{at_drop_more, at_drop_all}
use Rattle.std.specs.Str.{bytes_eq}
use Rattle.table.specs.Readings.{contents}
use Rattle.table.specs.Verdict.{taken}

pub tested : (xs ys : List ℕ) (r : Bool) → Decides r (xs ≡ ys) → bytes_eq xs ys ≡ r
tested xs ys r h = sym (told r h)
  where
    told : (r : Bool) → Decides r (xs ≡ ys) → r ≡ bytes_eq xs ys
    told r h = search (rules, bytes_eq-Decides)

module _ (names : List (Bor (List ℕ))) (i : ℕ) (d : Bor (List ℕ)) (name : List ℕ) where
  step : i < length names → taken name (contents (drop i names)) ≡ (bytes_eq (get_or names i d).now name || taken name (contents (drop (i + 1) names)))
  step h = at_drop_more (λ xs. taken name (contents xs)) names i d h

  pub taken_here : i < length names → bytes_eq (get_or names i d).now name ≡ true → taken name (contents (drop i names)) ≡ true
  taken_here h e = step h ∙ ap (λ v. v || taken name (contents (drop (i + 1) names))) e

  pub taken_more : i < length names → bytes_eq (get_or names i d).now name ≡ false → taken name (contents (drop i names)) ≡ taken name (contents (drop (i + 1) names))
  taken_more h e = step h ∙ ap (λ v. v || taken name (contents (drop (i + 1) names))) e

pub taken_none : (names : List (Bor (List ℕ))) (i : ℕ) (name : List ℕ) → length names ≤ i → taken name (contents (drop i names)) ≡ false
taken_none names i name h = at_drop_all (λ xs. taken name (contents xs)) names i h
