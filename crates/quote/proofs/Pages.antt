-- A page is written part by part: what was there, and then each part in turn.
use Rattle.std.proofs.Common.{◌≡◌, ℕ, zero, suc, ◌+◌, ◌<◌, ◌≤◌, List, [], ◌∷◌, ◌++◌, map, length, get_or, drop, Some, None, sym, refl, ap, ◌∙◌, ⊎_elim, append_assoc, append-nil, add-one, arith, Bor}
use Rattle.std.proofs.lemmas.List.{drop_all, length-map}
use Rattle.std.specs.List.{slice_get}
use Rattle.table.specs.Names.{Names}
use Rattle.table.specs.Texts.{RowText, Accepts}
use Rattle.quote.specs.Printed.{sleep_text, sleep_texts, names_in_reading, names_in}
use Rattle.table.proofs.Decides.{decided}
use Rattle.table.proofs.Follows.{accepts_verdict, refuses_verdict}

nth_there : (xs : List (List ℕ)) (i : ℕ) → i < length xs → Some (get_or xs i []) ≡ slice_get xs i
nth_there [] i h = absurd (omega arith)
nth_there (x ∷ xs) zero h = refl
nth_there (x ∷ xs) (suc i) h = nth_there xs i (omega arith)

nth_past : (xs : List (List ℕ)) (i : ℕ) → length xs ≤ i → None ≡ slice_get xs i
nth_past [] i h = refl
nth_past (x ∷ xs) zero h = absurd (omega arith)
nth_past (x ∷ xs) (suc i) h = nth_past xs i (omega arith)

-- the names that were read are those of the text's rows
names_are : (text : List ℕ) (rows : List RowText) → Accepts text rows → names_in text ≡ map (λ row. row.name) rows
names_are text rows a = let v = accepts_verdict text rows a in ap names_in_reading v.2 ∙ v.1.same_names

-- the name of a row is the one at its place in the list of names
pub name_there : (text : List ℕ) (row : ℕ) (part : Bor (List ℕ)) → Names text row (Some part) → Some part.now ≡ slice_get (names_in text) row
name_there text row part n =
    let rows = n.0.0 in
    let is = n.1 rows n.0.1 in
    let inside : row < length (map (λ (r : RowText). r.name) rows) = rw length-map is.stands in
    ap Some is.name ∙ nth_there (map (λ r. r.name) rows) row inside ∙ ap (λ xs. slice_get xs row) (sym (names_are text rows n.0.1))

pub name_none : (text : List ℕ) (row : ℕ) → ((rows : List RowText) → Accepts text rows → length rows ≤ row) → None ≡ slice_get (names_in text) row
name_none text row past =
    ⊎_elim
    (λ a. let out : length (map (λ (r : RowText). r.name) a.0) ≤ row = rw length-map (past a.0 a.1) in
    nth_past (map (λ r. r.name) a.0) row out ∙ ap (λ xs. slice_get xs row) (sym (names_are text a.0 a.1)))
    (λ x. ap (λ v. slice_get (names_in_reading v) row) (sym (refuses_verdict text x.0 x.1)))
    (decided text)

-- one row's line, and then those of the rows after it
texts_more : (names : List (List ℕ)) (sleeps : List ℕ) (row : ℕ) (name : List ℕ) (sleep : ℕ) → Some name ≡ slice_get names row → Some sleep ≡ slice_get sleeps row
    → sleep_texts (drop row names) (drop row sleeps) ≡ sleep_text name sleep ++ sleep_texts (drop (suc row) names) (drop (suc row) sleeps)
texts_more [] sleeps row name sleep h k = absurd (let z : ◌≡◌ {A = ℕ} 0 1 = cc in omega arith)
texts_more (n ∷ names) [] row name sleep h k = absurd (let z : ◌≡◌ {A = ℕ} 0 1 = cc in omega arith)
texts_more (n ∷ names) (s ∷ sleeps) zero name sleep h k =
    let a : n ≡ name = cc in
    let b : s ≡ sleep = cc in
    ap (λ x. sleep_text x s ++ sleep_texts names sleeps) a ∙ ap (λ x. sleep_text name x ++ sleep_texts names sleeps) b
texts_more (n ∷ names) (s ∷ sleeps) (suc row) name sleep h k = texts_more names sleeps row name sleep h k

no_texts : (names : List (List ℕ)) → sleep_texts names [] ≡ []
no_texts [] = refl
no_texts (n ∷ names) = refl

dropped : {X : Type 0} (xs : List X) (row : ℕ) → None ≡ slice_get xs row → drop row xs ≡ []
dropped [] row h = drop_all row [] (omega arith)
dropped (x ∷ xs) zero h = absurd (let z : ◌≡◌ {A = ℕ} 0 1 = cc in omega arith)
dropped (x ∷ xs) (suc row) h = dropped xs row h

module _ (page old : List ℕ) (names : List (List ℕ)) (sleeps : List ℕ) (row : ℕ) (so_far : page ++ sleep_texts (drop row names) (drop row sleeps) ≡ old ++ sleep_texts names sleeps) where
  -- a row's line was added
  pub row_added : (name : List ℕ) (sleep : ℕ) (after : List ℕ) → Some name ≡ slice_get names row → Some sleep ≡ slice_get sleeps row → after ≡ page ++ sleep_text name sleep
      → after ++ sleep_texts (drop (row + 1) names) (drop (row + 1) sleeps) ≡ old ++ sleep_texts names sleeps
  row_added name sleep after h k is =
      rw add-one (
      ap (λ xs. xs ++ sleep_texts (drop (suc row) names) (drop (suc row) sleeps)) is
      ∙ append_assoc page (sleep_text name sleep) (sleep_texts (drop (suc row) names) (drop (suc row) sleeps))
      ∙ ap (λ xs. page ++ xs) (sym (texts_more names sleeps row name sleep h k))
      ∙ so_far)

  over : sleep_texts (drop row names) (drop row sleeps) ≡ [] → page ≡ old ++ sleep_texts names sleeps
  over h = sym (append-nil page) ∙ ap (λ xs. page ++ xs) (sym h) ∙ so_far

  -- no row is left
  pub no_name_left : None ≡ slice_get names row → page ≡ old ++ sleep_texts names sleeps
  no_name_left h = over (ap (λ xs. sleep_texts xs (drop row sleeps)) (dropped names row h))

  pub no_sleep_left : None ≡ slice_get sleeps row → page ≡ old ++ sleep_texts names sleeps
  no_sleep_left h = over (ap (λ xs. sleep_texts (drop row names) xs) (dropped sleeps row h) ∙ no_texts (drop row names))

  pub all_added : length sleeps ≤ row → page ≡ old ++ sleep_texts names sleeps
  all_added h = over (ap (λ xs. sleep_texts (drop row names) xs) (drop_all row sleeps h) ∙ no_texts (drop row names))
