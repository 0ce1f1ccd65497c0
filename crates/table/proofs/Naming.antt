-- A cursor that has moved over the first line and i rows of an accepted text stands at the line of the row i, so it
-- moves over that line too, and the name that it finds there is the row's, behind how such a line begins.
use Rattle.std.proofs.Common.{◌≡◌, ℕ, ◌+◌, ◌<◌, ◌≤◌, List, [], ◌∷◌, ◌++◌, length, get_or, take, drop, Ok, Result, sym, refl, ap, ◌∙◌, subst, true≢false, append_assoc, append-nil, arith, take-append-drop}
use Rattle.std.proofs.ByRecursion.{All-get_or}
use Rattle.std.proofs.lemmas.List.{drop_more, take_more, take_at, drop_at, drop-drop, length-append, length-map, get_or-map, flat_map_more}
use Rattle.refusal.specs.declared.cases.Refusal.{Refusal}
use Rattle.table.specs.Lines.{count_line, row_title, row_line}
use Rattle.table.specs.Names.{Named}
use Rattle.table.specs.Readings.{Reads}
use Rattle.table.specs.Rows.{rows_of}
use Rattle.table.specs.Steps.{Past, Stuck}
use Rattle.table.specs.Texts.{RowText, Written, lines, place_after, name_at, Accepts}
use Rattle.table.specs.declared.rows.Table.{Table}
use Rattle.table.specs.declared.task.Task.{Task}
use Rattle.table.proofs.Follows.{row_found, count_found}
use Rattle.table.proofs.Lawful.{exactly_front, word_front}
use Rattle.table.proofs.Lined.{Found, past_found, stuck_found}

-- a table that was read has as many tasks as its text has rows
pub table_rows : (text : List ℕ) (r : Result Table Refusal) (table : Table) (ts : List Task) → Reads text r → r ≡ Ok table → ts ≡ rows_of table → (rows : List RowText) → Accepts text rows → length ts ≡ length rows
table_rows text r table ts reads is e rows a = let told : Reads text (Ok table) = subst (Reads text) is reads in ap length (e ∙ told.accepted rows a) ∙ length-map rows (λ w. w.task)

pub below : (i row m n : ℕ) → i < row → row < m → m ≡ n → i < n
below i row m n h k e = omega arith

pub less : (row m n : ℕ) → row < m → m ≡ n → row < n
less row m n h e = omega arith

pub met : (i row : ℕ) → row ≤ i → i ≤ row → i ≡ row
met i row h k = omega arith

module _ (text : List ℕ) (rows : List RowText) (a : Accepts text rows) where
  first_found : Found count_line text 0 (a.counted.0 ∷ []) (lines rows) (length a.first)
  first_found =
      let split : text ≡ a.first ++ lines rows = a.parts ∙ append-nil (a.first ++ lines rows) in
      subst (λ xs. Found count_line xs 0 (a.counted.0 ∷ []) (lines rows) (length a.first)) (sym split) (count_found a.first (lines rows) (length rows) a.counted)

  pub first_not_stuck : (q : ℕ) → Stuck count_line text 0 q → ⊥
  first_not_stuck q s = true≢false (sym first_found.fits ∙ (stuck_found count_line text 0 q s).0)

  pub first_passed : (ws : List (List ℕ)) (rest : List ℕ) (q : ℕ) → Past count_line text 0 ws rest q → (rest ≡ lines (drop 0 rows)) × (q ≡ place_after a.first (take 0 rows))
  first_passed ws rest q m =
      let f = past_found count_line text 0 ws rest q m in
      (f.left ∙ sym first_found.left, f.place ∙ sym first_found.place ∙ ap length (sym (append-nil a.first)))

  module _ (i : ℕ) (low : i < length rows) (bs : List ℕ) (p : ℕ) (at-line : bs ≡ lines (drop i rows)) (at_place : p ≡ place_after a.first (take i rows)) where
    abbrev row : RowText
    row = get_or rows i (record { line = []; name = []; task = record { run = 0; due = 0; gap = 0 } })

    abbrev after : List ℕ
    after = lines (drop (i + 1) rows)

    row_written : Written row
    row_written = All-get_or Written rows i (record { line = []; name = []; task = record { run = 0; due = 0; gap = 0 } }) low a.written

    begins_with : bs ≡ row.line ++ after
    begins_with = at-line ∙ ap lines (drop_more rows i (record { line = []; name = []; task = record { run = 0; due = 0; gap = 0 } }) low)

    found : Found row_line bs p (row.name ∷ row_written.0 ∷ row_written.1 ∷ row_written.2 ∷ []) after (p + length row.line)
    found = subst (λ xs. Found row_line xs p (row.name ∷ row_written.0 ∷ row_written.1 ∷ row_written.2 ∷ []) after (p + length row.line)) (sym begins_with) (row_found p row after row_written)

    pub row_not_stuck : (q : ℕ) → Stuck row_line bs p q → ⊥
    row_not_stuck q s = true≢false (sym found.fits ∙ (stuck_found row_line bs p q s).0)

    pub row_passed : (ws : List (List ℕ)) (rest : List ℕ) (q : ℕ) → Past row_line bs p ws rest q → (rest ≡ lines (drop (i + 1) rows)) × (q ≡ place_after a.first (take (i + 1) rows))
    row_passed ws rest q m =
        let f = past_found row_line bs p ws rest q m in
        let grown : (a.first ++ lines (take i rows)) ++ row.line ≡ a.first ++ lines (take i rows ++ (row ∷ [])) = flat_map_more (λ r. r.line) a.first (take i rows) row in
        let one_more : take (i + 1) rows ≡ take i rows ++ (row ∷ []) = take_more rows i (record { line = []; name = []; task = record { run = 0; due = 0; gap = 0 } }) low in
        let there : p + length row.line ≡ place_after a.first (take (i + 1) rows) =
        ap (λ n. n + length row.line) at_place ∙ sym (length-append (a.first ++ lines (take i rows)) row.line) ∙ ap length grown ∙ ap (place_after a.first) (sym one_more) in
        (f.left ∙ sym found.left, f.place ∙ sym found.place ∙ there)

    name_same : name_at rows i ≡ row.name
    name_same = get_or-map (λ r. r.name) rows i (record { line = []; name = []; task = record { run = 0; due = 0; gap = 0 } }) [] low

    -- the text from the line on
    text_there : drop p text ≡ bs
    text_there =
        let front = a.first ++ lines (take i rows) in
        let whole : text ≡ front ++ bs = a.parts ∙ append-nil (a.first ++ lines rows) ∙ split_lines in
        ap (drop p) whole ∙ drop_at front bs p (sym at_place)
      where
        lines_both : (xs ys : List RowText) → lines (xs ++ ys) ≡ lines xs ++ lines ys
        lines_both [] ys = refl
        lines_both (x ∷ xs) ys = ap (λ zs. x.line ++ zs) (lines_both xs ys) ∙ sym (append_assoc x.line (lines xs) (lines ys))

        split_lines : a.first ++ lines rows ≡ (a.first ++ lines (take i rows)) ++ bs
        split_lines =
            ap (λ xs. a.first ++ lines xs) (sym (take-append-drop i rows))
            ∙ ap (λ zs. a.first ++ zs) (lines_both (take i rows) (drop i rows) ∙ ap (λ zs. lines (take i rows) ++ zs) (sym at-line))
            ∙ sym (append_assoc a.first (lines (take i rows)) bs)

    pub row_named : (name run due gap rest : List ℕ) (q : ℕ) → Past row_line bs p (name ∷ run ∷ due ∷ gap ∷ []) rest q → Named text rows a i name
    row_named name run due gap rest q m =
        let f = past_found row_line bs p (name ∷ run ∷ due ∷ gap ∷ []) rest q m in
        let same : name ≡ row.name = ap (λ ws. get_or ws 0 []) (sym f.words ∙ found.words) in
        let title = exactly_front row_title row_written.3 in
        let word = word_front title.2 in
        let back = word.0 ++ after in
        let line : bs ≡ row_title ++ (row.name ++ back) =
        begins_with ∙ ap (λ xs. xs ++ after) (title.1 ∙ ap (λ xs. row_title ++ xs) word.1) ∙ append_assoc row_title (row.name ++ word.0) after ∙ ap (λ xs. row_title ++ xs) (append_assoc row.name word.0 after) in
        let there : drop (p + length row_title) text ≡ row.name ++ back =
        sym (drop-drop (length row_title) p text) ∙ ap (drop (length row_title)) (text_there ∙ line) ∙ drop_at row_title (row.name ++ back) (length row_title) refl in
        let part : take (length row.name) (drop (p + length row_title) text) ≡ row.name = ap (take (length row.name)) there ∙ take_at row.name back (length row.name) refl in
        record {
          stands = low;
          name = same ∙ sym name_same;
          place = same ∙ sym part ∙ ap (λ n. take (length n) (drop (p + length row_title) text)) (sym name_same) ∙ ap (λ k. take (length (name_at rows i)) (drop (k + length row_title) text)) at_place;
        }
