-- The verdict follows the reader through the text: after each line, what is left to ask of the rest gives the verdict
-- on the whole.
use Rattle.std.proofs.Common.{◌≡◌, ℕ, suc, ◌+◌, ◌-◌, ◌<◌, ◌≤◌, false, cond, ◌&&◌, leb, List, [], ◌∷◌, ◌++◌, length, get_or, drop, Ok, Err, sym, refl, ap, ◌∙◌, arith, Bor, eq-eqb, ne_eqb, le-leb}
use native.Mathlib.Nat.{sub-zero}
use borrow.Author.Tests.{lt-leb}
use Rattle.refusal.specs.declared.cases.Refusal.{Refusal}
use Rattle.refusal.specs.declared.cases.Refusal.TheVariants.{TextLength, LineForm, RowCount, TextAfter}
use Rattle.table.specs.Lines.{count_line, row_line, decimal}
use Rattle.table.specs.Drafts.{drafted, common_so_far}
use Rattle.table.specs.Readings.{contents, reading, Takes}
use Rattle.table.specs.Scan.{reaches, fitting}
use Rattle.table.specs.Verdict.{Reading, nothing_read, at, then_ask, lined, rows_from, count_in, counted, verdict}
use Rattle.table.specs.declared.cursor.Cursor.{Cursor}
use Rattle.table.specs.declared.rows.Rows.{Rows}
use Rattle.table.specs.declared.task.Task.{Task}
use Rattle.table.proofs.Lined.{Found}

-- the text's length
pub too_short : (bs : List ℕ) → length bs < 1 → verdict bs ≡ Err TextLength
unfolding verdict
too_short bs h = let e = lt-leb 1 (length bs) h in rw e refl

pub too_long : (bs : List ℕ) → 8192 < length bs → verdict bs ≡ Err TextLength
unfolding verdict
too_long bs h =
    let a = le-leb 1 (length bs) (omega arith) in
    let b = lt-leb (length bs) 8192 h in
    rw (a, b) refl

-- the first line
module _ (bs : List ℕ) (some : 1 ≤ length bs) (few : length bs ≤ 8192) where
  sized : verdict bs ≡ cond (fitting count_line bs) (counted bs) (Err (LineForm (at 1 (reaches count_line bs))))
  unfolding verdict
  sized =
      let a = le-leb 1 (length bs) some in
      let b = le-leb (length bs) 8192 few in
      rw (a, b) refl

  pub first_form : (q : ℕ) → fitting count_line bs ≡ false → reaches count_line bs ≡ q → verdict bs ≡ Err (LineForm (at 1 q))
  first_form q unfit far = sized ∙ (rw unfit (ap (λ n. Err (LineForm (at 1 n))) far))

  module _ (digits rest : List ℕ) (q count : ℕ) (is : count ≡ decimal digits) (f : Found count_line bs 0 (digits ∷ []) rest q) where
    count_here : count_in bs ≡ count
    count_here = ap (λ ws. decimal (get_or ws 0 [])) f.words ∙ sym is

    asked : verdict bs ≡ cond (leb 1 count && leb count 64) (rows_from count 2 (reaches count_line bs) (drop (reaches count_line bs) bs) nothing_read) (Err (RowCount (at 1 0)))
    unfolding counted
    asked =
        sized
        ∙ ap (λ v. cond v (counted bs) (Err (LineForm (at 1 (reaches count_line bs))))) f.fits
        ∙ ap (λ n. cond (leb 1 n && leb n 64) (rows_from n 2 (reaches count_line bs) (drop (reaches count_line bs) bs) nothing_read) (Err (RowCount (at 1 0)))) count_here

    pub count_low : count < 1 → verdict bs ≡ Err (RowCount (at 1 0))
    count_low h = let e = lt-leb 1 count h in asked ∙ (rw e refl)

    pub count_high : 64 < count → verdict bs ≡ Err (RowCount (at 1 0))
    count_high h =
        let e = le-leb 1 count (omega arith) in
        let g = lt-leb count 64 h in
        asked ∙ (rw (e, g) refl)

    pub count_within : 1 ≤ count → count ≤ 64 → verdict bs ≡ rows_from count 2 q rest nothing_read
    count_within h k =
        let e = le-leb 1 count h in
        let g = le-leb count 64 k in
        let far : reaches count_line bs ≡ q = omega (arith, f.place) in
        asked
        ∙ (rw (e, g) refl)
        ∙ ap (λ xs. rows_from count 2 (reaches count_line bs) xs nothing_read) (sym f.left)
        ∙ ap (λ n. rows_from count 2 n rest nothing_read) far

    pub count_start : 1 ≤ count → count ≤ 64 → (r : Reading) → nothing_read ≡ r → verdict bs ≡ rows_from (count - 0) 2 q rest r
    count_start h k r start =
        count_within h k ∙ ap (λ m. rows_from m 2 q rest nothing_read) (sym (sub-zero count)) ∙ ap (λ s. rows_from (count - 0) 2 q rest s) start

-- one row's line more
pub rows_more : (n i line p : ℕ) (bs : List ℕ) (r s : Reading) (rest : List ℕ) (q : ℕ) → i < n → lined line p bs r ≡ Ok s
    → q ≡ p + reaches row_line bs → rest ≡ drop (reaches row_line bs) bs → rows_from (n - i) line p bs r ≡ rows_from (n - (i + 1)) (line + 1) q rest s
unfolding rows_from
rows_more n i line p bs r s rest q h good place left =
    let e : n - i ≡ suc (n - (i + 1)) = omega arith in
    ap (λ m. rows_from m line p bs r) e
    ∙ ap (λ v. then_ask v (λ t. rows_from (n - (i + 1)) (line + 1) (p + reaches row_line bs) (drop (reaches row_line bs) bs) t)) good
    ∙ ap (λ m. rows_from (n - (i + 1)) (line + 1) m (drop (reaches row_line bs) bs) s) (sym place)
    ∙ ap (λ xs. rows_from (n - (i + 1)) (line + 1) q xs s) (sym left)

pub rows_stop : (n i line p : ℕ) (bs : List ℕ) (r : Reading) (e : Refusal) → i < n → lined line p bs r ≡ Err e → rows_from (n - i) line p bs r ≡ Err e
unfolding rows_from
rows_stop n i line p bs r e h stop =
    let more : n - i ≡ suc (n - (i + 1)) = omega arith in
    ap (λ m. rows_from m line p bs r) more
    ∙ ap (λ v. then_ask v (λ t. rows_from (n - (i + 1)) (line + 1) (p + reaches row_line bs) (drop (reaches row_line bs) bs) t)) stop

-- after the last row
pub rows_over : (n i line p : ℕ) (bs : List ℕ) (r : Reading) → n ≤ i → 0 < length bs → rows_from (n - i) line p bs r ≡ Err (TextAfter (at line p))
unfolding rows_from
rows_over n i line p bs r h some =
    let none : n - i ≡ 0 = omega arith in
    let left = ne_eqb (length bs) 0 (omega arith) in
    ap (λ m. rows_from m line p bs r) none ∙ (rw left refl)

pub rows_end : (n i line p : ℕ) (bs : List ℕ) (r : Reading) → n ≤ i → length bs ≡ 0 → rows_from (n - i) line p bs r ≡ Ok r
unfolding rows_from
rows_end n i line p bs r h over =
    let none : n - i ≡ 0 = omega arith in
    let left = eq-eqb (length bs) 0 over in
    ap (λ m. rows_from m line p bs r) none ∙ (rw left refl)

-- the names, with one more
contents_push : (xs : List (Bor (List ℕ))) (x : Bor (List ℕ)) → contents (xs ++ (x ∷ [])) ≡ contents xs ++ (x.now ∷ [])
contents_push [] x = refl
contents_push (y ∷ xs) x = ap (λ zs. y.now ∷ zs) (contents_push xs x)

-- a reading, by its parts
pub same_parts : (names : List (List ℕ)) (ts us : List Task) (a b : ℕ) → us ≡ ts → b ≡ a
    → ◌≡◌ {A = Reading} (record { names = names; tasks = ts; common = a }) (record { names = names; tasks = us; common = b })
same_parts names ts us a b e h = cc

-- the reader before its row i: what is left to ask gives the verdict
module _ (bs : List ℕ) (n i : ℕ) (at_row : Cursor) (names : List (Bor (List ℕ))) (d : Rows)
    (so_far : verdict bs ≡ rows_from (n - i) (i + 2) at_row.place at_row.rest.now (reading (contents names) d)) where
  pub row_refused : i < n → (e : Refusal) → lined (i + 2) at_row.place at_row.rest.now (reading (contents names) d) ≡ Err e → verdict bs ≡ Err e
  row_refused more e stop = so_far ∙ rows_stop n i (i + 2) at_row.place at_row.rest.now (reading (contents names) d) e more stop

  pub row_taken : i < n → (name : Bor (List ℕ)) (next : Cursor) (after : Rows) → Takes (i + 2) at_row (contents names) d name.now next after
      → verdict bs ≡ rows_from (n - (i + 1)) (i + 1 + 2) next.place next.rest.now (reading (contents (names ++ (name ∷ []))) after)
  row_taken more name next after t =
      let line : i + 2 + 1 ≡ i + 1 + 2 = omega arith in
      so_far
      ∙ rows_more n i (i + 2) at_row.place at_row.rest.now (reading (contents names) d) (reading (contents names ++ (name.now ∷ [])) after) next.rest.now next.place more t.yes t.place t.rest
      ∙ ap (λ m. rows_from (n - (i + 1)) m next.place next.rest.now (reading (contents names ++ (name.now ∷ [])) after)) line
      ∙ ap (λ xs. rows_from (n - (i + 1)) (i + 1 + 2) next.place next.rest.now (reading xs after)) (sym (contents_push names name))

  pub text_after : n ≤ i → i ≤ n → 0 < length at_row.rest.now → verdict bs ≡ Err (TextAfter (at (n + 2) at_row.place))
  text_after low high some =
      let line : i + 2 ≡ n + 2 = omega arith in
      so_far ∙ rows_over n i (i + 2) at_row.place at_row.rest.now (reading (contents names) d) low some ∙ ap (λ m. Err (TextAfter (at m at_row.place))) line

  pub text_ends : n ≤ i → length at_row.rest.now ≤ 0 → (tasks : List Task) (common : ℕ) → tasks ≡ drafted d → common ≡ common_so_far d
      → verdict bs ≡ Ok (record { names = contents names; tasks = tasks; common = common })
  text_ends low over tasks common is-tasks is-common =
      so_far ∙ rows_end n i (i + 2) at_row.place at_row.rest.now (reading (contents names) d) low (omega arith) ∙ ap Ok (same_parts (contents names) (drafted d) tasks (common_so_far d) common is-tasks is-common)
