-- Every text is accepted or refused: from a good beginning, the next check says yes, and the beginning grows by a row,
-- or it says no, and the text is refused for it. Whether a line has its form is what following it byte by byte tells.
use Rattle.std.proofs.Common.{◌≡◌, ℕ, zero, suc, ◌+◌, ◌<◌, Bool, true, false, ◌⊎◌, List, [], ◌∷◌, ◌++◌, length, take, drop, sym, refl, ap, ◌∙◌, subst, inl, inr, ⊎_elim, append-nil, arith, length-append, take-append-drop}
use Rattle.refusal.specs.declared.cases.Position.{Position}
use Rattle.refusal.specs.declared.cases.Refusal.{Refusal}
use Rattle.refusal.specs.declared.cases.Refusal.TheVariants.{TextLength, LineForm, RowCount, RunAboveDue, DueAboveGap, GapLimit, NameTaken, CommonLimit, TextAfter}
use Rattle.table.specs.Common.{lcm}
use Rattle.table.specs.Form.{Form}
use Rattle.table.specs.Limits.{most_bytes, most_rows, most_gap, most_common, at}
use Rattle.table.specs.Lines.{count_line, row_line}
use Rattle.table.specs.Scan.{reaches, fitting}
use Rattle.table.specs.Texts.{RowText, Written, CountWritten, lines, Sized, Within, Fresh, Begun, Accepts, Next, Refuses}
use Rattle.table.specs.Verdict.{name_in, task_in, count_in}
use Rattle.table.proofs.Begins.{le_or_lt, found_or_fresh, gap_one, period_more, begun_none, begun_more}
use Rattle.table.proofs.Lawful.{count_lawful, row_lawful, row_words, count_words}
use Rattle.table.proofs.Places.{read_form, read_stops, read_none}

abbrev pub Decided : List ℕ → Type 0
Decided text = ((rows : List RowText) × Accepts text rows) ⊎ ((e : Refusal) × Refuses text e)

-- the row's line at the front
abbrev row_here : List ℕ → RowText
row_here bs = record { line = take (reaches row_line bs) bs; name = name_in bs; task = task_in bs }

row_written : (bs : List ℕ) → fitting row_line bs ≡ true → Written (row_here bs)
row_written bs h = (_, _, _, subst (λ ws. Form row_line (take (reaches row_line bs) bs) ws) (row_words bs) (read_form row_line row_lawful bs h), refl)

count_written : (bs : List ℕ) → fitting count_line bs ≡ true → CountWritten (take (reaches count_line bs) bs) (count_in bs)
count_written bs h = (_, subst (λ ws. Form count_line (take (reaches count_line bs) bs) ws) (count_words bs) (read_form count_line count_lawful bs h), refl)

-- the checks of a row whose line stands next
module _ (text : List ℕ) (count : ℕ) (rows : List RowText) (place : ℕ) (row : RowText) (after : List ℕ) (b : Begun text count rows place (row.line ++ after)) (more : length rows < count) (written : Written row)
    (go_on : Begun text count (rows ++ (row ∷ [])) (place + length row.line) after → Decided text) where
  abbrev here : Position
  here = at (length rows + 2) place

  next : Next text rows row here
  next = record { count = count; place = place; after = after; begun = b; more = more; written = written; position = refl }

  period_decided : Within row.task → Fresh rows row.name → Decided text
  period_decided within fresh =
      let old = b.short.0 in
      let new = lcm old row.task.gap in
      let least = period_more rows row old b.short.1 (gap_one row written within) in
      ⊎_elim
      (λ short. go_on (begun_more text count rows place row after b more written within fresh (new, least, short)))
      (λ long. inr (CommonLimit here, (rows, row, next, (within, fresh, (new, least, long)))))
      (le_or_lt new most_common)

  name_decided : Within row.task → Decided text
  name_decided within =
      ⊎_elim
      (λ found. inr (NameTaken here, (rows, row, next, (within, found))))
      (λ fresh. period_decided within fresh)
      (found_or_fresh rows row.name)

  pub row_decided : Decided text
  row_decided =
      let t = row.task in
      ⊎_elim
      (λ run-due. ⊎_elim
      (λ due-gap. ⊎_elim
      (λ gap. name_decided (run-due, due-gap, gap))
      (λ over. inr (GapLimit here, (rows, row, next, (run-due, due-gap, over))))
      (le_or_lt t.gap most_gap))
      (λ over. inr (DueAboveGap here, (rows, row, next, (run-due, over))))
      (le_or_lt t.due t.gap))
      (λ over. inr (RunAboveDue here, (rows, row, next, over)))
      (le_or_lt t.run t.due)

all_rows : (text : List ℕ) (count : ℕ) (rows : List RowText) (place : ℕ) → Begun text count rows place [] → length rows ≡ count → Accepts text rows
all_rows text count rows place b e =
    let whole : text ≡ b.first ++ lines rows = b.parts ∙ append-nil (b.first ++ lines rows) in
    let far : place ≡ length text = b.begins ∙ ap length (sym whole) in
    subst (λ p. Begun text (length rows) rows p []) far (subst (λ n. Begun text n rows place []) (sym e) b)

rows_decided : (n : ℕ) (text : List ℕ) (count : ℕ) (rows : List RowText) (place : ℕ) (rest : List ℕ) → Begun text count rows place rest → n + length rows ≡ count → Decided text
rows_decided zero text count rows place [] b e = inl (rows, all_rows text count rows place b (omega arith))
rows_decided zero text count rows place (x ∷ rest) b e =
    let same : length rows ≡ count = omega arith in
    inr (
      TextAfter (at (length rows + 2) place),
      record {
        rows = rows;
        place = place;
        rest = x ∷ rest;
        begun = subst (λ n. Begun text n rows place (x ∷ rest)) (sym same) b;
        some = omega arith;
        position = refl;
      },
    )
rows_decided (suc n) text count rows place rest b e = by (λ row p after grown eq. rows_decided n text count (rows ++ (row ∷ [])) p after grown eq) (fitting row_line rest) refl
  where
    by : ((row : RowText) (p : ℕ) (after : List ℕ) → Begun text count (rows ++ (row ∷ [])) p after → n + length (rows ++ (row ∷ [])) ≡ count → Decided text) → (v : Bool) → fitting row_line rest ≡ v → Decided text
    by go_on true fit =
        let far = reaches row_line rest in
        let row = row_here rest in
        let split = sym (take-append-drop far rest) in
        let size = length-append rows (row ∷ []) in
        row_decided text count rows place row (drop far rest) (subst (λ xs. Begun text count rows place xs) split b) (omega arith) (row_written rest fit)
        (λ grown. go_on row (place + length row.line) (drop far rest) grown (omega arith))
    by go_on false unfit =
        inr (
          LineForm (at (length rows + 2) (place + reaches row_line rest)),
          inr (record {
            count = count;
            rows = rows;
            place = place;
            rest = rest;
            begun = b;
            more = omega arith;
            p = reaches row_line rest;
            stops = read_stops row_line row_lawful rest unfit;
            none = read_none row_line row_lawful rest unfit;
            position = refl;
          }),
        )

first_decided : (text : List ℕ) → Sized text → Decided text
first_decided text sized = by (fitting count_line text) refl
  where
    by : (v : Bool) → fitting count_line text ≡ v → Decided text
    by true fit =
        let far = reaches count_line text in
        let first = take far text in
        let count = count_in text in
        let split = sym (take-append-drop far text) in
        let written = count_written text fit in
        let refused : (count < 1) ⊎ (most_rows < count) → Decided text = λ past. inr (RowCount (at 1 0), record { sized = sized; first = first; count = count; after = drop far text; parts = split; counted = written; past = past; position = refl }) in
        ⊎_elim
        (λ low. ⊎_elim
        (λ high. rows_decided count text count [] (length first) (drop far text) (begun_none text count first (drop far text) sized written low high split) (omega arith))
        (λ over. refused (inr over))
        (le_or_lt count most_rows))
        (λ under. refused (inl under))
        (le_or_lt 1 count)
    by false unfit =
        inr (
          LineForm (at 1 (reaches count_line text)),
          inl (record {
            sized = sized;
            p = reaches count_line text;
            stops = read_stops count_line count_lawful text unfit;
            none = read_none count_line count_lawful text unfit;
            position = refl;
          }),
        )

pub decided : (text : List ℕ) → Decided text
decided text =
    ⊎_elim
    (λ some. ⊎_elim (λ few. first_decided text (some, few)) (λ over. inr (TextLength, inr over)) (le_or_lt (length text) most_bytes))
    (λ under. inr (TextLength, inl under))
    (le_or_lt 1 (length text))
