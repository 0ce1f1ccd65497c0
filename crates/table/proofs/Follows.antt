-- The computed verdict follows every good beginning of a text: after its rows, what is left to ask of the rest gives the
-- verdict on the whole. So an accepted text has its rows for a verdict, and a refused one its refusal.
use Rattle.std.proofs.Common.{◌≡◌, ℕ, ◌+◌, ◌-◌, ◌<◌, ◌≤◌, false, List, [], ◌∷◌, ◌++◌, map, length, Ok, Err, Result, sym, refl, ap, ◌∙◌, subst, ⊎_elim, append_assoc, append-nil, add-zero, add_assoc, zero-add, arith, le-ltb, lt-ltb}
use native.Mathlib.Nat.{sub-zero}
use Rattle.std.proofs.lemmas.List.{drop_at, length-append, length_push, map_push}
use Rattle.std.specs.List.{AllByRecursion}
use Rattle.refusal.specs.declared.cases.Position.{Position}
use Rattle.refusal.specs.declared.cases.Refusal.{Refusal}
use Rattle.refusal.specs.declared.cases.Refusal.TheVariants.{TextLength, LineForm, RowCount, RunAboveDue, DueAboveGap, GapLimit, NameTaken, CommonLimit, TextAfter, Overload, Overdemand, NoSuchRow, TooSoon, ClockEnd, NoOpenJob, NotBegun, WarmUpLimit}
use Rattle.table.specs.Common.{lcm}
use Rattle.table.specs.Limits.{most_gap, most_common, at}
use Rattle.table.specs.Lines.{count_line, row_line}
use Rattle.table.specs.Scan.{reaches}
use Rattle.table.specs.Tasks.{LeastCommon}
use Rattle.table.specs.Texts.{RowText, Written, CountWritten, lines, tasks, name_at, Within, Fresh, Apart, ShortPeriod, Begun, Accepts, Next, BadFirst, BadCount, BadRow, After, Refuses}
use Rattle.table.specs.Verdict.{Reading, nothing_read, with_row, taken, limited, lined, rows_from, verdict}
use Rattle.table.specs.declared.task.Task.{Task}
use Rattle.table.proofs.Begins.{name_left, name_here, fresh_taken, found_taken, gap_one, period_none, period_more, period_unique, period_front}
use Rattle.table.proofs.Lawful.{count_lawful, row_lawful}
use Rattle.table.proofs.Lined.{Found, lined_form, lined_limits, lined_name, lined_common, lined_yes}
use Rattle.table.proofs.Places.{form_read, stops_read}
use Rattle.table.proofs.Texts.{too_short, too_long, first_form, count_low, count_high, count_within, rows_more, rows_stop, rows_over, rows_end}

-- what was read is these rows
pub record Held (rows : List RowText) (r : Reading) : Type 0 where
  pub same_names : r.names ≡ map (λ row. row.name) rows
  pub same_tasks : r.tasks ≡ tasks rows
  pub least : LeastCommon (tasks rows) r.common

-- a line at the front is found
pub row_found : (p : ℕ) (row : RowText) (after : List ℕ) (w : Written row) → Found row_line (row.line ++ after) p (row.name ∷ w.0 ∷ w.1 ∷ w.2 ∷ []) after (p + length row.line)
row_found p row after w =
    let r = form_read row_line row_lawful row.line after (row.name ∷ w.0 ∷ w.1 ∷ w.2 ∷ []) w.3 in
    record {
      fits = r.0;
      place = ap (λ n. p + n) (sym r.1);
      left = sym (drop_at row.line after (reaches row_line (row.line ++ after)) (sym r.1));
      words = r.2;
    }

pub count_found : (first after : List ℕ) (count : ℕ) (w : CountWritten first count) → Found count_line (first ++ after) 0 (w.0 ∷ []) after (length first)
count_found first after count w =
    let r = form_read count_line count_lawful first after (w.0 ∷ []) w.1 in
    record {
      fits = r.0;
      place = sym r.1 ∙ sym (zero-add (reaches count_line (first ++ after)));
      left = sym (drop_at first after (reaches count_line (first ++ after)) (sym r.1));
      words = r.2;
    }

limited_yes : (here : Position) (t : Task) → Within t → limited here t ≡ Ok tt
limited_yes here t w =
    let a = le-ltb t.due t.run w.0 in
    let b = le-ltb t.gap t.due w.1 in
    let c = le-ltb most_gap t.gap w.2 in
    rw (a, b, c) refl

-- a row more
held_more : (rows : List RowText) (row : RowText) (r : Reading) → Held rows r → 1 ≤ row.task.gap → Held (rows ++ (row ∷ [])) (with_row r row.name row.task)
held_more rows row r held positive =
    record {
      same_names = ap (λ ns. ns ++ (row.name ∷ [])) held.same_names ∙ sym (map_push (λ x. x.name) rows row);
      same_tasks = ap (λ ts. ts ++ (row.task ∷ [])) held.same_tasks ∙ sym (map_push (λ x. x.task) rows row);
      least = period_more rows row r.common held.least positive;
    }

not_taken : (rows : List RowText) (r : Reading) (name : List ℕ) → Held rows r → Fresh rows name → taken name r.names ≡ false
not_taken rows r name held fresh = ap (taken name) held.same_names ∙ fresh_taken rows name fresh

-- the verdict on the rest after these rows
pub record Followed (count : ℕ) (whole : Result Reading Refusal) (rows : List RowText) (place : ℕ) (rest : List ℕ) : Type 0 where
  pub so_far : Reading
  pub held : Held rows so_far
  pub same : whole ≡ rows_from (count - length rows) (length rows + 2) place rest so_far

follow_row : (count : ℕ) (done : List RowText) (row : RowText) (p : ℕ) (after : List ℕ) (r : Reading) → Held done r → length done < count → (w : Written row) → Within row.task → Fresh done row.name → lcm r.common row.task.gap ≤ most_common
    → rows_from (count - length done) (length done + 2) p (row.line ++ after) r ≡ rows_from (count - length (done ++ (row ∷ []))) (length (done ++ (row ∷ [])) + 2) (p + length row.line) after (with_row r row.name row.task)
follow_row count done row p after r held more w within fresh short =
    let s = with_row r row.name row.task in
    let f = row_found p row after w in
    let line = length done + 2 in
    let yes = lined_yes line p (row.line ++ after) r row.name w.0 w.1 w.2 after (p + length row.line) row.task f w.4 (limited_yes (at line p) row.task within) (not_taken done r row.name held fresh) short in
    let size : length (done ++ (row ∷ [])) ≡ length done + 1 = length_push done row in
    let next : length done + 2 + 1 ≡ length done + 1 + 2 = omega arith in
    rows_more count (length done) line p (row.line ++ after) r s after (p + length row.line) more yes f.place f.left
    ∙ ap (λ m. rows_from (count - (length done + 1)) m (p + length row.line) after s) next
    ∙ ap (λ k. rows_from (count - k) (k + 2) (p + length row.line) after s) (sym size)

follow : (todo done : List RowText) (count p : ℕ) (rest : List ℕ) (r : Reading) → Held done r → AllByRecursion Written todo → AllByRecursion (λ row. Within row.task) todo → Apart (done ++ todo) → ShortPeriod (tasks (done ++ todo)) → length (done ++ todo) ≤ count
    → Followed count (rows_from (count - length done) (length done + 2) p (lines todo ++ rest) r) (done ++ todo) (p + length (lines todo)) rest
follow [] done count p rest r held written within apart short few =
    let whole = rows_from (count - length done) (length done + 2) p rest r in
    subst (λ rows. Followed count whole rows (p + 0) rest) (sym (append-nil done))
    (subst (λ q. Followed count whole done q rest) (sym (add-zero p)) (record { so_far = r; held = held; same = refl }))
follow (row ∷ todo) done count p rest r held written within apart short few =
    let after = lines todo ++ rest in
    let grouped : (done ++ (row ∷ [])) ++ todo ≡ done ++ (row ∷ todo) = append_assoc done (row ∷ []) todo in
    let size = length-append done (row ∷ todo) in
    let positive = gap_one row written.0 within.0 in
    let fresh : Fresh done row.name = λ i h e. apart i (length done) h (omega arith) (name_left done (row ∷ todo) i h ∙ e ∙ sym (name_here done row todo)) in
    let front : lcm r.common row.task.gap ≤ short.0 = period_front (done ++ (row ∷ [])) todo (lcm r.common row.task.gap) short.0 (period_more done row r.common held.least positive) (subst (λ rows. LeastCommon (tasks rows) short.0) (sym grouped) short.1) in
    let low : lcm r.common row.task.gap ≤ most_common = omega (arith, front, short.2) in
    let step = follow_row count done row p after r held (omega arith) written.0 within.0 fresh low in
    let more = follow todo (done ++ (row ∷ [])) count (p + length row.line) rest (with_row r row.name row.task) (held_more done row r held positive) written.1 within.1 (subst Apart (sym grouped) apart) (subst (λ rows. ShortPeriod (tasks rows)) (sym grouped) short) (subst (λ rows. length rows ≤ count) (sym grouped) few) in
    let place : p + length row.line + length (lines todo) ≡ p + length (row.line ++ lines todo) = add_assoc p (length row.line) (length (lines todo)) ∙ ap (λ n. p + n) (sym (length-append row.line (lines todo))) in
    let start : rows_from (count - length done) (length done + 2) p ((row.line ++ lines todo) ++ rest) r ≡ rows_from (count - length done) (length done + 2) p (row.line ++ after) r = ap (λ xs. rows_from (count - length done) (length done + 2) p xs r) (append_assoc row.line (lines todo) rest) in
    let there : Followed count (rows_from (count - length done) (length done + 2) p ((row.line ++ lines todo) ++ rest) r) ((done ++ (row ∷ [])) ++ todo) (p + length row.line + length (lines todo)) rest = record { so_far = more.so_far; held = more.held; same = start ∙ step ∙ more.same } in
    subst (λ rows. Followed count (rows_from (count - length done) (length done + 2) p ((row.line ++ lines todo) ++ rest) r) rows (p + length (row.line ++ lines todo)) rest) grouped
    (subst (λ q. Followed count (rows_from (count - length done) (length done + 2) p ((row.line ++ lines todo) ++ rest) r) ((done ++ (row ∷ [])) ++ todo) q rest) place there)

held_none : Held [] nothing_read
held_none = record { same_names = refl; same_tasks = refl; least = period_none }

begun_followed : (text : List ℕ) (count : ℕ) (rows : List RowText) (place : ℕ) (rest : List ℕ) → Begun text count rows place rest → Followed count (verdict text) rows place rest
begun_followed text count rows place rest b =
    let first = b.first in
    let after = lines rows ++ rest in
    let split : text ≡ first ++ after = b.parts ∙ append_assoc first (lines rows) rest in
    let w = b.counted in
    let found = subst (λ xs. Found count_line xs 0 (w.0 ∷ []) after (length first)) (sym split) (count_found first after count w) in
    let start : verdict text ≡ rows_from count 2 (length first) after nothing_read = count_within text b.sized.0 b.sized.1 w.0 after (length first) count w.2 found b.countable.0 b.countable.1 in
    let more = follow rows [] count (length first) rest nothing_read held_none b.written b.within b.apart b.short b.few in
    let place_is : length first + length (lines rows) ≡ place = sym (length-append first (lines rows)) ∙ sym b.begins in
    let whole : verdict text ≡ rows_from (count - 0) 2 (length first) after nothing_read = start ∙ ap (λ n. rows_from n 2 (length first) after nothing_read) (sym (sub-zero count)) in
    subst (λ q. Followed count (verdict text) rows q rest) place_is (record { so_far = more.so_far; held = more.held; same = whole ∙ more.same })

-- an accepted text
pub accepts_verdict : (text : List ℕ) (rows : List RowText) → Accepts text rows → (r : Reading) × Held rows r × (verdict text ≡ Ok r)
accepts_verdict text rows b =
    let f = begun_followed text (length rows) rows (length text) [] b in
    (f.so_far, f.held, f.same ∙ rows_end (length rows) (length rows) (length rows + 2) (length text) [] f.so_far (omega arith) refl)

-- a text that is refused at the row whose line stands next
module _ (text : List ℕ) (rows : List RowText) (row : RowText) (here : Position) (x : Next text rows row here) where
  abbrev line : ℕ
  line = length rows + 2

  abbrev bs : List ℕ
  bs = row.line ++ x.after

  before : Followed x.count (verdict text) rows x.place bs
  before = begun_followed text x.count rows x.place bs x.begun

  stopped : (e : Refusal) → ((r : Reading) → Held rows r → lined line x.place bs r ≡ Err e) → verdict text ≡ Err e
  stopped e no-here = before.same ∙ rows_stop x.count (length rows) line x.place bs before.so_far e x.more (no-here before.so_far before.held)

  limits_refused : (e : Refusal) → limited (at line x.place) row.task ≡ Err e → verdict text ≡ Err e
  limits_refused e h =
      let w = x.written in
      stopped e (λ r held. lined_limits line x.place bs r row.name w.0 w.1 w.2 x.after (x.place + length row.line) row.task (row_found x.place row x.after w) w.4 e h)

  name_refused : Within row.task → (i : ℕ) → i < length rows → name_at rows i ≡ row.name → verdict text ≡ Err (NameTaken (at line x.place))
  name_refused within i low same =
      let w = x.written in
      stopped (NameTaken (at line x.place)) (λ r held. lined_name line x.place bs r row.name w.0 w.1 w.2 x.after (x.place + length row.line) row.task (row_found x.place row x.after w) w.4 (limited_yes (at line x.place) row.task within) (ap (taken row.name) held.same_names ∙ found_taken rows row.name i low same))

  period_refused : Within row.task → Fresh rows row.name → (h : ℕ) → LeastCommon (tasks (rows ++ (row ∷ []))) h → most_common < h → verdict text ≡ Err (CommonLimit (at line x.place))
  period_refused within fresh h least long =
      let w = x.written in
      stopped (CommonLimit (at line x.place)) (λ r held.
      let same : h ≡ lcm r.common row.task.gap = period_unique (tasks (rows ++ (row ∷ []))) h (lcm r.common row.task.gap) least (period_more rows row r.common held.least (gap_one row w within)) in
      lined_common line x.place bs r row.name w.0 w.1 w.2 x.after (x.place + length row.line) row.task (row_found x.place row x.after w) w.4 (limited_yes (at line x.place) row.task within) (not_taken rows r row.name held fresh) (subst (λ n. most_common < n) same long))

run_above : (here : Position) (t : Task) → t.due < t.run → limited here t ≡ Err (RunAboveDue here)
run_above here t h = let a = lt-ltb t.due t.run h in rw a refl

due_above : (here : Position) (t : Task) → t.run ≤ t.due → t.gap < t.due → limited here t ≡ Err (DueAboveGap here)
due_above here t h k =
    let a = le-ltb t.due t.run h in
    let b = lt-ltb t.gap t.due k in
    rw (a, b) refl

gap_above : (here : Position) (t : Task) → t.run ≤ t.due → t.due ≤ t.gap → most_gap < t.gap → limited here t ≡ Err (GapLimit here)
gap_above here t h k l =
    let a = le-ltb t.due t.run h in
    let b = le-ltb t.gap t.due k in
    let c = lt-ltb most_gap t.gap l in
    rw (a, b, c) refl

first_refused : (text : List ℕ) (here : Position) → BadFirst text here → verdict text ≡ Err (LineForm here)
first_refused text here x =
    let s = stops_read count_line count_lawful text x.p x.stops x.none in
    first_form text x.sized.0 x.sized.1 x.p s.0 s.1 ∙ ap (λ q. Err (LineForm q)) (sym x.position)

row_refused : (text : List ℕ) (here : Position) → BadRow text here → verdict text ≡ Err (LineForm here)
row_refused text here x =
    let s = stops_read row_line row_lawful x.rest x.p x.stops x.none in
    let f = begun_followed text x.count x.rows x.place x.rest x.begun in
    let line = length x.rows + 2 in
    let stop = lined_form line x.place x.rest f.so_far (x.place + x.p) s.0 (ap (λ n. x.place + n) s.1) in
    f.same ∙ rows_stop x.count (length x.rows) line x.place x.rest f.so_far (LineForm (at line (x.place + x.p))) x.more stop ∙ ap (λ q. Err (LineForm q)) (sym x.position)

count_refused : (text : List ℕ) (here : Position) → BadCount text here → verdict text ≡ Err (RowCount here)
count_refused text here x =
    let w = x.counted in
    let q = length x.first in
    let found = subst (λ xs. Found count_line xs 0 (w.0 ∷ []) x.after q) (sym x.parts) (count_found x.first x.after x.count w) in
    let low : x.count < 1 → verdict text ≡ Err (RowCount (at 1 0)) = count_low text x.sized.0 x.sized.1 w.0 x.after q x.count w.2 found in
    let high : 64 < x.count → verdict text ≡ Err (RowCount (at 1 0)) = count_high text x.sized.0 x.sized.1 w.0 x.after q x.count w.2 found in
    ⊎_elim low high x.past ∙ ap (λ p. Err (RowCount p)) (sym x.position)

after_refused : (text : List ℕ) (here : Position) → After text here → verdict text ≡ Err (TextAfter here)
after_refused text here x =
    let n = length x.rows in
    let f = begun_followed text n x.rows x.place x.rest x.begun in
    f.same ∙ rows_over n n (n + 2) x.place x.rest f.so_far (omega arith) x.some ∙ ap (λ p. Err (TextAfter p)) (sym x.position)

-- a refused text
pub refuses_verdict : (text : List ℕ) (e : Refusal) → Refuses text e → verdict text ≡ Err e
refuses_verdict text TextLength x = ⊎_elim (too_short text) (too_long text) x
refuses_verdict text (LineForm here) x = ⊎_elim (first_refused text here) (row_refused text here) x
refuses_verdict text (RowCount here) x = count_refused text here x
refuses_verdict text (RunAboveDue here) (rows, row, x, bad) =
    limits_refused text rows row here x _ (run_above _ row.task bad) ∙ ap (λ p. Err (RunAboveDue p)) (sym x.position)
refuses_verdict text (DueAboveGap here) (rows, row, x, bad) =
    limits_refused text rows row here x _ (due_above _ row.task bad.0 bad.1) ∙ ap (λ p. Err (DueAboveGap p)) (sym x.position)
refuses_verdict text (GapLimit here) (rows, row, x, bad) =
    limits_refused text rows row here x _ (gap_above _ row.task bad.0 bad.1 bad.2) ∙ ap (λ p. Err (GapLimit p)) (sym x.position)
refuses_verdict text (NameTaken here) (rows, row, x, bad) =
    name_refused text rows row here x bad.0 bad.1.0 bad.1.1 bad.1.2 ∙ ap (λ p. Err (NameTaken p)) (sym x.position)
refuses_verdict text (CommonLimit here) (rows, row, x, bad) =
    period_refused text rows row here x bad.0 bad.1 bad.2.0 bad.2.1 bad.2.2 ∙ ap (λ p. Err (CommonLimit p)) (sym x.position)
refuses_verdict text (TextAfter here) x = after_refused text here x
refuses_verdict text (Overload load) x = absurd x
refuses_verdict text (Overdemand window) x = absurd x
refuses_verdict text NoSuchRow x = absurd x
refuses_verdict text TooSoon x = absurd x
refuses_verdict text ClockEnd x = absurd x
refuses_verdict text NoOpenJob x = absurd x
refuses_verdict text NotBegun x = absurd x
refuses_verdict text WarmUpLimit x = absurd x
