-- How a good beginning of a text goes on: a row more whose line stands next, whose numbers are within their limits,
-- whose name is new and with which the common period is short, is a good beginning again. The common period of one
-- row more is the least common multiple of the old one and the new gap, and of fewer rows it is no longer.
use Rattle.std.proofs.Common.{◌≡◌, ℕ, zero, suc, ◌+◌, ◌<◌, ◌≤◌, Bool, true, false, ◌||◌, leb, ◌⊎◌, List, [], ◌∷◌, ◌++◌, map, length, get_or, codes, sym, refl, ap, ◌∙◌, subst, inl, inr, ⊎_elim, true≢false, append_assoc, append-nil, arith, leb-false, leb-true}
use Prim.Native.Nat.{◌∣◌}
use native.Mathlib.Nat.{dvd_antisymm, le_of_dvd, one-dvd}
use Rattle.std.proofs.ByRecursion.{All-push}
use Rattle.std.proofs.lemmas.Slice.Eq.{bytes_eq-Decides}
use Rattle.std.proofs.lemmas.List.{map-append, map_push, get_or_append_left, get_or_at, length-append, length-map, flat_map_more}
use Rattle.std.specs.Str.{bytes_eq}
use Rattle.table.specs.Common.{lcm}
use Rattle.table.specs.Limits.{most_rows}
use Rattle.table.specs.Lines.{row_title, decimal}
use Rattle.table.specs.Tasks.{task_at, Common, LeastCommon}
use Rattle.table.specs.Texts.{RowText, Written, CountWritten, lines, tasks, name_at, Sized, Within, Fresh, Apart, ShortPeriod, Begun}
use Rattle.table.specs.Verdict.{taken}
use Rattle.table.specs.declared.task.Task.{Task}
use Rattle.table.proofs.Divisors.{lcm_least}
use Rattle.table.proofs.Drafting.{common_push, least_push}
use Rattle.table.proofs.Lawful.{exactly_front, word_front, number_one}

pub le_or_lt : (a b : ℕ) → (a ≤ b) ⊎ (b < a)
le_or_lt a b = by (leb a b) refl
  where
    by : (v : Bool) → leb a b ≡ v → (a ≤ b) ⊎ (b < a)
    by true e = inl (leb-true a b e)
    by false e = inr (leb-false a b e)

-- names of rows among more of them
pub name_left : (rows more : List RowText) (i : ℕ) → i < length rows → name_at (rows ++ more) i ≡ name_at rows i
name_left rows more i h =
    ap (λ ns. get_or ns i []) (map-append (λ row. row.name) rows more)
    ∙ get_or_append_left (map (λ row. row.name) rows) (map (λ row. row.name) more) [] i (rw length-map h)

pub name_here : (rows : List RowText) (row : RowText) (more : List RowText) → name_at (rows ++ (row ∷ more)) (length rows) ≡ row.name
name_here rows row more =
    ap (λ ns. get_or ns (length rows) []) (map-append (λ r. r.name) rows (row ∷ more))
    ∙ get_or_at (map (λ r. r.name) rows) row.name (map (λ r. r.name) more) [] (length rows) (length-map rows (λ r. r.name))

apart_more : (rows : List RowText) (row : RowText) → Apart rows → Fresh rows row.name → Apart (rows ++ (row ∷ []))
apart_more rows row apart fresh i j low high same =
    let size = length-append rows (row ∷ []) in
    let left = name_left rows (row ∷ []) i (omega arith) in
    ⊎_elim
    (λ inside. apart i j low inside (sym left ∙ same ∙ name_left rows (row ∷ []) j inside))
    (λ last. let at_end : j ≡ length rows = omega arith in fresh i (omega arith) (sym left ∙ same ∙ ap (name_at (rows ++ (row ∷ []))) at_end ∙ name_here rows row []))
    (le_or_lt (suc j) (length rows))

-- whether a name is among those of the rows
pub found_or_fresh : (rows : List RowText) (name : List ℕ) → ((i : ℕ) × (i < length rows) × (name_at rows i ≡ name)) ⊎ Fresh rows name
found_or_fresh [] name = inr (λ i h e. absurd (omega arith))
found_or_fresh (row ∷ rows) name = by (found_or_fresh rows name) (bytes_eq row.name name) refl
  where
    later : (row.name ≡ name → ⊥) → Fresh rows name → Fresh (row ∷ rows) name
    later other fresh zero h e = other e
    later other fresh (suc i) h e = fresh i (omega arith) e

    by : ((i : ℕ) × (i < length rows) × (name_at rows i ≡ name)) ⊎ Fresh rows name → (v : Bool) → bytes_eq row.name name ≡ v → ((i : ℕ) × (i < length (row ∷ rows)) × (name_at (row ∷ rows) i ≡ name)) ⊎ Fresh (row ∷ rows) name
    by rest true e = inl (0, omega arith, (bytes_eq-Decides row.name name).0 e)
    by rest false e =
        ⊎_elim
        (λ f. inl (suc f.0, omega (arith, f.1), f.2))
        (λ fresh. inr (later (λ same. true≢false (sym ((bytes_eq-Decides row.name name).1 same) ∙ e)) fresh))
        rest

pub fresh_taken : (rows : List RowText) (name : List ℕ) → Fresh rows name → taken name (map (λ row. row.name) rows) ≡ false
fresh_taken [] name fresh = refl
fresh_taken (row ∷ rows) name fresh = by (fresh_taken rows name (λ i h same. fresh (suc i) (omega arith) same)) (bytes_eq row.name name) refl
  where
    by : taken name (map (λ r. r.name) rows) ≡ false → (v : Bool) → bytes_eq row.name name ≡ v → (v || taken name (map (λ r. r.name) rows)) ≡ false
    by rest true e = absurd (fresh 0 (omega arith) ((bytes_eq-Decides row.name name).0 e))
    by rest false e = rest

pub found_taken : (rows : List RowText) (name : List ℕ) (i : ℕ) → i < length rows → name_at rows i ≡ name → taken name (map (λ row. row.name) rows) ≡ true
found_taken [] name i h e = absurd (omega arith)
found_taken (row ∷ rows) name zero h e = let same = (bytes_eq-Decides row.name name).1 e in rw same refl
found_taken (row ∷ rows) name (suc i) h e = by (found_taken rows name i (omega arith) e) (bytes_eq row.name name)
  where
    by : taken name (map (λ r. r.name) rows) ≡ true → (v : Bool) → (v || taken name (map (λ r. r.name) rows)) ≡ true
    by rest true = refl
    by rest false = rest

-- a number that is written is at least 1, so a gap is too
run_one : (row : RowText) → Written row → 1 ≤ row.task.run
run_one row w =
    let name = exactly_front row_title w.3 in
    let run = word_front name.2 in
    let digits = exactly_front (codes " (run ") run.3 in
    let number = word_front digits.2 in
    let value : row.task.run ≡ decimal w.0 = ap (λ t. t.run) w.4 in
    subst (λ n. 1 ≤ n) (sym value) (number_one w.0 number.2)

pub gap_one : (row : RowText) → Written row → Within row.task → 1 ≤ row.task.gap
gap_one row w within = omega (arith, run_one row w, within.0, within.1)

-- common periods
pub period_none : LeastCommon [] 1
period_none = record { some = omega arith; common = λ row h. absurd (omega arith); least = λ x h. one-dvd x }

pub period_more : (rows : List RowText) (row : RowText) (h : ℕ) → LeastCommon (tasks rows) h → 1 ≤ row.task.gap → LeastCommon (tasks (rows ++ (row ∷ []))) (lcm h row.task.gap)
period_more rows row h s positive =
    let m = lcm_least h row.task.gap s.some positive in
    let same : tasks rows ++ (row.task ∷ []) ≡ tasks (rows ++ (row ∷ [])) = sym (map_push (λ r. r.task) rows row) in
    subst (λ ts. LeastCommon ts (lcm h row.task.gap)) same (record {
      some = m.some;
      common = common_push (tasks rows) row.task h (lcm h row.task.gap) s.common m;
      least = least_push (tasks rows) row.task h (lcm h row.task.gap) s.least m;
    })

pub period_unique : (ts : List Task) (g h : ℕ) → LeastCommon ts g → LeastCommon ts h → g ≡ h
period_unique ts g h s t = dvd_antisymm (s.least h t.common) (t.least g s.common)

pub period_front : (rows more : List RowText) (g h : ℕ) → LeastCommon (tasks rows) g → LeastCommon (tasks (rows ++ more)) h → g ≤ h
period_front rows more g h s t =
    let none : Task = record { run = 0; due = 0; gap = 0 } in
    let split = map-append (λ (r : RowText). r.task) rows more in
    let size : length (tasks (rows ++ more)) ≡ length (tasks rows) + length (tasks more) = ap length split ∙ length-append (tasks rows) (tasks more) in
    let same : (i : ℕ) → i < length (tasks rows) → task_at (tasks (rows ++ more)) i ≡ task_at (tasks rows) i = λ i low. ap (λ ts. get_or ts i none) split ∙ get_or_append_left (tasks rows) (tasks more) none i low in
    let all : Common (tasks rows) h = λ i low. subst (λ x. x.gap ∣ h) (same i low) (t.common i (omega arith)) in
    le_of_dvd t.some (s.least h all)

-- the first line alone
pub begun_none : (text : List ℕ) (count : ℕ) (first rest : List ℕ) → Sized text → CountWritten first count → 1 ≤ count → count ≤ most_rows → text ≡ first ++ rest → Begun text count [] (length first) rest
begun_none text count first rest sized counted low high parts =
    record {
      sized = sized;
      first = first;
      counted = counted;
      countable = (low, high);
      parts = parts ∙ ap (λ xs. xs ++ rest) (sym (append-nil first));
      begins = ap length (sym (append-nil first));
      few = omega arith;
      written = tt;
      within = tt;
      apart = λ i j l h e. absurd (omega arith);
      short = (1, period_none, omega arith);
    }

-- one row more
pub begun_more : (text : List ℕ) (count : ℕ) (rows : List RowText) (place : ℕ) (row : RowText) (after : List ℕ) → Begun text count rows place (row.line ++ after) → length rows < count
    → Written row → Within row.task → Fresh rows row.name → ShortPeriod (tasks (rows ++ (row ∷ []))) → Begun text count (rows ++ (row ∷ [])) (place + length row.line) after
begun_more text count rows place row after b more written within fresh short =
    let first = b.first in
    let grown : (first ++ lines rows) ++ row.line ≡ first ++ lines (rows ++ (row ∷ [])) = flat_map_more (λ r. r.line) first rows row in
    let size = length-append rows (row ∷ []) in
    record {
      sized = b.sized;
      first = first;
      counted = b.counted;
      countable = b.countable;
      parts = b.parts ∙ sym (append_assoc (first ++ lines rows) row.line after) ∙ ap (λ xs. xs ++ after) grown;
      begins = ap (λ n. n + length row.line) b.begins ∙ sym (length-append (first ++ lines rows) row.line) ∙ ap length grown;
      few = omega arith;
      written = All-push Written rows row b.written written;
      within = All-push (λ r. Within r.task) rows row b.within within;
      apart = apart_more rows row b.apart fresh;
      short = short;
    }
