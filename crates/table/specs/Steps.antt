-- What a part of the reader says of the pieces that it read, whatever pieces come after. Assumes nothing.
--   Past    the pieces stand at the front, with these words: what is left, and where
--   Stuck   they do not: the place of the first byte that they do not allow
use Rattle.std.specs.Prelude.{◌≡◌, ℕ, suc, ◌+◌, ◌≤◌, true, false, cond, List, [], ◌∷◌, ◌++◌, length, drop, ◌==◌}
use Rattle.std.specs.List.{AllByRecursion}
use Rattle.table.specs.Lines.{letter, decimal}
use Rattle.table.specs.Form.{Piece}
use Rattle.table.specs.Scan.{reaches, fitting, words_of}
use Rattle.table.specs.declared.cursor.Cursor.{Cursor}

-- the text bs begins at the place p, and what is left of it, rest, at the place q
pub record Past (ps : List Piece) (bs : List ℕ) (p : ℕ) (ws : List (List ℕ)) (rest : List ℕ) (q : ℕ) : Type 0 where
  pub reach : (more : List Piece) → p + reaches (ps ++ more) bs ≡ q + reaches more rest
  pub fit : (more : List Piece) → fitting (ps ++ more) bs ≡ fitting more rest
  pub words : (more : List Piece) → words_of (ps ++ more) bs ≡ ws ++ words_of more rest
  pub room : q + length rest ≡ p + length bs
  pub gone : (k : ℕ) × ((q ≡ p + k) × (rest ≡ drop k bs))

pub record Stuck (ps : List Piece) (bs : List ℕ) (p q : ℕ) : Type 0 where
  pub reach : (more : List Piece) → p + reaches (ps ++ more) bs ≡ q
  pub fit : (more : List Piece) → fitting (ps ++ more) bs ≡ false

-- the same from one cursor to the next
abbrev pub Moves : List Piece → Cursor → List (List ℕ) → Cursor → Type 0
Moves ps c ws d = Past ps c.rest.now c.place ws d.rest.now d.place

abbrev pub Halts : List Piece → Cursor → ℕ → Type 0
Halts ps c q = Stuck ps c.rest.now c.place q

-- the same over a number, of which only the value is handed on; no number is 0
abbrev pub MovesBy : List Piece → Cursor → ℕ → Cursor → Type 0
MovesBy ps c value d = (digits : List ℕ) × (value ≡ decimal digits) × Moves ps c (digits ∷ []) d × (1 ≤ value)

-- what a keyword may be: letters, no more than a word may have
abbrev pub Title : List ℕ → Type 0
Title [] = ⊥
Title (b ∷ bs) = (letter b ≡ true) × AllByRecursion (λ c. letter c ≡ true) bs × (length bs ≤ 11)

-- how many bytes at the front two texts have in common
abbrev pub shared : List ℕ → List ℕ → ℕ
shared [] ys = 0
shared (x ∷ xs) [] = 0
shared (x ∷ xs) (y ∷ ys) = cond (x == y) (suc (shared xs ys)) 0
