-- What a line may be: its description as a list of pieces, and the bytes that have its form. Assumes nothing.
--   Class      a kind of word: the bytes it may begin with, those that may follow, and how many of these at most
--   IsWord     the bytes are a word of a class
--   Piece      one fixed byte, or a word of a class
--   Form       the bytes are what the pieces allow, one after the other; the words are those among them
--   Begins     the bytes begin some line of the form
--   Stops      the place of the first byte that no such line could have there, or the end of a text that stops short
--   NoLine     no line of the form stands at the front
use Rattle.std.specs.Prelude.{◌≡◌, ℕ, suc, ◌<◌, ◌≤◌, Bool, true, List, [], ◌∷◌, ◌++◌, length, take}
use Rattle.std.specs.List.{AllByRecursion}

pub record Class : Type 0 where
  pub first : ℕ → Bool
  pub next : ℕ → Bool
  pub most : ℕ

abbrev pub IsWord : Class → List ℕ → Type 0
IsWord k [] = ⊥
IsWord k (b ∷ rest) = (k.first b ≡ true) × AllByRecursion (λ c. k.next c ≡ true) rest × (length rest ≤ k.most)

pub data Piece : Type 0 where
  mark : ℕ → Piece
  word : Class → Piece

pub data Form : List Piece → List ℕ → List (List ℕ) → Type 0 where
  nothing : Form [] [] []
  a_mark : {b : ℕ} {ps : List Piece} {bs : List ℕ} {ws : List (List ℕ)} → Form ps bs ws → Form (mark b ∷ ps) (b ∷ bs) ws
  a_word : {k : Class} {ps : List Piece} {bs : List ℕ} {ws : List (List ℕ)} → (w : List ℕ) → IsWord k w → Form ps bs ws
      → Form (word k ∷ ps) (w ++ bs) (w ∷ ws)

abbrev pub Begins : List Piece → List ℕ → Type 0
Begins ps bs = (rest : List ℕ) × (ws : List (List ℕ)) × Form ps (bs ++ rest) ws

pub record Stops (ps : List Piece) (bs : List ℕ) (p : ℕ) : Type 0 where
  pub within : p ≤ length bs
  pub could : Begins ps (take p bs)
  pub cannot : p < length bs → Begins ps (take (suc p) bs) → ⊥

abbrev pub NoLine : List Piece → List ℕ → Type 0
NoLine ps bs = (k : ℕ) (ws : List (List ℕ)) → Form ps (take k bs) ws → ⊥
