-- How far a text follows a line's description, computed byte by byte, and the words on the way. Assumes nothing.
--   Atom        one byte of a set, or at most so many
--   reach       the place of the first byte that the atoms do not allow there
--   fits        whether all of them were found
--   word_size   how many bytes at the front make a word
--   words_of    the words that stand in the text where the description has them
use Rattle.std.specs.Prelude.{ℕ, zero, suc, ◌+◌, Bool, true, false, cond, ◌&&◌, List, [], ◌∷◌, take, drop, nat_eq}
use Rattle.table.specs.Form.{Class, Piece, mark, word}

pub data Atom : Type 0 where
  one : (ℕ → Bool) → Atom
  upto : ℕ → (ℕ → Bool) → Atom

-- a word is one byte of its first set and then at most so many of the other
abbrev pub atoms : List Piece → List Atom
atoms [] = []
atoms (mark b ∷ ps) = one (nat_eq b) ∷ atoms ps
atoms (word k ∷ ps) = one k.first ∷ upto k.most k.next ∷ atoms ps

-- how many bytes at the front are in the set, at most n
abbrev pub span : ℕ → (ℕ → Bool) → List ℕ → ℕ
span zero s bs = 0
span (suc n) s [] = 0
span (suc n) s (b ∷ bs) = cond (s b) (suc (span n s bs)) 0

abbrev pub reach : List Atom → List ℕ → ℕ
reach [] bs = 0
reach (one s ∷ ps) [] = 0
reach (one s ∷ ps) (b ∷ bs) = cond (s b) (suc (reach ps bs)) 0
reach (upto n s ∷ ps) bs = span n s bs + reach ps (drop (span n s bs) bs)

abbrev pub fits : List Atom → List ℕ → Bool
fits [] bs = true
fits (one s ∷ ps) [] = false
fits (one s ∷ ps) (b ∷ bs) = s b && fits ps bs
fits (upto n s ∷ ps) bs = fits ps (drop (span n s bs) bs)

abbrev pub word_size : Class → List ℕ → ℕ
word_size k [] = 0
word_size k (b ∷ bs) = cond (k.first b) (suc (span k.most k.next bs)) 0

abbrev pub words_of : List Piece → List ℕ → List (List ℕ)
words_of [] bs = []
words_of (mark b ∷ ps) bs = words_of ps (drop 1 bs)
words_of (word k ∷ ps) bs = take (word_size k bs) bs ∷ words_of ps (drop (word_size k bs) bs)

-- the same of a line's description
abbrev pub reaches : List Piece → List ℕ → ℕ
reaches ps bs = reach (atoms ps) bs

abbrev pub fitting : List Piece → List ℕ → Bool
fitting ps bs = fits (atoms ps) bs
