-- What a text begins with, and what a token holds of it. Assumes nothing.
--   Lexeme        a word or a number with its bytes, a mark, another byte, or the end
--   lexeme bs     what the text begins with
--   lexeme_of t   what a token says of that; place_of t its place
--   byte_of m     the byte that is the mark
use Rattle.std.specs.Prelude.{ℕ, cond, List, [], ◌∷◌, take, ◌==◌}
use Rattle.table.specs.Lines.{letter, lead, a_name, a_number, decimal}
use Rattle.table.specs.Scan.{word_size}
use Rattle.table.specs.declared.token.Mark.{Mark}
use Rattle.table.specs.declared.token.Mark.TheVariants.{Open, Close, Space, LineEnd}
use Rattle.table.specs.declared.token.Token.{Token}
use Rattle.table.specs.declared.token.Token.TheVariants.{Word, Number, Sign, Other, End}

pub data Lexeme : Type 0 where
  a_word : List ℕ → Lexeme
  a_numeral : List ℕ → ℕ → Lexeme
  a_mark : Mark → Lexeme
  another : Lexeme
  the_end : Lexeme

abbrev pub byte_of : Mark → ℕ
byte_of Open = 40
byte_of Close = 41
byte_of Space = 32
byte_of LineEnd = 10

-- the digits at the front, and the number that they write
abbrev pub numbered : List ℕ → Lexeme
numbered digits = a_numeral digits (decimal digits)

abbrev pub lexeme : List ℕ → Lexeme
lexeme [] = the_end
lexeme (b ∷ bs) =
    cond (b == 40) (a_mark Open)
    (cond (b == 41) (a_mark Close)
    (cond (b == 32) (a_mark Space)
    (cond (b == 10) (a_mark LineEnd)
    (cond (letter b) (a_word (take (word_size a_name (b ∷ bs)) (b ∷ bs)))
    (cond (lead b) (numbered (take (word_size a_number (b ∷ bs)) (b ∷ bs))) another)))))

abbrev pub lexeme_of : Token → Lexeme
lexeme_of (Word w p) = a_word w.now
lexeme_of (Number d p v) = a_numeral d.now v
lexeme_of (Sign m p) = a_mark m
lexeme_of (Other p) = another
lexeme_of (End p) = the_end

abbrev pub place_of : Token → ℕ
place_of (Word w p) = p
place_of (Number d p v) = p
place_of (Sign m p) = p
place_of (Other p) = p
place_of (End p) = p
