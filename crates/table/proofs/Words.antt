-- A word by its class is the longest stretch of bytes that pass a test by position: the first byte by one set, and
-- then so many of another. So what the loops count is what the description of a line asks for, and a token says
-- with which word, number or mark a text begins.
use Rattle.std.proofs.Common.{◌≡◌, ℕ, zero, suc, ◌+◌, ◌-◌, ◌*◌, ◌<◌, ◌≤◌, Bool, true, false, cond, eqb, List, [], ◌∷◌, length, get_or, take, sym, refl, ap, ◌∙◌, subst, add-zero, arith, Bor}
use Rattle.std.proofs.lemmas.List.{length-take-le}
use Rattle.std.proofs.lemmas.Bool.Decides.{nat_tests}
use Rattle.table.specs.Bytes.{is_name_byte, is_number_byte, stretch}
use Rattle.table.specs.Form.{Class}
use Rattle.table.specs.Lines.{letter, digit, lead, a_name, a_number, decimal_after, decimal}
use Rattle.table.specs.Scan.{span, word_size}
use Rattle.table.specs.Tokens.{Lexeme, a_word, a_numeral, a_mark, another, byte_of, lexeme, lexeme_of, numbered}
use Rattle.table.specs.declared.token.Token.{Token}
use Rattle.table.specs.declared.token.Token.TheVariants.{Word, Number, Sign, Other, End}
use Rattle.table.specs.declared.token.Mark.{Mark}
use Rattle.table.specs.declared.token.Mark.TheVariants.{Open, Close, Space, LineEnd}
use Rattle.table.proofs.Along.{word_first, word_within}

module _ (t : ℕ → ℕ → Bool) (k : Class) (first : (b : ℕ) → t 0 b ≡ k.first b) (next : (i b : ℕ) → 0 < i → i < k.most + 1 → t i b ≡ k.next b) (last : (b : ℕ) → t (k.most + 1) b ≡ false) where
  stretch_span : (n i : ℕ) (bs : List ℕ) → i + n ≡ k.most + 1 → 0 < i → stretch t i bs ≡ i + span n k.next bs
  stretch_span zero i [] e h = sym (add-zero i)
  stretch_span (suc n) i [] e h = sym (add-zero i)
  stretch_span zero i (b ∷ bs) e h =
      let at : i ≡ k.most + 1 = omega arith in
      let over : t i b ≡ false = ap (λ j. t j b) at ∙ last b in
      rw over (sym (add-zero i))
  stretch_span (suc n) i (b ∷ bs) e h =
      let same = next i b h (omega arith) in
      let more = stretch_span n (i + 1) bs (omega arith) (omega arith) in
      rw same (elim (k.next b) as (λ v. cond v (stretch t (i + 1) bs) i ≡ i + cond v (suc (span n k.next bs)) 0) [ true ↦ omega (arith, more) | false ↦ omega arith ])

  stretch_word : (bs : List ℕ) → stretch t 0 bs ≡ word_size k bs
  stretch_word [] = refl
  stretch_word (b ∷ bs) =
      let more = stretch_span k.most 1 bs (omega arith) (omega arith) in
      rw first (elim (k.first b) as (λ v. cond v (stretch t (0 + 1) bs) 0 ≡ cond v (suc (span k.most k.next bs)) 0) [ true ↦ omega (arith, more) | false ↦ refl ])

name_first : (b : ℕ) → is_name_byte 0 b ≡ letter b
name_first b = grind (arith, nat_tests)

name_next : (i b : ℕ) → 0 < i → i < 11 + 1 → is_name_byte i b ≡ a_name.next b
name_next i b h l = grind (arith, nat_tests)

pub name_stretch : (bs : List ℕ) → stretch is_name_byte 0 bs ≡ word_size a_name bs
name_stretch = stretch_word is_name_byte a_name name_first name_next (λ b. refl)

number_first : (b : ℕ) → is_number_byte 0 b ≡ lead b
number_first b = grind (arith, nat_tests)

number_next : (i b : ℕ) → 0 < i → i < 6 + 1 → is_number_byte i b ≡ digit b
number_next i b h l = grind (arith, nat_tests)

pub number_stretch : (bs : List ℕ) → stretch is_number_byte 0 bs ≡ word_size a_number bs
number_stretch = stretch_word is_number_byte a_number number_first number_next (λ b. refl)

none_or : (n : ℕ) → (0 < n → ⊥) → n ≡ 0
none_or zero h = refl
none_or (suc n) h = absurd (h (omega arith))

-- a letter is no mark, and a digit is neither
letter_lexeme : (b : ℕ) (w n : Lexeme) → letter b ≡ true
    → cond (eqb b 40) (a_mark Open) (cond (eqb b 41) (a_mark Close) (cond (eqb b 32) (a_mark Space) (cond (eqb b 10) (a_mark LineEnd) (cond (letter b) w (cond (lead b) n another))))) ≡ w
letter_lexeme b w n e = grind (arith, nat_tests)

lead_lexeme : (b : ℕ) (w n : Lexeme) → lead b ≡ true
    → cond (eqb b 40) (a_mark Open) (cond (eqb b 41) (a_mark Close) (cond (eqb b 32) (a_mark Space) (cond (eqb b 10) (a_mark LineEnd) (cond (letter b) w (cond (lead b) n another))))) ≡ n
lead_lexeme b w n e = grind (arith, nat_tests)

pub lexeme_word : (bs : List ℕ) → 0 < length bs → letter (get_or bs 0 0) ≡ true → lexeme bs ≡ a_word (take (word_size a_name bs) bs)
lexeme_word [] some e = absurd (omega arith)
lexeme_word (b ∷ bs) some e = letter_lexeme b _ _ e

pub lexeme_number : (bs : List ℕ) → 0 < length bs → lead (get_or bs 0 0) ≡ true → lexeme bs ≡ numbered (take (word_size a_number bs) bs)
lexeme_number [] some e = absurd (omega arith)
lexeme_number (b ∷ bs) some e = lead_lexeme b _ _ e

-- of six tests in turn, only the fifth gives a word, and only the last a number
only_word : (a b c d e f : Bool) (w n x : List ℕ) (v : ℕ)
    → a_word x ≡ cond a (a_mark Open) (cond b (a_mark Close) (cond c (a_mark Space) (cond d (a_mark LineEnd) (cond e (a_word w) (cond f (a_numeral n v) another)))))
    → (e ≡ true) × (x ≡ w)
only_word true b c d e f w n x v h = absurd (let z : ◌≡◌ {A = ℕ} 0 1 = cc in omega arith)
only_word false true c d e f w n x v h = absurd (let z : ◌≡◌ {A = ℕ} 0 1 = cc in omega arith)
only_word false false true d e f w n x v h = absurd (let z : ◌≡◌ {A = ℕ} 0 1 = cc in omega arith)
only_word false false false true e f w n x v h = absurd (let z : ◌≡◌ {A = ℕ} 0 1 = cc in omega arith)
only_word false false false false true f w n x v h = (refl, (cc))
only_word false false false false false true w n x v h = absurd (let z : ◌≡◌ {A = ℕ} 0 1 = cc in omega arith)
only_word false false false false false false w n x v h = absurd (let z : ◌≡◌ {A = ℕ} 0 1 = cc in omega arith)

only_number : (a b c d e f : Bool) (w n x : List ℕ) (v y : ℕ)
    → a_numeral x y ≡ cond a (a_mark Open) (cond b (a_mark Close) (cond c (a_mark Space) (cond d (a_mark LineEnd) (cond e (a_word w) (cond f (a_numeral n v) another)))))
    → (f ≡ true) × (x ≡ n) × (y ≡ v)
only_number true b c d e f w n x v y h = absurd (let z : ◌≡◌ {A = ℕ} 0 1 = cc in omega arith)
only_number false true c d e f w n x v y h = absurd (let z : ◌≡◌ {A = ℕ} 0 1 = cc in omega arith)
only_number false false true d e f w n x v y h = absurd (let z : ◌≡◌ {A = ℕ} 0 1 = cc in omega arith)
only_number false false false true e f w n x v y h = absurd (let z : ◌≡◌ {A = ℕ} 0 1 = cc in omega arith)
only_number false false false false true f w n x v y h = absurd (let z : ◌≡◌ {A = ℕ} 0 1 = cc in omega arith)
only_number false false false false false true w n x v y h = (refl, (cc), (cc))
only_number false false false false false false w n x v y h = absurd (let z : ◌≡◌ {A = ℕ} 0 1 = cc in omega arith)

-- a word token holds the word at the front
pub word_token : (bs w : List ℕ) → a_word w ≡ lexeme bs → (w ≡ take (word_size a_name bs) bs) × (0 < word_size a_name bs) × (length w ≡ word_size a_name bs)
word_token [] w h = absurd (let z : ◌≡◌ {A = ℕ} 0 1 = cc in omega arith)
word_token (b ∷ bs) w h =
    let size = word_size a_name (b ∷ bs) in
    let e : (letter b ≡ true) × (w ≡ take size (b ∷ bs)) = only_word (eqb b 40) (eqb b 41) (eqb b 32) (eqb b 10) (letter b) (lead b) (take size (b ∷ bs)) (take (word_size a_number (b ∷ bs)) (b ∷ bs)) w (decimal (take (word_size a_number (b ∷ bs)) (b ∷ bs))) h in
    let some : 0 < word_size a_name (b ∷ bs) = rw e.0 (omega arith) in
    (e.1, some, ap length e.1 ∙ length-take-le (word_size a_name (b ∷ bs)) (b ∷ bs) (word_within a_name (b ∷ bs)))

-- a number token holds the number at the front, and its value
pub number_token : (bs d : List ℕ) (v : ℕ) → a_numeral d v ≡ lexeme bs
    → (d ≡ take (word_size a_number bs) bs) × (0 < word_size a_number bs) × (length d ≡ word_size a_number bs) × (v ≡ decimal d)
number_token [] d v h = absurd (let z : ◌≡◌ {A = ℕ} 0 1 = cc in omega arith)
number_token (b ∷ bs) d v h =
    let digits = take (word_size a_number (b ∷ bs)) (b ∷ bs) in
    let e : (lead b ≡ true) × (d ≡ digits) × (v ≡ decimal digits) = only_number (eqb b 40) (eqb b 41) (eqb b 32) (eqb b 10) (letter b) (lead b) (take (word_size a_name (b ∷ bs)) (b ∷ bs)) digits d (decimal digits) v h in
    let some : 0 < word_size a_number (b ∷ bs) = rw e.0 (omega arith) in
    (e.1, some, ap length e.1 ∙ length-take-le (word_size a_number (b ∷ bs)) (b ∷ bs) (word_within a_number (b ∷ bs)), e.2 ∙ ap decimal (sym e.1))

-- a number begins with a digit from 1 on, so it is not 0
pub decimal_grows : (n : ℕ) (bs : List ℕ) → 1 ≤ n → 1 ≤ decimal_after n bs
decimal_grows n [] h = h
decimal_grows n (b ∷ bs) h = decimal_grows (n * 10 + (b - 48)) bs (omega arith)

pub number_some : (bs d : List ℕ) → 0 < word_size a_number bs → d ≡ take (word_size a_number bs) bs → 1 ≤ decimal d
number_some [] d some is = absurd (omega arith)
number_some (b ∷ bs) d some is =
    let lead_is = word_first a_number b bs some in
    let high : 49 ≤ b = grind (arith, nat_tests) in
    let n = span a_number.most a_number.next bs in
    let size : word_size a_number (b ∷ bs) ≡ suc n = rw lead_is refl in
    let digits : d ≡ b ∷ take n bs = is ∙ ap (λ k. take k (b ∷ bs)) size in
    subst (λ xs. 1 ≤ decimal xs) (sym digits) (decimal_grows (0 * 10 + (b - 48)) (take n bs) (omega arith))

-- a text that begins with a letter has a word token, one with a digit a number, one with a mark that mark
some_word : (bs : List ℕ) → 0 < word_size a_name bs → (w : List ℕ) × (lexeme bs ≡ a_word w)
some_word [] some = absurd (omega arith)
some_word (b ∷ bs) some = (_, lexeme_word (b ∷ bs) (omega arith) (word_first a_name b bs some))

some_number : (bs : List ℕ) → 0 < word_size a_number bs → (d : List ℕ) × (lexeme bs ≡ numbered d)
some_number [] some = absurd (omega arith)
some_number (b ∷ bs) some = (_, lexeme_number (b ∷ bs) (omega arith) (word_first a_number b bs some))

mark_lexeme : (m : Mark) (bs : List ℕ) → lexeme (byte_of m ∷ bs) ≡ a_mark m
mark_lexeme Open bs = refl
mark_lexeme Close bs = refl
mark_lexeme Space bs = refl
mark_lexeme LineEnd bs = refl

pub some_mark : (m : Mark) (bs : List ℕ) → 0 < length bs → get_or bs 0 0 ≡ byte_of m → lexeme bs ≡ a_mark m
some_mark m [] some is = absurd (omega arith)
some_mark m (b ∷ bs) some is = ap (λ x. lexeme (x ∷ bs)) is ∙ mark_lexeme m bs

pub no_word : (t : Token) (bs : List ℕ) → lexeme_of t ≡ lexeme bs → ((w : Bor (List ℕ)) (q : ℕ) → t ≡ Word w q → ⊥) → word_size a_name bs ≡ 0
no_word (Word w q) bs h other = absurd (other w q refl)
no_word (Number d q v) bs h other = none_or (word_size a_name bs) (λ some. let e = (some_word bs some).1 in let z : ◌≡◌ {A = ℕ} 0 1 = cc in omega arith)
no_word (Sign m q) bs h other = none_or (word_size a_name bs) (λ some. let e = (some_word bs some).1 in let z : ◌≡◌ {A = ℕ} 0 1 = cc in omega arith)
no_word (Other q) bs h other = none_or (word_size a_name bs) (λ some. let e = (some_word bs some).1 in let z : ◌≡◌ {A = ℕ} 0 1 = cc in omega arith)
no_word (End q) bs h other = none_or (word_size a_name bs) (λ some. let e = (some_word bs some).1 in let z : ◌≡◌ {A = ℕ} 0 1 = cc in omega arith)

pub no_mark : (t : Token) (bs : List ℕ) (want : Mark) → lexeme_of t ≡ lexeme bs → ((q : ℕ) → t ≡ Sign want q → ⊥) → 0 < length bs → get_or bs 0 0 ≡ byte_of want → ⊥
no_mark (Word w q) bs want h other some is = let e = some_mark want bs some is in let z : ◌≡◌ {A = ℕ} 0 1 = cc in omega arith
no_mark (Number d q v) bs want h other some is = let e = some_mark want bs some is in let z : ◌≡◌ {A = ℕ} 0 1 = cc in omega arith
no_mark (Sign m q) bs want h other some is = let e = some_mark want bs some is in let same : m ≡ want = cc in other q (ap (λ x. Sign x q) same)
no_mark (Other q) bs want h other some is = let e = some_mark want bs some is in let z : ◌≡◌ {A = ℕ} 0 1 = cc in omega arith
no_mark (End q) bs want h other some is = let e = some_mark want bs some is in let z : ◌≡◌ {A = ℕ} 0 1 = cc in omega arith
