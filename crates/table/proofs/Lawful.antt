-- The two kinds of line are lawful: behind each name stands a space and behind each number a closing bracket, which no
-- name and no number could go on with. A row's line has four words, and a number that is written is at least 1.
use Rattle.std.proofs.Common.{◌≡◌, ℕ, suc, ◌+◌, ◌-◌, ◌*◌, ◌≤◌, true, false, List, [], ◌∷◌, ◌++◌, length, get_or, drop, codes, sym, refl, ap, ◌∙◌, subst, true≢false, append_assoc, arith, eq-eqb, eqb-true}
use Rattle.std.proofs.lemmas.Bool.Decides.{nat_tests}
use Rattle.table.specs.Form.{Class, IsWord, Piece, mark, word, Form, a_mark, a_word}
use Rattle.table.specs.Lines.{a_name, a_number, exactly, a_field, count_line, row_title, row_line, decimal}
use Rattle.table.specs.Scan.{atoms, word_size, words_of}
use Rattle.table.proofs.Forms.{Lawful}
use Rattle.table.proofs.Words.{decimal_grows}

exactly_lawful : (bs : List ℕ) (ps : List Piece) → Lawful (atoms ps) → Lawful (atoms (exactly bs ++ ps))
exactly_lawful [] ps l = l
exactly_lawful (b ∷ bs) ps l = ((b, eq-eqb b b refl), exactly_lawful bs ps l)

-- a word, with a byte that it may begin with, and behind it a mark that it could not go on with
word_lawful : (k : Class) (x b : ℕ) (ps : List Piece) → k.first x ≡ true → k.next b ≡ false → Lawful (atoms ps) → Lawful (atoms (word k ∷ mark b ∷ ps))
word_lawful k x b ps first stop l =
    ((x, first), (λ c in-word is-mark. true≢false (sym in-word ∙ ap k.next (sym (eqb-true b c is-mark)) ∙ stop), ((b, eq-eqb b b refl), l)))

field_lawful : (title : List ℕ) (ps : List Piece) → Lawful (atoms ps) → Lawful (atoms (a_field title ++ ps))
field_lawful title ps l =
    let number = word_lawful a_number 49 41 ps refl refl l in
    let inner = exactly_lawful title (exactly (codes " ") ++ (word a_number ∷ (exactly (codes ")") ++ ps))) (exactly_lawful (codes " ") (word a_number ∷ mark 41 ∷ ps) number) in
    let grouped = append_assoc (exactly title) (exactly (codes " ") ++ (word a_number ∷ exactly (codes ")"))) ps in
    exactly_lawful (codes " (") ((exactly title ++ (exactly (codes " ") ++ (word a_number ∷ exactly (codes ")")))) ++ ps) (subst (λ qs. Lawful (atoms qs)) (sym grouped) inner)

pub count_lawful : Lawful (atoms count_line)
count_lawful = exactly_lawful (codes "(table ") (word a_number ∷ exactly (41 ∷ 10 ∷ [])) (word_lawful a_number 49 41 (mark 10 ∷ []) refl refl (exactly_lawful (10 ∷ []) [] tt))

pub row_lawful : Lawful (atoms row_line)
row_lawful =
    let end = exactly_lawful (41 ∷ 10 ∷ []) [] tt in
    let gap = field_lawful (codes "gap") (exactly (41 ∷ 10 ∷ [])) end in
    let due = field_lawful (codes "due") (a_field (codes "gap") ++ exactly (41 ∷ 10 ∷ [])) gap in
    let run = field_lawful (codes "run") (a_field (codes "due") ++ (a_field (codes "gap") ++ exactly (41 ∷ 10 ∷ []))) due in
    exactly_lawful row_title (word a_name ∷ (a_field (codes "run") ++ (a_field (codes "due") ++ (a_field (codes "gap") ++ exactly (41 ∷ 10 ∷ [])))))
    (word_lawful a_name 97 32 (drop 1 (a_field (codes "run") ++ (a_field (codes "due") ++ (a_field (codes "gap") ++ exactly (41 ∷ 10 ∷ []))))) refl refl run.1)

-- how many words a description has
abbrev words_in : List Piece → ℕ
words_in [] = 0
words_in (mark b ∷ ps) = words_in ps
words_in (word k ∷ ps) = suc (words_in ps)

words_counted : (ps : List Piece) (bs : List ℕ) → length (words_of ps bs) ≡ words_in ps
words_counted [] bs = refl
words_counted (mark b ∷ ps) bs = words_counted ps (drop 1 bs)
words_counted (word k ∷ ps) bs = ap suc (words_counted ps (drop (word_size k bs) bs))

four_words : (ws : List (List ℕ)) → length ws ≡ 4 → ws ≡ get_or ws 0 [] ∷ get_or ws 1 [] ∷ get_or ws 2 [] ∷ get_or ws 3 [] ∷ []
four_words [] e = absurd (omega arith)
four_words (a ∷ []) e = absurd (omega arith)
four_words (a ∷ b ∷ []) e = absurd (omega arith)
four_words (a ∷ b ∷ c ∷ []) e = absurd (omega arith)
four_words (a ∷ b ∷ c ∷ d ∷ []) e = refl
four_words (a ∷ b ∷ c ∷ d ∷ x ∷ ws) e = absurd (omega arith)

pub row_words : (bs : List ℕ) → words_of row_line bs ≡ get_or (words_of row_line bs) 0 [] ∷ get_or (words_of row_line bs) 1 [] ∷ get_or (words_of row_line bs) 2 [] ∷ get_or (words_of row_line bs) 3 [] ∷ []
row_words bs = four_words (words_of row_line bs) (words_counted row_line bs)

one_word : (ws : List (List ℕ)) → length ws ≡ 1 → ws ≡ get_or ws 0 [] ∷ []
one_word [] e = absurd (omega arith)
one_word (a ∷ []) e = refl
one_word (a ∷ x ∷ ws) e = absurd (omega arith)

pub count_words : (bs : List ℕ) → words_of count_line bs ≡ get_or (words_of count_line bs) 0 [] ∷ []
count_words bs = one_word (words_of count_line bs) (words_counted count_line bs)

-- the bytes of a description's beginning stand at the front of its lines
pub exactly_front : (bs : List ℕ) {ps : List Piece} {line : List ℕ} {ws : List (List ℕ)} → Form (exactly bs ++ ps) line ws → (back : List ℕ) × (line ≡ bs ++ back) × Form ps back ws
exactly_front [] {ps} {line} f = (line, refl, f)
exactly_front (b ∷ bs) (a_mark f) = let r = exactly_front bs f in (r.0, ap (λ xs. b ∷ xs) r.1, r.2)

pub word_front : {k : Class} {ps : List Piece} {line w : List ℕ} {ws : List (List ℕ)} → Form (word k ∷ ps) line (w ∷ ws) → (back : List ℕ) × (line ≡ w ++ back) × IsWord k w × Form ps back ws
word_front (a_word {bs = back} w is f) = (back, refl, is, f)

pub number_one : (w : List ℕ) → IsWord a_number w → 1 ≤ decimal w
number_one [] is = absurd is
number_one (b ∷ w) is =
    let first = is.0 in
    let high : 49 ≤ b = grind (arith, nat_tests) in
    decimal_grows (0 * 10 + (b - 48)) w (omega arith)
