-- A line's form over pieces and over the atoms that they stand for is the same form, so the law of the place holds of
-- every description whose words are each followed by a byte that no such word could go on with: what fits has the
-- form, a line of the form is read whole with its words whatever follows, and elsewhere the place is the first that
-- no such line has.
use Rattle.std.proofs.Common.{◌≡◌, ℕ, zero, suc, ◌<◌, ◌≤◌, Bool, true, false, List, [], ◌∷◌, ◌++◌, length, take, drop, sym, refl, ap, ◌∙◌, subst, true≢false, append_assoc, arith, take-append-drop, eq-eqb, eqb-true}
use Rattle.std.proofs.lemmas.List.{take_at, drop_at, take-take}
use Rattle.std.specs.List.{AllByRecursion}
use Rattle.table.specs.Form.{Piece, mark, word, Form, nothing, a_mark, a_word, Begins, Stops, NoLine}
use Rattle.table.specs.Scan.{Atom, one, upto, atoms, span, words_of, reaches, fitting}
use Rattle.table.proofs.Forms.{Made, none, byte, enough, more, Lawful, lawful_rest, place_is_first, fits_is_made, span_none, made_is_fits}

-- at most n bytes of a set
stretched : (n : ℕ) (s : ℕ → Bool) (qs : List Atom) (w bs : List ℕ) → AllByRecursion (λ c. s c ≡ true) w → length w ≤ n → Made qs bs → Made (upto n s ∷ qs) (w ++ bs)
stretched n s qs [] bs all few f = enough f
stretched zero s qs (c ∷ w) bs all few f = absurd (omega arith)
stretched (suc n) s qs (c ∷ w) bs all few f = more all.0 (stretched n s qs w bs all.1 (omega arith) f)

form_made : {ps : List Piece} {bs : List ℕ} {ws : List (List ℕ)} → Form ps bs ws → Made (atoms ps) bs
form_made nothing = none
form_made (a_mark {b} f) = byte (eq-eqb b b refl) (form_made f)
form_made (a_word [] is f) = absurd is
form_made (a_word {k} {ps} {bs} (b ∷ w) is f) = byte is.0 (stretched k.most k.next (atoms ps) w bs is.1 is.2 (form_made f))

-- the stretch at the front, and what follows it
record Parted (n : ℕ) (s : ℕ → Bool) (qs : List Atom) (bs : List ℕ) : Type 0 where
  front : List ℕ
  back : List ℕ
  whole : bs ≡ front ++ back
  all : AllByRecursion (λ c. s c ≡ true) front
  few : length front ≤ n
  rest : Made qs back

parted : (n : ℕ) (s : ℕ → Bool) (qs : List Atom) (bs : List ℕ) → Made (upto n s ∷ qs) bs → Parted n s qs bs
parted n s qs bs (enough f) = record { front = []; back = bs; whole = refl; all = tt; few = omega arith; rest = f }
parted (suc n) s qs (b ∷ bs) (more e f) =
    let p = parted n s qs bs f in
    record { front = b ∷ p.front; back = p.back; whole = ap (λ xs. b ∷ xs) p.whole; all = (e, p.all); few = omega (arith, p.few); rest = p.rest }

made_form : (ps : List Piece) (bs : List ℕ) → Made (atoms ps) bs → (ws : List (List ℕ)) × Form ps bs ws
made_form [] [] f = ([], nothing)
made_form [] (b ∷ bs) f = elim f [ ]
made_form (mark b ∷ ps) [] f = elim f [ ]
made_form (mark b ∷ ps) (x ∷ bs) (byte e f) =
    let r = made_form ps bs f in
    let same : b ≡ x = eqb-true b x e in
    (r.0, subst (λ y. Form (mark b ∷ ps) (y ∷ bs) r.0) same (a_mark r.1))
made_form (word k ∷ ps) [] f = elim f [ ]
made_form (word k ∷ ps) (b ∷ bs) (byte e f) =
    let p = parted k.most k.next (atoms ps) bs f in
    let r = made_form ps p.back p.rest in
    let w : List ℕ = b ∷ p.front in
    (w ∷ r.0, subst (λ xs. Form (word k ∷ ps) (b ∷ xs) (w ∷ r.0)) (sym p.whole) (a_word w (e, p.all, p.few) r.1))

-- a word ends where the byte after it stands
word_span : (n : ℕ) (s : ℕ → Bool) (qs : List Atom) (w bs rest : List ℕ) → Lawful (upto n s ∷ qs) → AllByRecursion (λ c. s c ≡ true) w → length w ≤ n → Made qs bs → span n s (w ++ (bs ++ rest)) ≡ length w
word_span n s qs [] bs rest l all few f = span_none n s qs bs rest l f
word_span zero s qs (c ∷ w) bs rest l all few f = absurd (omega arith)
word_span (suc n) s [] (c ∷ w) bs rest l all few f = absurd l
word_span (suc n) s (upto m t ∷ qs) (c ∷ w) bs rest l all few f = absurd l
word_span (suc n) s (one t ∷ qs) (c ∷ w) bs rest l all few f =
    let e = all.0 in
    rw e (ap suc (word_span n s (one t ∷ qs) w bs rest l all.1 (omega arith) f))

form_words : {ps : List Piece} {bs : List ℕ} {ws : List (List ℕ)} (rest : List ℕ) → Lawful (atoms ps) → Form ps bs ws → words_of ps (bs ++ rest) ≡ ws
form_words rest l nothing = refl
form_words rest l (a_mark f) = form_words rest l.1 f
form_words rest l (a_word [] is f) = absurd is
form_words rest l (a_word {k} {ps} {bs} {ws} (b ∷ w) is f) =
    let first = is.0 in
    let size : span k.most k.next (w ++ (bs ++ rest)) ≡ length w = word_span k.most k.next (atoms ps) w bs rest l.1 is.1 is.2 (form_made f) in
    let front = take_at w (bs ++ rest) (length w) refl in
    let back = drop_at w (bs ++ rest) (length w) refl in
    let after = form_words rest (lawful_rest k.most k.next (atoms ps) l.1) f in
    rw (append_assoc w bs rest, first, size, front, back, after) refl

module _ (ps : List Piece) (lawful : Lawful (atoms ps)) where
  -- a line of the form is read whole, with its words, whatever follows it
  pub form_read : (line rest : List ℕ) (ws : List (List ℕ)) → Form ps line ws
      → (fitting ps (line ++ rest) ≡ true) × (reaches ps (line ++ rest) ≡ length line) × (words_of ps (line ++ rest) ≡ ws)
  form_read line rest ws f =
      let r = made_is_fits (atoms ps) line rest lawful (form_made f) in
      (r.0, r.1, form_words rest lawful f)

  -- what is read has the form
  pub read_form : (bs : List ℕ) → fitting ps bs ≡ true → Form ps (take (reaches ps bs) bs) (words_of ps bs)
  read_form bs h =
      let n = reaches ps bs in
      let r = made_form ps (take n bs) (fits_is_made (atoms ps) bs h) in
      let same : words_of ps bs ≡ r.0 = ap (words_of ps) (sym (take-append-drop n bs)) ∙ form_words (drop n bs) lawful r.1 in
      subst (λ ws. Form ps (take n bs) ws) (sym same) r.1

  pub read_stops : (bs : List ℕ) → fitting ps bs ≡ false → Stops ps bs (reaches ps bs)
  read_stops bs h =
      let s = place_is_first (atoms ps) bs lawful h in
      let line = made_form ps (take (reaches ps bs) bs ++ s.could.0) s.could.1 in
      record {
        within = s.within;
        could = (s.could.0, line.0, line.1);
        cannot = λ lt b. s.cannot lt b.0 (form_made b.2);
      }

  pub read_none : (bs : List ℕ) → fitting ps bs ≡ false → NoLine ps bs
  read_none bs h k ws f =
      let whole : fitting ps bs ≡ true = subst (λ xs. fitting ps xs ≡ true) (take-append-drop k bs) (form_read (take k bs) (drop k bs) ws f).0 in
      true≢false (sym whole ∙ h)

  fitting_or : (v : Bool) (bs : List ℕ) → fitting ps bs ≡ v → NoLine ps bs → fitting ps bs ≡ false
  fitting_or true bs e nowhere = absurd (nowhere (reaches ps bs) (words_of ps bs) (read_form bs e))
  fitting_or false bs e nowhere = e

  -- what begins a line also begins it with fewer bytes
  begins_less : (bs : List ℕ) (j k : ℕ) → j ≤ k → Begins ps (take k bs) → Begins ps (take j bs)
  begins_less bs j k h b =
      let front : take j (take k bs) ≡ take j bs = take-take j k bs h in
      let whole : take j bs ++ drop j (take k bs) ≡ take k bs = ap (λ xs. xs ++ drop j (take k bs)) (sym front) ∙ take-append-drop j (take k bs) in
      let joined : take j bs ++ (drop j (take k bs) ++ b.0) ≡ take k bs ++ b.0 = sym (append_assoc (take j bs) (drop j (take k bs)) b.0) ∙ ap (λ xs. xs ++ b.0) whole in
      (drop j (take k bs) ++ b.0, b.1, subst (λ xs. Form ps xs b.1) (sym joined) b.2)

  not_below : (bs : List ℕ) (p q : ℕ) → Stops ps bs p → Stops ps bs q → p < q → ⊥
  not_below bs p q s t lt = s.cannot (omega (arith, t.within)) (begins_less bs (suc p) q (omega arith) t.could)

  -- there is only one such place, and there the reader stops
  pub stops_read : (bs : List ℕ) (p : ℕ) → Stops ps bs p → NoLine ps bs → (fitting ps bs ≡ false) × (reaches ps bs ≡ p)
  stops_read bs p s nowhere =
      let unfit = fitting_or (fitting ps bs) bs refl nowhere in
      let t = read_stops bs unfit in
      let low : reaches ps bs < p → ⊥ = not_below bs (reaches ps bs) p t s in
      let high : p < reaches ps bs → ⊥ = not_below bs p (reaches ps bs) s t in
      (unfit, same_from (reaches ps bs) p low high)
    where
      same_from : (m n : ℕ) → (m < n → ⊥) → (n < m → ⊥) → m ≡ n
      same_from m n h k = omega arith
