-- The law of the place, over atoms: one byte of a set, or at most so many. A stretch of a set is always followed by a
-- byte outside it, so each byte of a text settles which atom it belongs to, and following the atoms byte by byte finds
-- the only line that can stand at the front, or the first byte that none has there.
use Rattle.std.proofs.Common.{◌≡◌, ℕ, zero, suc, ◌+◌, ◌<◌, ◌≤◌, Bool, true, false, cond, ◌&&◌, List, [], ◌∷◌, ◌++◌, length, take, drop, sym, refl, ap, ◌∙◌, true≢false, suc-add, zero-add, arith}
use Rattle.table.specs.Scan.{Atom, one, upto, span, reach, fits}

-- the bytes are what the atoms allow, one after the other
pub data Made : List Atom → List ℕ → Type 0 where
  none : Made [] []
  byte : {s : ℕ → Bool} {b : ℕ} {ps : List Atom} {bs : List ℕ} → s b ≡ true → Made ps bs → Made (one s ∷ ps) (b ∷ bs)
  enough : {n : ℕ} {s : ℕ → Bool} {ps : List Atom} {bs : List ℕ} → Made ps bs → Made (upto n s ∷ ps) bs
  more : {n : ℕ} {s : ℕ → Bool} {b : ℕ} {ps : List Atom} {bs : List ℕ} → s b ≡ true → Made (upto n s ∷ ps) bs → Made (upto (suc n) s ∷ ps) (b ∷ bs)

-- p is the first place at which nothing of the form goes on as bs does, or where bs stops short
pub record Ends (ps : List Atom) (bs : List ℕ) (p : ℕ) : Type 0 where
  pub within : p ≤ length bs
  pub could : (rest : List ℕ) × Made ps (take p bs ++ rest)
  pub cannot : p < length bs → (rest : List ℕ) → Made ps (take (suc p) bs ++ rest) → ⊥

-- after at most n of a set comes one byte that is not of it, and each set has a byte
abbrev pub Lawful : List Atom → Type 0
Lawful [] = Unit {0}
Lawful (one s ∷ ps) = ((b : ℕ) × (s b ≡ true)) × Lawful ps
Lawful (upto n s ∷ []) = ⊥
Lawful (upto n s ∷ upto m t ∷ ps) = ⊥
Lawful (upto n s ∷ one t ∷ ps) = ((b : ℕ) → s b ≡ true → t b ≡ true → ⊥) × Lawful (one t ∷ ps)

-- the form, one byte or one atom on
abbrev Goes : List Atom → List ℕ → Type 0
Goes [] bs = Unit {0}
Goes (one s ∷ ps) [] = ⊥
Goes (one s ∷ ps) (b ∷ bs) = (s b ≡ true) × Made ps bs
Goes (upto zero s ∷ ps) bs = Made ps bs
Goes (upto (suc n) s ∷ ps) [] = Made ps []
Goes (upto (suc n) s ∷ ps) (b ∷ bs) = (s b ≡ false → Made ps (b ∷ bs)) × (s b ≡ true → (Made ps (b ∷ bs) → ⊥) → Made (upto n s ∷ ps) bs)

step : (ps : List Atom) (bs : List ℕ) → Made ps bs → Goes ps bs
step [] bs f = tt
step (one s ∷ ps) [] f = elim f [ ]
step (one s ∷ ps) (b ∷ bs) (byte e f) = (e, f)
step (upto zero s ∷ ps) bs (enough f) = f
step (upto (suc n) s ∷ ps) [] (enough f) = f
step (upto (suc n) s ∷ ps) (b ∷ bs) (enough f) = (λ _. f, λ _ other. absurd (other f))
step (upto (suc n) s ∷ ps) (b ∷ bs) (more e f) = (λ other. absurd (true≢false (sym e ∙ other)), λ _ _. f)

goes : {ps : List Atom} {bs : List ℕ} → Made ps bs → Goes ps bs
goes {ps} {bs} f = step ps bs f

-- a line there is
some : (ps : List Atom) → Lawful ps → (bs : List ℕ) × Made ps bs
some [] l = ([], none)
some (one s ∷ ps) l = let r = some ps l.1 in (l.0.0 ∷ r.0, byte l.0.1 r.1)
some (upto n s ∷ []) l = absurd l
some (upto n s ∷ upto m t ∷ ps) l = absurd l
some (upto n s ∷ one t ∷ ps) l = let r = some (one t ∷ ps) l.1 in (r.0, enough r.1)

pub lawful_rest : (n : ℕ) (s : ℕ → Bool) (ps : List Atom) → Lawful (upto n s ∷ ps) → Lawful ps
lawful_rest n s [] l = absurd l
lawful_rest n s (upto m t ∷ ps) l = absurd l
lawful_rest n s (one t ∷ ps) l = l.1

lawful_any : (m n : ℕ) (s : ℕ → Bool) (ps : List Atom) → Lawful (upto n s ∷ ps) → Lawful (upto m s ∷ ps)
lawful_any m n s [] l = absurd l
lawful_any m n s (upto k t ∷ ps) l = absurd l
lawful_any m n s (one t ∷ ps) l = l

-- what follows the stretch does not begin with a byte of its set
apart : (n : ℕ) (s : ℕ → Bool) (ps : List Atom) (b : ℕ) (bs : List ℕ) → Lawful (upto n s ∷ ps) → s b ≡ true → Made ps (b ∷ bs) → ⊥
apart n s [] b bs l e f = absurd l
apart n s (upto m t ∷ ps) b bs l e f = absurd l
apart n s (one t ∷ ps) b bs l e f = l.0 b e (goes f).0

module _ (s : ℕ → Bool) (ps : List Atom) where
  one_ends : (b : ℕ) (bs : List ℕ) (v : Bool) → s b ≡ v → Lawful (one s ∷ ps) → (p : ℕ) → (v ≡ true → Ends ps bs p) → Ends (one s ∷ ps) (b ∷ bs) (cond v (suc p) 0)
  one_ends b bs true e l p ih =
      let h = ih refl in
      record {
        within = omega (arith, h.within);
        could = (h.could.0, byte e h.could.1);
        cannot = λ lt rest f. h.cannot (omega arith) rest (goes f).1;
      }
  one_ends b bs false e l p ih =
      record {
        within = omega arith;
        could = some (one s ∷ ps) l;
        cannot = λ lt rest f. absurd (true≢false (sym (goes f).0 ∙ e));
      }

  -- nothing of the stretch is there
  none_ends : (n : ℕ) (bs : List ℕ) (q : ℕ) → (q < length bs → (rest : List ℕ) → Made (upto n s ∷ ps) (take (suc q) bs ++ rest) → Made ps (take (suc q) bs ++ rest)) → Ends ps bs q → Ends (upto n s ∷ ps) bs (0 + q)
  none_ends n bs q only h =
      rw zero-add (record {
        within = h.within;
        could = (h.could.0, enough h.could.1);
        cannot = λ lt rest f. h.cannot lt rest (only lt rest f);
      })

  more_ends : (n b : ℕ) (bs : List ℕ) (q r : ℕ) (v : Bool) → s b ≡ v → Lawful (upto n s ∷ ps) → (Ends ps (drop r bs) q → Ends (upto n s ∷ ps) bs (r + q)) → Ends ps (drop (cond v (suc r) 0) (b ∷ bs)) q → Ends (upto (suc n) s ∷ ps) (b ∷ bs) (cond v (suc r) 0 + q)
  more_ends n b bs q r true e l ih h =
      let g = ih h in
      rw suc-add (record {
        within = omega (arith, g.within);
        could = (g.could.0, more e g.could.1);
        cannot = λ lt rest f. g.cannot (omega arith) rest ((goes f).1 e (apart n s ps b _ l e));
      })
  more_ends n b bs q r false e l ih h = none_ends (suc n) (b ∷ bs) q (λ lt rest f. (goes f).0 e) h

  upto_ends : (n : ℕ) (bs : List ℕ) (q : ℕ) → Lawful (upto n s ∷ ps) → Ends ps (drop (span n s bs) bs) q → Ends (upto n s ∷ ps) bs (span n s bs + q)
  upto_ends zero bs q l h = none_ends zero bs q (λ lt rest f. goes f) h
  upto_ends (suc n) [] q l h = none_ends (suc n) [] q (λ lt rest f. absurd (omega arith)) h
  upto_ends (suc n) (b ∷ bs) q l h =
      more_ends n b bs q (span n s bs) (s b) refl (lawful_any n (suc n) s ps l) (upto_ends n bs q (lawful_any n (suc n) s ps l)) h

and_false : (u v : Bool) → u && v ≡ false → u ≡ true → v ≡ false
and_false true v h e = h
and_false false v h e = absurd (true≢false (sym e))

pub place_is_first : (ps : List Atom) (bs : List ℕ) → Lawful ps → fits ps bs ≡ false → Ends ps bs (reach ps bs)
place_is_first [] bs l h = absurd (true≢false h)
place_is_first (one s ∷ ps) [] l h =
    record { within = omega arith; could = some (one s ∷ ps) l; cannot = λ lt rest f. absurd (omega arith) }
place_is_first (one s ∷ ps) (b ∷ bs) l h =
    one_ends s ps b bs (s b) refl l (reach ps bs) (λ e. place_is_first ps bs l.1 (and_false (s b) (fits ps bs) h e))
place_is_first (upto n s ∷ ps) bs l h =
    upto_ends s ps n bs (reach ps (drop (span n s bs) bs)) l (place_is_first ps (drop (span n s bs) bs) (lawful_rest n s ps l) h)

module _ (s : ℕ → Bool) (ps : List Atom) where
  more_made : (n b : ℕ) (bs : List ℕ) (q r : ℕ) (v : Bool) → s b ≡ v → (Made ps (take q (drop r bs)) → Made (upto n s ∷ ps) (take (r + q) bs)) → Made ps (take q (drop (cond v (suc r) 0) (b ∷ bs))) → Made (upto (suc n) s ∷ ps) (take (cond v (suc r) 0 + q) (b ∷ bs))
  more_made n b bs q r true e ih h = rw suc-add (more e (ih h))
  more_made n b bs q r false e ih h = rw zero-add (enough h)

  upto_made : (n : ℕ) (bs : List ℕ) (q : ℕ) → Made ps (take q (drop (span n s bs) bs)) → Made (upto n s ∷ ps) (take (span n s bs + q) bs)
  upto_made zero bs q h = rw zero-add (enough h)
  upto_made (suc n) [] q h = rw zero-add (enough h)
  upto_made (suc n) (b ∷ bs) q h = more_made n b bs q (span n s bs) (s b) refl (upto_made n bs q) h

one_made : (s : ℕ → Bool) (ps : List Atom) (b : ℕ) (bs : List ℕ) (p : ℕ) (u v : Bool) → s b ≡ u → u && v ≡ true → (v ≡ true → Made ps (take p bs)) → Made (one s ∷ ps) (take (cond u (suc p) 0) (b ∷ bs))
one_made s ps b bs p true v e h ih = byte e (ih h)
one_made s ps b bs p false v e h ih = absurd (true≢false (sym h))

pub fits_is_made : (ps : List Atom) (bs : List ℕ) → fits ps bs ≡ true → Made ps (take (reach ps bs) bs)
fits_is_made [] bs h = none
fits_is_made (one s ∷ ps) [] h = absurd (true≢false (sym h))
fits_is_made (one s ∷ ps) (b ∷ bs) h = one_made s ps b bs (reach ps bs) (s b) (fits ps bs) refl h (fits_is_made ps bs)
fits_is_made (upto n s ∷ ps) bs h = upto_made s ps n bs (reach ps (drop (span n s bs) bs)) (fits_is_made ps (drop (span n s bs) bs) h)

-- no byte of the stretch stands where what follows it begins
pub span_none : (n : ℕ) (s : ℕ → Bool) (ps : List Atom) (bs rest : List ℕ) → Lawful (upto n s ∷ ps) → Made ps bs → span n s (bs ++ rest) ≡ 0
span_none zero s ps bs rest l f = refl
span_none (suc n) s [] bs rest l f = absurd l
span_none (suc n) s (upto m t ∷ ps) bs rest l f = absurd l
span_none (suc n) s (one t ∷ ps) [] rest l f = absurd (goes f)
span_none (suc n) s (one t ∷ ps) (b ∷ bs) rest l f =
    let past : (v : Bool) → s b ≡ v → cond v (suc (span n s (bs ++ rest))) 0 ≡ 0 = λ v e. elim v as (λ w. s b ≡ w → cond w (suc (span n s (bs ++ rest))) 0 ≡ 0) [ true ↦ λ is. absurd (l.0 b is (goes f).0) | false ↦ λ _. refl ] e in
    past (s b) refl

-- a line is read whole, whatever follows it
pub made_is_fits : (ps : List Atom) (bs rest : List ℕ) → Lawful ps → Made ps bs → (fits ps (bs ++ rest) ≡ true) × (reach ps (bs ++ rest) ≡ length bs)
made_is_fits [] [] rest l none = (refl, refl)
made_is_fits [] (b ∷ bs) rest l f = elim f [ ]
made_is_fits (one s ∷ ps) [] rest l f = elim f [ ]
made_is_fits (one s ∷ ps) (b ∷ bs) rest l (byte e f) =
    let ih = made_is_fits ps bs rest l.1 f in
    (rw e ih.0, rw e (ap suc ih.1))
made_is_fits (upto n s ∷ ps) bs rest l (enough f) =
    let ih = made_is_fits ps bs rest (lawful_rest n s ps l) f in
    rw (span_none n s ps bs rest l f, zero-add) ih
made_is_fits (upto (suc n) s ∷ ps) (b ∷ bs) rest l (more e f) =
    let ih = made_is_fits (upto n s ∷ ps) bs rest (lawful_any n (suc n) s ps l) f in
    rw (e, suc-add) (ih.0, ap suc ih.1)
