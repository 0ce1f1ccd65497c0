-- A cursor at the start of a text reads the first line of the text itself, from the place 0.
use Rattle.std.proofs.Common.{◌≡◌, ℕ, List, [], ◌∷◌, subst}
use Rattle.table.specs.Lines.{count_line}
use Rattle.table.specs.Steps.{Past, Stuck, MovesBy, Halts}
use Rattle.table.specs.declared.cursor.Cursor.{Cursor}

module _ (text : List ℕ) (start : Cursor) (is : start.rest.now ≡ text) (here : start.place ≡ 0) where
  pub first_moves : (count : ℕ) (d : Cursor) (m : MovesBy count_line start count d) → Past count_line text 0 (m.0 ∷ []) d.rest.now d.place
  first_moves count d m =
      subst (λ p. Past count_line text p (m.0 ∷ []) d.rest.now d.place) here
      (subst (λ bs. Past count_line bs start.place (m.0 ∷ []) d.rest.now d.place) is m.2)

  pub first_halts : (q : ℕ) → Halts count_line start q → Stuck count_line text 0 q
  first_halts q s = subst (λ p. Stuck count_line text p q) here (subst (λ bs. Stuck count_line bs start.place q) is s)
