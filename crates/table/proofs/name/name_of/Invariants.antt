use Rattle.std.proofs.Common.{◌≡◌, List, take, drop}
use Rattle.table.specs.Texts.{RowText, lines, place_after, Accepts}
use Rattle.table.proofs.name.name_of.Given as goal

abbrev pub invariant-loop : goal.invariant-loop
invariant-loop l =
    (rows : List RowText) (a : Accepts l.text rows) → (l.at.rest.now ≡ lines (drop l.counter rows)) × (l.at.place ≡ place_after a.first (take l.counter rows))
