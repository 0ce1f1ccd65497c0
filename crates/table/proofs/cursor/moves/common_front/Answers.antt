-- The chain gives the pairs at the front that are alike, so it counts what the two have in common.
use Rattle.std.proofs.Common.{rules, tests, ◌≡◌, ℕ, suc, ◌==◌, Bool, true, false, cond, List, [], ◌∷◌, length, refl, ap, ◌∙◌}
use Rattle.std.proofs.lemmas.Iterator.{YieldsList-from_slice, YieldsList-from_zip}
use Rattle.std.proofs.lemmas.Iterator.Consumers.{count_from_yields_List}
use Rattle.std.proofs.lemmas.Iterator.Search.{YieldsList-from_take_while}
use Rattle.std.proofs.lemmas.List.Sums.{take_while-cons}
use Rattle.std.specs.List.{zip, take_while}
use Rattle.table.specs.Steps.{shared}
use Rattle.table.proofs.cursor.moves.common_front.Goals as goal

abbrev alike : ℕ × ℕ → Bool
alike p = p.0 == p.1

alike_front : (xs ys : List ℕ) → length (take_while alike (zip xs ys)) ≡ shared xs ys
alike_front [] ys = refl
alike_front (x ∷ xs) [] = refl
alike_front (x ∷ xs) (y ∷ ys) =
    ap length (take_while-cons alike (x, y) (zip xs ys))
    ∙ elim (x == y) as (λ v. length (cond v ((x, y) ∷ take_while alike (zip xs ys)) []) ≡ cond v (suc (shared xs ys)) 0) [ true ↦ ap suc (alike_front xs ys) | false ↦ refl ]

pub returns-clause-value : goal.returns-clause-value
returns-clause-value c =
    count_from_yields_List c.take_while.result _ c.count.ensures.ran
    (YieldsList-from_take_while _ alike
    (YieldsList-from_zip (YieldsList-from_slice c.args.left.now (cc)) (YieldsList-from_slice c.args.right.now (cc)))
    c.take_while.ensures.closure c.take_while.ensures.done (λ x b q k. search (rules, tests)))
    ∙ alike_front c.args.left.now c.args.right.now
