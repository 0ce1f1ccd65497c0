use Rattle.std.proofs.Common.{rules, tests, ◌≡◌, ℕ, ◌||◌, List, [], ◌∷◌, refl, ap, ◌∙◌, Bor}
use Rattle.std.proofs.lemmas.Iterator.{YieldsList-from_slice}
use Rattle.std.proofs.lemmas.Iterator.Search.{any_from_yields_List}
use Rattle.std.specs.List.{list_any}
use Rattle.std.specs.Str.{bytes_eq}
use Rattle.table.specs.Readings.{contents}
use Rattle.table.specs.Verdict.{taken}
use Rattle.table.proofs.read.name_taken.Goals as goal

any_taken : (name : List ℕ) (names : List (Bor (List ℕ))) → list_any (λ other. bytes_eq other.now name) names ≡ taken name (contents names)
any_taken name [] = refl
any_taken name (other ∷ names) = ap (λ b. bytes_eq other.now name || b) (any_taken name names)

pub returns : goal.returns
returns c =
    any_from_yields_List (λ other. bytes_eq other.now c.args.name.now) _ _ c.any.result c.any.ensures.ran (YieldsList-from_slice c.args.names.now (cc)) (λ x b q k. search (rules, tests))
    ∙ any_taken c.args.name.now c.args.names.now
