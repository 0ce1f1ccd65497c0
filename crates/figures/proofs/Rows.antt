-- The tests of a table's rows tell: rows that pass are whole, and the least common multiple, taken row by row, is the
-- common period of all.
use Rattle.std.proofs.Common.{◌≡◌, ℕ, true, ◌&&◌, leb, List, [], ◌∷◌, ◌++◌, sym, subst, append_assoc, append-nil, arith}
use Rattle.std.specs.List.{AllByRecursion}
use Rattle.std.proofs.ByRecursion.{All-get_or}
use Rattle.std.proofs.lemmas.Bool.{and_parts, leb-true}
use Rattle.table.specs.declared.task.Task.{Task}
use Rattle.table.specs.Common.{lcm}
use Rattle.table.specs.Tasks.{Whole, AllWhole, LeastCommon}
use Rattle.table.proofs.Begins.{period_none}
use Rattle.table.proofs.Divisors.{lcm_least}
use Rattle.table.proofs.Drafting.{common_push, least_push}
use Rattle.figures.specs.Tables.{all_whole, common_from}

each_whole : (tasks : List Task) → all_whole tasks ≡ true → AllByRecursion Whole tasks
unfolding all_whole
each_whole [] e = tt
each_whole (t ∷ tasks) e =
    let a = and_parts (leb 1 t.run) (leb t.run t.due && (leb t.due t.gap && all_whole tasks)) e in
    let b = and_parts (leb t.run t.due) (leb t.due t.gap && all_whole tasks) a.1 in
    let c = and_parts (leb t.due t.gap) (all_whole tasks) b.1 in
    ((leb-true _ _ a.0, leb-true _ _ b.0, leb-true _ _ c.0), each_whole tasks c.1)

pub whole_rows : (tasks : List Task) → all_whole tasks ≡ true → AllWhole tasks
whole_rows tasks e row l = All-get_or Whole tasks row (record { run = 0; due = 0; gap = 0 }) l (each_whole tasks e)

common_on : (done tasks : List Task) (h : ℕ) → LeastCommon done h → AllByRecursion Whole tasks → LeastCommon (done ++ tasks) (common_from h tasks)
unfolding common_from
common_on done [] h s w = subst (λ ts. LeastCommon ts h) (sym (append-nil done)) s
common_on done (t ∷ tasks) h s w =
    let m = lcm_least h t.gap s.some (omega (arith, w.0)) in
    let more : LeastCommon (done ++ (t ∷ [])) (lcm h t.gap) = record {
      some = m.some;
      common = common_push done t h (lcm h t.gap) s.common m;
      least = least_push done t h (lcm h t.gap) s.least m;
    } in
    subst (λ ts. LeastCommon ts (common_from (lcm h t.gap) tasks)) (append_assoc done (t ∷ []) tasks)
    (common_on (done ++ (t ∷ [])) tasks (lcm h t.gap) more w.1)

pub common_rows : (tasks : List Task) → all_whole tasks ≡ true → LeastCommon tasks (common_from 1 tasks)
common_rows tasks e = common_on [] tasks 1 period_none (each_whole tasks e)
