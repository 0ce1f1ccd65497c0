-- Some rows, none at first: of a table while it is read, and of whoever takes them over. Assumes nothing.
--   drafted         the tasks so far, in the order of their rows
--   common_so_far   their common period
--   Adds            one task more, or the refusal where the common period would pass its limit
use Rattle.std.specs.Prelude.{◌≡◌, ℕ, ◌<◌, ◌≤◌, List, [], ◌∷◌, ◌++◌, take, Ok, Err, Result}
use Rattle.refusal.specs.declared.cases.Position.{Position}
use Rattle.refusal.specs.declared.cases.Refusal.{Refusal}
use Rattle.refusal.specs.declared.cases.Refusal.TheVariants.{CommonLimit}
use Rattle.table.specs.Common.{lcm}
use Rattle.table.specs.Limits.{most_common}
use Rattle.table.specs.declared.rows.Rows.{Rows}
use Rattle.table.specs.declared.task.Task.{Task}

abbrev pub drafted : Rows → List Task
drafted r = take r.count r.list

abbrev pub common_so_far : Rows → ℕ
common_so_far r = r.common

-- the task is the last of the tasks after, and the common period is again that of all
pub record Added (task : Task) (before after : Rows) : Type 0 where
  pub within : lcm (common_so_far before) task.gap ≤ most_common
  pub tasks : drafted after ≡ drafted before ++ (task ∷ [])
  pub common : common_so_far after ≡ lcm (common_so_far before) task.gap

-- the common period would pass its limit: the refusal says where, and the rows are as before
pub record Refused (here : Position) (task : Task) (e : Refusal) (before after : Rows) : Type 0 where
  pub past : most_common < lcm (common_so_far before) task.gap
  pub same : after ≡ before
  pub why : e ≡ CommonLimit here

abbrev pub Adds : Position → Task → Result (Unit {0}) Refusal → Rows → Rows → Type 0
Adds here task (Ok _) before after = Added task before after
Adds here task (Err e) before after = Refused here task e before after
