-- A table that was read, by its tasks and its common period. Assumes nothing.
use Rattle.std.specs.Prelude.{ℕ, List}
use Rattle.table.specs.Drafts.{drafted, common_so_far}
use Rattle.table.specs.declared.task.Task.{Task}
use Rattle.table.specs.declared.rows.Table.{Table}

-- the tasks of a table, in the order of their rows
abbrev pub rows_of : Table → List Task
rows_of t = drafted t.rows

-- its common period
abbrev pub common_of : Table → ℕ
common_of t = common_so_far t.rows
