use Rattle.std.proofs.Common.{◌≡◌, ◌-◌, ◌≤◌, length}
use Rattle.table.specs.Rows.{rows_of}
use Rattle.planner.proofs.Sleeping.{Sleeping}
use Rattle.planner.proofs.sleeps.sleeps_of.Given as goal

abbrev pub invariant-loop-walk : goal.invariant-loop-walk
invariant-loop-walk l =
    (length l.sleeps ≡ 64) × (l.walk.tasks.now ≡ rows_of l.table) × (l.walk.at ≤ l.end)
    × Sleeping (rows_of l.table) l.sleeps l.walk.at

abbrev pub decreases-loop-walk : goal.decreases-loop-walk
decreases-loop-walk l = l.end - l.walk.at
