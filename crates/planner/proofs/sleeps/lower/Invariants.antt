use Rattle.std.proofs.Common.{◌≡◌, ℕ, ◌<◌, ◌≤◌, min, get_or}
use Rattle.table.specs.Tasks.{task_at}
use Rattle.planner.proofs.sleeps.lower.Given as goal

abbrev pub invariant-loop-row : goal.invariant-loop-row
invariant-loop-row l =
    ((i : ℕ) → i < l.row
    → ((task_at l.tasks i).due ≤ l.from → get_or l.sleeps i 0 ≡ min (get_or l.initial.sleeps i 0) l.least)
    × (l.from < (task_at l.tasks i).due → get_or l.sleeps i 0 ≡ get_or l.initial.sleeps i 0))
    × ((i : ℕ) → l.row ≤ i → get_or l.sleeps i 0 ≡ get_or l.initial.sleeps i 0)
