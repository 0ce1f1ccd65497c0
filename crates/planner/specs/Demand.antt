-- What a table can ask for: need, load, and the sleeps that they leave room for. Assumes nothing.
--   demand task t   the ticks that one task's releases can ask for inside a window of t ticks
--   need tasks t    the same of all tasks together: the demand bound function
--   load tasks h    the ticks that the tasks ask for in h ticks, a common multiple of their gaps
--   Accepted        no window can demand more ticks than it has
--   IsSleep         the sleep of a row (its procrastination interval): the smallest margin (slack) of all windows
--                   from the row's due upward, without end
-- The margin of a window is what its length leaves over its need. It is never written as a difference, since a
-- difference of natural numbers stops at 0.
use Rattle.std.specs.Prelude.{◌≡◌, ℕ, zero, suc, ◌+◌, ◌-◌, ◌*◌, ◌/◌, ◌≤◌, cond, List, length, nat_le}
use Rattle.table.specs.declared.task.Task.{Task}
use Rattle.table.specs.Tasks.{task_at}

unfoldable pub demand : Task → ℕ → ℕ
demand task t = cond (nat_le task.due t) (task.run * (1 + (t - task.due) / task.gap)) 0

-- f 0 + f 1 + … + f (n - 1)
unfoldable pub sum_to : ℕ → (ℕ → ℕ) → ℕ
sum_to zero f = 0
sum_to (suc n) f = sum_to n f + f n

unfoldable pub need : List Task → ℕ → ℕ
need tasks t = sum_to (length tasks) (λ row. demand (task_at tasks row) t)

unfoldable pub load : List Task → ℕ → ℕ
load tasks h = sum_to (length tasks) (λ row. (task_at tasks row).run * (h / (task_at tasks row).gap))

-- l is the load over h
abbrev pub Loads : List Task → ℕ → ℕ → Type 0
Loads tasks h l = l ≡ load tasks h

abbrev pub Accepted : List Task → Type 0
Accepted tasks = (t : ℕ) → 1 ≤ t → need tasks t ≤ t

pub record IsSleep (tasks : List Task) (row sleep : ℕ) : Type 0 where
  pub always : (t : ℕ) → (task_at tasks row).due ≤ t → sleep + need tasks t ≤ t
  pub met : (t : ℕ) × ((task_at tasks row).due ≤ t) × (sleep + need tasks t ≡ t)
