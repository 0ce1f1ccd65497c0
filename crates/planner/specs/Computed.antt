-- The answer to a table of these tasks, as a computation by the rules. Assumes nothing.
--   first_failure tasks limit  the shortest window of 1 to limit ticks that demands more than it has
--   least_margin tasks from n  the smallest margin of the windows of from to from + n ticks
--   sleep_list tasks h         each row's smallest margin, of the windows of one period from its due on
--   shortest_of sleeps         the smallest number of a list, none of no numbers
--   computed tasks h           the load is asked first, then the windows of one period; h is the common period
-- A margin is computed as a difference, which stops at 0; the sleeps are asked for only where no margin lies below it.
use Rattle.std.specs.Prelude.{ℕ, zero, suc, ◌+◌, ◌-◌, min, cond, List, [], ◌∷◌, map, Some, None, Ok, Err, Option, Result, nat_lt}
use Rattle.refusal.specs.declared.cases.Refusal.{Refusal}
use Rattle.refusal.specs.declared.cases.Refusal.TheVariants.{Overload, Overdemand}
use Rattle.table.specs.declared.task.Task.{Task}
use Rattle.planner.specs.Demand.{need, load}

-- the first where it is there, else the second
abbrev pub or_else : Option ℕ → Option ℕ → Option ℕ
or_else None other = other
or_else (Some t) other = Some t

-- the lesser of a number and one that may be there
abbrev pub lesser : ℕ → Option ℕ → ℕ
lesser s None = s
lesser s (Some t) = min s t

unfoldable pub first_failure : List Task → ℕ → Option ℕ
first_failure tasks zero = None
first_failure tasks (suc n) = or_else (first_failure tasks n) (cond (nat_lt (suc n) (need tasks (suc n))) (Some (suc n)) None)

unfoldable pub least_margin : List Task → ℕ → ℕ → ℕ
least_margin tasks from zero = from - need tasks from
least_margin tasks from (suc n) = min (least_margin tasks from n) (from + suc n - need tasks (from + suc n))

unfoldable pub sleep_list : List Task → ℕ → List ℕ
sleep_list tasks h = map (λ (task : Task). least_margin tasks task.due (h - 1)) tasks

unfoldable pub shortest_of : List ℕ → Option ℕ
shortest_of [] = None
shortest_of (s ∷ rest) = Some (lesser s (shortest_of rest))

abbrev pub by_window : List Task → ℕ → Option ℕ → Result (List ℕ) Refusal
by_window tasks h None = Ok (sleep_list tasks h)
by_window tasks h (Some t) = Err (Overdemand t)

unfoldable pub computed : List Task → ℕ → Result (List ℕ) Refusal
computed tasks h = cond (nat_lt h (load tasks h)) (Err (Overload (load tasks h))) (by_window tasks h (first_failure tasks h))
