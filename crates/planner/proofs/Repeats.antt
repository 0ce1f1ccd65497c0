-- The need repeats: a window longer by a common multiple of the gaps needs more by what the tasks run in it. So a bound that
-- holds over one period holds for all windows, as long as the tasks run no more in a period than it has ticks.
use Rattle.std.proofs.Common.{◌≡◌, ℕ, zero, suc, ◌+◌, ◌-◌, ◌*◌, ◌/◌, ◌%◌, ◌<◌, ◌≤◌, ◌⊎◌, List, length, ap, ◌∙◌, inl, inr, mod-lt, mul_comm, mul-le-mul_left, div-add-mod', div-mul-le_self, arith}
use native.Mathlib.Nat.{div-eq_of_lt, add-div_right, add-mul-div_right, mod-eq-zero_of_dvd}
use Rattle.std.proofs.lemmas.Bool.{cases_lt}
use Rattle.table.specs.Tasks.{task_at, Whole, AllWhole, Common}
use Rattle.planner.specs.Demand.{demand, need, load}
use Rattle.table.specs.declared.task.Task.{Task}
use Rattle.planner.proofs.Sums.{sum_to_same, sum_to_add}
use Rattle.planner.proofs.Demand.{demand_none, demand_some}

-- with no case: the window counts as longer by what lies between a due and the next release
pub demand_closed : (r : Task) (x : ℕ) → Whole r → demand r x ≡ r.run * ((x + (r.gap - r.due)) / r.gap)
demand_closed r x w = go (cases_lt x r.due)
  where
    go : (x < r.due) ⊎ (r.due ≤ x) → demand r x ≡ r.run * ((x + (r.gap - r.due)) / r.gap)
    go (inl l) =
        let q : (x + (r.gap - r.due)) / r.gap ≡ 0 = div-eq_of_lt (omega arith) in
        omega (arith, demand_none r x l, ap (λ n. r.run * n) q)
    go (inr l) =
        let s : x + (r.gap - r.due) ≡ (x - r.due) + r.gap = omega arith in
        let q : (x + (r.gap - r.due)) / r.gap ≡ (x - r.due) / r.gap + 1 =
        ap (λ n. n / r.gap) s ∙ add-div_right (x - r.due) (omega arith) in
        omega (arith, demand_some r x l, ap (λ n. r.run * n) q)

pub demand_repeats : (r : Task) (h t : ℕ) → Whole r → h % r.gap ≡ 0 → demand r (t + h) ≡ demand r t + r.run * (h / r.gap)
demand_repeats r h t w e =
    let k : ℕ = h / r.gap in
    let b : ℕ = t + (r.gap - r.due) in
    let m : k * r.gap ≡ h = omega (arith, div-add-mod' h r.gap) in
    let s : t + h + (r.gap - r.due) ≡ b + k * r.gap = omega arith in
    let q : (t + h + (r.gap - r.due)) / r.gap ≡ b / r.gap + k =
    ap (λ n. n / r.gap) s ∙ add-mul-div_right b k (omega arith) in
    omega (arith, demand_closed r (t + h) w, demand_closed r t w, ap (λ n. r.run * n) q)

pub need_repeats : (tasks : List Task) (h : ℕ) → AllWhole tasks → Common tasks h → (t : ℕ) → need tasks (t + h) ≡ need tasks t + load tasks h
unfolding need load
need_repeats tasks h w c t =
    sum_to_same (length tasks) (λ i. demand (task_at tasks i) (t + h)) (λ i. demand (task_at tasks i) t + (task_at tasks i).run * (h / (task_at tasks i).gap))
    (λ i l. demand_repeats (task_at tasks i) h t (w i l) (mod-eq-zero_of_dvd (task_at tasks i).gap (c i l)))
    ∙ sum_to_add (length tasks) (λ i. demand (task_at tasks i) t) (λ i. (task_at tasks i).run * (h / (task_at tasks i).gap))

pub need_repeats_often : (tasks : List Task) (h : ℕ) → AllWhole tasks → Common tasks h → (k t : ℕ)
    → need tasks (t + k * h) ≡ need tasks t + k * load tasks h
need_repeats_often tasks h w c zero t =
    let e : t + 0 * h ≡ t = omega arith in
    omega (arith, ap (need tasks) e)
need_repeats_often tasks h w c (suc k) t =
    let e : t + suc k * h ≡ (t + k * h) + h = omega arith in
    omega (arith, ap (need tasks) e, need_repeats tasks h w c (t + k * h), need_repeats_often tasks h w c k t)

-- from a on, a tick is one of the first period and some whole periods
into_period : (a h t : ℕ) → 1 ≤ h → a ≤ t → t ≡ (a + (t - a) % h) + ((t - a) / h) * h
into_period a h t p l = omega (arith, div-add-mod' (t - a) h)

-- a bound on the need that holds over one period from a on holds from a on
pub one_period_decides : (tasks : List Task) (h : ℕ) → AllWhole tasks → Common tasks h → load tasks h ≤ h
    → (sleep a : ℕ) → ((t : ℕ) → a ≤ t → t < a + h → sleep + need tasks t ≤ t)
    → 1 ≤ h → (t : ℕ) → a ≤ t → sleep + need tasks t ≤ t
one_period_decides tasks h w c small sleep a first p t l =
    let k : ℕ = (t - a) / h in
    let u : ℕ = a + (t - a) % h in
    let e : t ≡ u + k * h = into_period a h t p l in
    let low : (t - a) % h < h = mod-lt (t - a) p in
    let f : sleep + need tasks u ≤ u = first u (omega arith) (omega arith) in
    omega (arith, ap (need tasks) e, need_repeats_often tasks h w c k u, mul-le-mul_left k small)

-- the load of an accepted table is at most the period
pub accepted_loads : (tasks : List Task) (h : ℕ) → AllWhole tasks → Common tasks h
    → ((t : ℕ) → 1 ≤ t → need tasks t ≤ t) → load tasks h ≤ h
accepted_loads tasks h w c ok = go (cases_lt h (load tasks h))
  where
    go : (h < load tasks h) ⊎ (load tasks h ≤ h) → load tasks h ≤ h
    go (inl l) =
        let m : 2 * suc h ≤ 2 * load tasks h = mul-le-mul_left 2 l in
        absurd (omega (arith, m, need_repeats_often tasks h w c 2 1, ok (1 + 2 * h) (omega arith)))
    go (inr l) = l

-- a row's runs in h ticks take no more than h
pub row_load_le : (r : Task) (h : ℕ) → Whole r → r.run * (h / r.gap) ≤ h
row_load_le r h w =
    let q : ℕ = h / r.gap in
    let a : q * r.run ≤ q * r.gap = mul-le-mul_left q (omega arith) in
    omega (arith, div-mul-le_self h r.gap, mul_comm r.run q)
