-- How a walk goes on. A row's point, once taken, waits again a gap on, with one run more behind it; from one point to the
-- next the need stays. That the points hold each row once is told by sums: a sum over the points is one over the rows.
use Rattle.std.proofs.Common.{◌≡◌, ℕ, ◌+◌, ◌-◌, ◌*◌, ◌/◌, ◌<◌, ◌≤◌, ◌⊎◌, List, [], ◌∷◌, length, get_or, take, sum_by, sym, refl, ap, ◌∙◌, subst, inl, inr, mul-one, add-one, arith}
use native.Mathlib.Nat.{mod_self, div_self, div-eq_of_lt}
use Rattle.std.proofs.lemmas.Bool.{cases_eq}
use Rattle.std.specs.List.Sorted.{IsPermutation}
use Rattle.std.specs.List.{AllByRecursion}
use Rattle.std.proofs.ByRecursion.{All-weaker, All-get_or, sum_by_le, all_shuffled}
use Rattle.std.proofs.lemmas.List.{length-take-le, get_or-take, get_or_default}
use Rattle.std.proofs.lemmas.List.Sums.{sum_by-cons}
use Rattle.std.proofs.lemmas.List.Sorted.{sum_by-IsPermutation}
use Rattle.table.specs.declared.task.Task.{Task}
use Rattle.planner.specs.declared.point.Point.{Point}
use Rattle.planner.specs.Points.{sooner}
use Rattle.table.specs.Tasks.{task_at, Whole, AllWhole, Bounded}
use Rattle.planner.specs.Demand.{demand, sum_to, need}
use Rattle.planner.specs.Standing.{Waits, Standing, Stands}
use Rattle.queue.specs.Queue.{First, Replaced}
use Rattle.planner.proofs.Demand.{demand_none, demand_some, demand_mono, demand_le}
use Rattle.planner.proofs.Repeats.{demand_repeats}

-- one gap on, one run more
gap_on : (r : Task) (t : ℕ) → Whole r → demand r (t + r.gap) ≡ demand r t + r.run
gap_on r t w =
    let p : 0 < r.gap = omega arith in
    let q : r.run * (r.gap / r.gap) ≡ r.run = ap (λ n. r.run * n) (div_self p) ∙ mul-one r.run in
    omega (arith, demand_repeats r r.gap t w (mod_self r.gap), q)

-- a point that is taken waits again a gap on
pub waits_again : (tasks : List Task) (p : Point) → AllWhole tasks → Waits tasks p.time p
    → Waits tasks p.time (record { time = p.time + (task_at tasks p.row).gap; row = p.row })
waits_again tasks p whole w =
    let r = task_at tasks p.row in
    let t = p.time in
    let g = r.gap in
    let ok : Whole r = whole p.row w.inside in
    let e : t + g - 1 ≡ (t - 1) + g = omega (arith, w.some) in
    let back : demand r (t + g - 1) ≡ demand r t = ap (demand r) e ∙ omega (arith, gap_on r (t - 1) ok, w.jump) in
    record {
      inside = w.inside;
      some = omega (arith, w.some);
      ahead = omega arith;
      near = omega arith;
      steady = λ x a b. omega (arith, back, demand_mono r t x ok a, demand_mono r x (t + g - 1) ok (omega arith));
      jump = omega (arith, back, gap_on r t ok);
    }

pub waits_later : (tasks : List Task) (now later : ℕ) (p : Point) → now ≤ later → Waits tasks now p → later ≤ p.time → Waits tasks later p
waits_later tasks now later p l w h =
    record {
      inside = w.inside;
      some = w.some;
      ahead = h;
      near = omega (arith, w.near);
      steady = λ x a b. w.steady x (omega arith) b;
      jump = w.jump;
    }

all_both : {X : Type 0} (P Q R : X → Type 0) → ((x : X) → P x → Q x → R x) → (xs : List X) → AllByRecursion P xs → AllByRecursion Q xs → AllByRecursion R xs
all_both P Q R f [] a b = tt
all_both P Q R f (x ∷ xs) a b = (f x a.0 b.0, all_both P Q R f xs a.1 b.1)

sum_by_same : {X : Type 0} (f g : X → ℕ) (xs : List X) → AllByRecursion (λ x. f x ≡ g x) xs → sum_by f xs ≡ sum_by g xs
sum_by_same f g [] h = refl
sum_by_same f g (x ∷ xs) h = omega (arith, sum_by-cons f x xs, sum_by-cons g x xs, sum_by_same f g xs h.1, h.0)

-- with no point before `later`, the walk stands there too
pub stands_later : (tasks : List Task) (ps : List Point) (now later total : ℕ) → now ≤ later → Standing tasks ps now total
    → AllByRecursion (λ p. later ≤ p.time) ps → Standing tasks ps later total
stands_later tasks ps now later total l s h =
    record {
      once = s.once;
      waits = all_both (Waits tasks now) (λ p. later ≤ p.time) (Waits tasks later) (λ p w k. waits_later tasks now later p l w k) ps s.waits h;
      asked = s.asked;
    }

-- up to the first point the need is what was asked for
pub need_before : (tasks : List Task) (ps : List Point) (now total x : ℕ) → Standing tasks ps now total → now ≤ x
    → AllByRecursion (λ p. x < p.time) ps → need tasks x ≡ total
unfolding need
need_before tasks ps now total x s l h =
    sym (s.once (λ i. demand (task_at tasks i) x))
    ∙ sum_by_same (λ p. demand (task_at tasks p.row) x) (λ p. demand (task_at tasks p.row) (p.time - 1)) ps
    (all_both (Waits tasks now) (λ p. x < p.time) (λ p. demand (task_at tasks p.row) x ≡ demand (task_at tasks p.row) (p.time - 1)) (λ p w k. w.steady x l k) ps s.waits h)
    ∙ sym s.asked

-- a sum over the points, as one goes and its next comes
moved : (f : Point → ℕ) (ps qs : List Point) (p q : Point) → IsPermutation (q ∷ ps) (p ∷ qs) → sum_by f qs + f p ≡ sum_by f ps + f q
moved f ps qs p q s = omega (arith, sum_by-IsPermutation f (q ∷ ps) (p ∷ qs) s, sum_by-cons f q ps, sum_by-cons f p qs)

pub stands_on : (tasks : List Task) (ps qs : List Point) (p : Point) (total : ℕ) → AllWhole tasks → Standing tasks ps p.time total
    → Waits tasks p.time p
    → IsPermutation (record { time = p.time + (task_at tasks p.row).gap; row = p.row } ∷ ps) (p ∷ qs)
    → Standing tasks qs p.time (total + (task_at tasks p.row).run)
stands_on tasks ps qs p total whole s w sh =
    let q : Point = record { time = p.time + (task_at tasks p.row).gap; row = p.row } in
    let again : Waits tasks p.time q = waits_again tasks p whole w in
    let f : Point → ℕ = λ y. demand (task_at tasks y.row) (y.time - 1) in
    record {
      once = λ g. let m = moved (λ y. g y.row) ps qs p q sh in omega (arith, m, s.once g);
      waits = (all_shuffled (Waits tasks p.time) (q ∷ ps) (p ∷ qs) sh (again, s.waits)).1;
      asked = omega (arith, moved f ps qs p q sh, s.asked, again.steady p.time (omega arith) (omega (arith, whole p.row w.inside)), w.jump);
    }

-- how many points are at t, of those from t on
pub fewer : (tasks : List Task) (ps qs : List Point) (p : Point) → AllWhole tasks → Waits tasks p.time p
    → IsPermutation (record { time = p.time + (task_at tasks p.row).gap; row = p.row } ∷ ps) (p ∷ qs)
    → sum_by (λ y. p.time + 1 - y.time) qs < sum_by (λ y. p.time + 1 - y.time) ps
fewer tasks ps qs p whole w sh =
    let q : Point = record { time = p.time + (task_at tasks p.row).gap; row = p.row } in
    omega (arith, moved (λ y. p.time + 1 - y.time) ps qs p q sh, whole p.row w.inside)

-- what was asked for is small, as a row alone asks for no more than the time that passes
pub asked_small : (tasks : List Task) (ps : List Point) (now total : ℕ) → AllWhole tasks → Bounded tasks → Standing tasks ps now total
    → total ≤ length ps * (now + 100000)
asked_small tasks ps now total whole small s =
    omega (
      arith,
      s.asked,
      sum_by_le (λ p. demand (task_at tasks p.row) (p.time - 1)) (now + 100000) ps
          (All-weaker (Waits tasks now) (λ p. demand (task_at tasks p.row) (p.time - 1) ≤ now + 100000)
          (λ p w. omega (arith, demand_le (task_at tasks p.row) (p.time - 1) (whole p.row w.inside), w.near, small p.row w.inside)) ps s.waits),
    )

pub first_waits : (tasks : List Task) (slots : List Point) (at total : ℕ) (p : Point) → 1 ≤ length tasks → Stands tasks slots at total
    → p ≡ get_or slots 0 p → Waits tasks at p
first_waits tasks slots at total p i s v =
    let n : ℕ = length tasks in
    subst (Waits tasks at) (get_or-take n slots 0 p i ∙ sym v)
    (All-get_or (Waits tasks at) (take n slots) 0 p (omega (arith, length-take-le n slots s.queue.0)) s.standing.waits)

pub all_later : (t u : ℕ) (ps : List Point) → t ≤ u → AllByRecursion (λ (p : Point). u ≤ p.time) ps → AllByRecursion (λ (p : Point). t ≤ p.time) ps
all_later t u ps l h = All-weaker (λ (p : Point). u ≤ p.time) (λ (p : Point). t ≤ p.time) (λ p k. omega arith) ps h

-- the first point's place is taken by its row's next
pub record Taken (tasks : List Task) (slots after : List Point) (at total : ℕ) (p : Point) : Type 0 where
  pub stands : Stands tasks after at (total + (task_at tasks p.row).run)
  pub less : sum_by (λ y. at + 1 - y.time) (take (length tasks) after) < sum_by (λ y. at + 1 - y.time) (take (length tasks) slots)

pub taken : (tasks : List Task) (slots after : List Point) (at total : ℕ) (p r : Point) → 1 ≤ length tasks → AllWhole tasks
    → Stands tasks slots at total → p ≡ get_or slots 0 p → p.time ≡ at
    → First sooner r slots (length tasks) × Replaced sooner (record { time = at + (task_at tasks p.row).gap; row = p.row }) r slots (length tasks) after
    → Taken tasks slots after at total p
taken tasks slots after at total p r i whole s v e told =
    subst (λ t. Stands tasks slots t total → IsPermutation (record { time = t + (task_at tasks p.row).gap; row = p.row } ∷ take n slots) (r ∷ take n after) → Taken tasks slots after t total p)
    e here s told.1.held
  where
    n : ℕ
    n = length tasks

    same : r ≡ p
    same = told.0.value ∙ get_or_default slots 0 r p (omega (arith, s.queue.0)) ∙ sym v

    here : Stands tasks slots p.time total → IsPermutation (record { time = p.time + (task_at tasks p.row).gap; row = p.row } ∷ take n slots) (r ∷ take n after)
        → Taken tasks slots after p.time total p
    here s sh =
        let w : Waits tasks p.time p = first_waits tasks slots p.time total p i s v in
        let sh₂ : IsPermutation (record { time = p.time + (task_at tasks p.row).gap; row = p.row } ∷ take n slots) (p ∷ take n after) =
        subst (λ (z : Point). IsPermutation (record { time = p.time + (task_at tasks p.row).gap; row = p.row } ∷ take n slots) (z ∷ take n after)) same sh in
        record {
          stands = record {
            queue = told.1.queue s.queue;
            standing = stands_on tasks (take n slots) (take n after) p total whole s.standing w sh₂;
          };
          less = fewer tasks (take n slots) (take n after) p whole w sh₂;
        }

pub stands_from : (tasks : List Task) (slots : List Point) (now next later total : ℕ) → Stands tasks slots now total
    → AllByRecursion (λ (p : Point). next ≤ p.time) (take (length tasks) slots) → now ≤ later → later ≤ next → Stands tasks slots later total
stands_from tasks slots now next later total s h a b =
    let n : ℕ = length tasks in
    record { queue = s.queue; standing = stands_later tasks (take n slots) now later total a s.standing (all_later later next (take n slots) b h) }

pub need_from : (tasks : List Task) (slots : List Point) (at next total : ℕ) → Stands tasks slots (at + 1) total → need tasks at ≡ total
    → AllByRecursion (λ (p : Point). next ≤ p.time) (take (length tasks) slots) → (t : ℕ) → at ≤ t → t < next → need tasks t ≡ total
need_from tasks slots at next total s e h t a b = go (cases_eq t at)
  where
    go : (t ≡ at) ⊎ (t ≡ at → ⊥) → need tasks t ≡ total
    go (inl q) = ap (need tasks) q ∙ e
    go (inr q) = need_before tasks (take (length tasks) slots) (at + 1) total t s.standing (omega arith) (All-weaker (λ (p : Point). next ≤ p.time) (λ (p : Point). t < p.time) (λ p k. omega arith) (take (length tasks) slots) h)

-- the first k tasks are in, each at its due tick
pub record Partly (tasks : List Task) (points : List Point) (k : ℕ) : Type 0 where
  pub once : (f : ℕ → ℕ) → sum_by (λ (p : Point). f p.row) points ≡ sum_to k f
  pub waits : AllByRecursion (Waits tasks 1) points
  pub asked : 0 ≡ sum_by (λ (p : Point). demand (task_at tasks p.row) (p.time - 1)) points

pub partly_none : (tasks : List Task) → Partly tasks [] 0
unfolding sum_to
partly_none tasks = record { once = λ f. refl; waits = tt; asked = refl }

first_wait : (tasks : List Task) (p : Point) → AllWhole tasks → p.row < length tasks → p.time ≡ (task_at tasks p.row).due → Waits tasks 1 p
first_wait tasks p whole i e =
    let r = task_at tasks p.row in
    let w : Whole r = whole p.row i in
    let none : demand r (p.time - 1) ≡ 0 = demand_none r (p.time - 1) (omega arith) in
    let zero' : (p.time - r.due) / r.gap ≡ 0 = div-eq_of_lt (omega arith) in
    record {
      inside = i;
      some = omega arith;
      ahead = omega arith;
      near = omega arith;
      steady = λ x a b. demand_none r x (omega arith) ∙ sym none;
      jump = omega (arith, demand_some r p.time (omega arith), ap (λ n. r.run * (1 + n)) zero', none);
    }

pub partly_more : (tasks : List Task) (ps qs : List Point) (p : Point) → AllWhole tasks → Partly tasks ps p.row → p.row < length tasks
    → p.time ≡ (task_at tasks p.row).due → IsPermutation (p ∷ ps) qs → Partly tasks qs (p.row + 1)
unfolding sum_to
partly_more tasks ps qs p whole s i e sh =
    let w : Waits tasks 1 p = first_wait tasks p whole i e in
    let none : demand (task_at tasks p.row) (p.time - 1) ≡ 0 = demand_none (task_at tasks p.row) (p.time - 1) (omega (arith, w.some)) in
    let f : Point → ℕ = λ y. demand (task_at tasks y.row) (y.time - 1) in
    record {
      once = λ g. let h : Point → ℕ = λ y. g y.row in
          rw add-one (omega (arith, sum_by-IsPermutation h (p ∷ ps) qs sh, sum_by-cons h p ps, s.once g));
      waits = all_shuffled (Waits tasks 1) (p ∷ ps) qs sh (w, s.waits);
      asked = omega (arith, sum_by-IsPermutation f (p ∷ ps) qs sh, sum_by-cons f p ps, s.asked, none);
    }
