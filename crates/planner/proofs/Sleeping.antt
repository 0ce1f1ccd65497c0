-- The sleeps so far, from leg to leg. A row's sleep is the smallest margin from its due on; a leg begins at the due or after
-- it, so its smallest margin is joined to the sleep by taking the lesser. The windows up to one period decide for all:
-- a longer one has the margin of the period and, besides, one of a shorter window, which is not negative.
use Rattle.std.proofs.Common.{◌≡◌, ℕ, ◌+◌, ◌-◌, ◌<◌, ◌≤◌, min, ◌⊎◌, List, length, get_or, sym, ap, ◌∙◌, subst, inl, inr, arith}
use native.Mathlib.Nat.{le_of_dvd}
use Rattle.std.proofs.lemmas.Bool.{cases_lt, cases_eq}
use Rattle.table.specs.declared.task.Task.{Task}
use Rattle.table.specs.Tasks.{task_at, AllWhole, Common}
use Rattle.planner.specs.Demand.{need, load, Accepted}
use Rattle.planner.specs.Margins.{LeastMargin}
use Rattle.planner.specs.Sleeps.{Rested, Tight, Lowered}
use Rattle.planner.specs.Standing.{horizon}
use Rattle.planner.proofs.Legs.{unseen}
use Rattle.planner.proofs.Repeats.{need_repeats, one_period_decides}

-- what is known of the windows shorter than `from`
pub record Sleeping (tasks : List Task) (sleeps : List ℕ) (from : ℕ) : Type 0 where
  pub start : 1 ≤ from
  pub passed : (t : ℕ) → 1 ≤ t → t < from → need tasks t ≤ t
  pub kept : (i : ℕ) → i < length tasks → (task_at tasks i).due < from → LeastMargin tasks (task_at tasks i).due from (get_or sleeps i 0)
  pub fresh : (i : ℕ) → i < length tasks → from ≤ (task_at tasks i).due → get_or sleeps i 0 ≡ unseen

pub sleeping_none : (tasks : List Task) (sleeps : List ℕ) → AllWhole tasks → ((i : ℕ) → i < length tasks → get_or sleeps i 0 ≡ unseen) → Sleeping tasks sleeps 1
sleeping_none tasks sleeps whole all =
    record { start = omega arith; passed = λ t a b. absurd (omega arith); kept = λ i l h. absurd (omega (arith, whole i l)); fresh = λ i l h. all i l }

-- two stretches, one after the other
pub joined : (tasks : List Task) (from mid until s least low : ℕ) → from ≤ mid → mid ≤ until → LeastMargin tasks from mid s → LeastMargin tasks mid until least
    → low ≡ min s least → LeastMargin tasks from until low
joined tasks from mid until s least low f u a b e =
    record { below = λ t l h. under t l h (cases_lt t mid); met = at (cases_lt s least) }
  where
    under : (t : ℕ) → from ≤ t → t < until → (t < mid) ⊎ (mid ≤ t) → low + need tasks t ≤ t
    under t l h (inl k) = omega (arith, a.below t l k)
    under t l h (inr k) = omega (arith, b.below t k h)

    at : (s < least) ⊎ (least ≤ s) → (t : ℕ) × (from ≤ t) × (t < until) × (low + need tasks t ≡ t)
    at (inl k) = let m = a.met in (m.0, m.1, omega (arith, m.2), omega (arith, m.3))
    at (inr k) = let m = b.met in (m.0, omega (arith, m.1), m.2, omega (arith, m.3))

pub sleeping_more : (tasks : List Task) (before after : List ℕ) (from until least : ℕ) → Sleeping tasks before from → from < until → until ≤ horizon
    → LeastMargin tasks from until least
    → ((i : ℕ) → i < length tasks → from < (task_at tasks i).due → until ≤ (task_at tasks i).due)
    → Lowered tasks from least before after → Sleeping tasks after until
sleeping_more tasks before after from until least s u b leg next low =
    record {
      start = omega (arith, s.start);
      passed = λ t a h. past t a h (cases_lt t from);
      kept = λ i l h. row i l h (cases_lt from (task_at tasks i).due) (cases_eq (task_at tasks i).due from);
      fresh = λ i l h. (low i l).1 (omega arith) ∙ s.fresh i l (omega arith);
    }
  where
    small : least ≤ horizon
    small = omega (arith, leg.met.2, leg.met.3)

    past : (t : ℕ) → 1 ≤ t → t < until → (t < from) ⊎ (from ≤ t) → need tasks t ≤ t
    past t a h (inl k) = s.passed t a k
    past t a h (inr k) = omega (arith, leg.below t k h)

    row : (i : ℕ) → i < length tasks → (task_at tasks i).due < until → (from < (task_at tasks i).due) ⊎ ((task_at tasks i).due ≤ from)
        → ((task_at tasks i).due ≡ from) ⊎ ((task_at tasks i).due ≡ from → ⊥) → LeastMargin tasks (task_at tasks i).due until (get_or after i 0)
    row i l h (inl k) _ = absurd (omega (arith, next i l k))
    row i l h (inr k) (inl e) =
        let same : least ≡ get_or after i 0 = omega (arith, small, (low i l).0 k, s.fresh i l (omega arith)) in
        subst (LeastMargin tasks (task_at tasks i).due until) same (subst (λ f. LeastMargin tasks f until least) (sym e) leg)
    row i l h (inr k) (inr e) =
        joined tasks (task_at tasks i).due from until (get_or before i 0) least (get_or after i 0) k (omega arith) (s.kept i l (omega (arith, e))) leg ((low i l).0 k)

-- a row's due is no longer than the period
due_within : (tasks : List Task) (h : ℕ) → AllWhole tasks → Common tasks h → 1 ≤ h → (i : ℕ) → i < length tasks → (task_at tasks i).due ≤ h
due_within tasks h whole common some i l = omega (arith, whole i l, le_of_dvd some (common i l))

-- a sleep that the window of one period has room for has room in every longer one
past_the_period : (tasks : List Task) (h sleep : ℕ) → AllWhole tasks → Common tasks h → load tasks h ≤ h → 1 ≤ h → Accepted tasks → sleep + need tasks h ≤ h
    → (t : ℕ) → h ≤ t → sleep + need tasks t ≤ t
past_the_period tasks h sleep whole common small some ok room =
    one_period_decides tasks h whole common small sleep h (λ x a b. within x a (cases_eq (x - h) 0)) some
  where
    within : (x : ℕ) → h ≤ x → (x - h ≡ 0) ⊎ (x - h ≡ 0 → ⊥) → sleep + need tasks x ≤ x
    within x a (inl e) = let same : x ≡ h = omega arith in omega (arith, ap (need tasks) same, room)
    within x a (inr n) =
        let parts : x ≡ (x - h) + h = omega arith in
        let whole_period : need tasks h ≡ need tasks 0 + load tasks h = ap (need tasks) (omega arith) ∙ need_repeats tasks h whole common 0 in
        omega (arith, ap (need tasks) parts, need_repeats tasks h whole common (x - h), ok (x - h) (omega (arith, n)), whole_period, room)

module _ (tasks : List Task) (sleeps : List ℕ) (h end : ℕ) (whole : AllWhole tasks) (common : Common tasks h) (small : load tasks h ≤ h) (some : 1 ≤ h)
    (e : h + 1 ≡ end) (s : Sleeping tasks sleeps end) where
  -- the smallest margin from the row's due up to the period
  found : (i : ℕ) → i < length tasks → LeastMargin tasks (task_at tasks i).due end (get_or sleeps i 0)
  found i l = s.kept i l (omega (arith, due_within tasks h whole common some i l))

  pub all_pass : Accepted tasks
  all_pass t l = omega (arith, one_period_decides tasks h whole common small 0 1 (λ x a b. omega (arith, s.passed x a (omega arith))) some t l)

  pub all_rest : Rested tasks sleeps
  all_rest i t l d = row (cases_lt t end)
    where
      at_period : get_or sleeps i 0 + need tasks h ≤ h
      at_period = (found i l).below h (due_within tasks h whole common some i l) (omega arith)

      row : (t < end) ⊎ (end ≤ t) → get_or sleeps i 0 + need tasks t ≤ t
      row (inl k) = (found i l).below t d k
      row (inr k) = past_the_period tasks h (get_or sleeps i 0) whole common small some all_pass at_period t (omega arith)

  pub all_tight : Tight tasks h sleeps
  all_tight i l =
      let m = (found i l).met in
      ∣ (m.0, m.1, omega (arith, m.2, whole i l), m.3) ∣₁
