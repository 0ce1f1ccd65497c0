-- What is open and due by a tick d (the backlog), and what can still be released and fall due by d (the future). A
-- release moves a claim from the future into the backlog, a served tick lowers the backlog by at most one, and the clock
-- only lowers the future, which is at most the need of the window up to d.
use Rattle.std.proofs.Common.{◌≡◌, ℕ, ◌+◌, ◌-◌, ◌<◌, ◌≤◌, max, cond, leb, ◌≢◌, ◌⊎◌, List, length, ap, inl, inr, arith}
use Rattle.std.proofs.lemmas.Bool.{cases_lt, cond-true, cond-false, le-leb, lt-leb}
use Rattle.table.specs.declared.task.Task.{Task}
use Rattle.table.specs.Tasks.{task_at, Whole, AllWhole}
use Rattle.planner.specs.Demand.{demand, need, sum_to}
use Rattle.planner.proofs.Sums.{sum_to_same, sum_to_none}
use Rattle.rules.proofs.Sums.{sum_to_le, sum_to_at, sum_to_change}
use Rattle.planner.proofs.Demand.{demand_none, demand_mono}
use Rattle.rules.proofs.Demand.{demand_release}

-- of one row: the earliest tick of its next release, its job's due tick, and the ticks that its job still lacks, 0 where none is open
pub record Cell : Type 0 where
  pub next : ℕ
  pub until : ℕ
  pub left : ℕ

abbrev pub begun : Task → ℕ → Cell
begun r now = record { next = now + r.gap; until = now + r.due; left = r.run }

unfoldable pub pending : ℕ → Cell → ℕ
pending d c = cond (leb c.until d) c.left 0

unfoldable pub later : Task → ℕ → ℕ → Cell → ℕ
later r now d c = demand r (d - max now c.next)

unfoldable pub backlog : List Task → (ℕ → Cell) → ℕ → ℕ
backlog tasks cells d = sum_to (length tasks) (λ i. pending d (cells i))

unfoldable pub future : List Task → ℕ → (ℕ → Cell) → ℕ → ℕ
future tasks now cells d = sum_to (length tasks) (λ i. later (task_at tasks i) now d (cells i))

pub pending_due : (d : ℕ) (c : Cell) → c.until ≤ d → pending d c ≡ c.left
unfolding pending
pending_due d c h = cond-true (leb c.until d) c.left 0 (le-leb c.until d h)

pub pending_not : (d : ℕ) (c : Cell) → d < c.until → pending d c ≡ 0
unfolding pending
pending_not d c h = cond-false (leb c.until d) c.left 0 (lt-leb c.until d h)

pub pending_le : (d : ℕ) (c : Cell) → pending d c ≤ c.left
pending_le d c = go (cases_lt d c.until)
  where
    go : (d < c.until) ⊎ (c.until ≤ d) → pending d c ≤ c.left
    go (inl h) = omega (arith, pending_not d c h)
    go (inr h) = omega (arith, pending_due d c h)

-- a served tick pays for at most one
pub pays_one : (d : ℕ) (c e : Cell) → e.until ≡ c.until → c.left ≤ e.left + 1 → pending d c ≤ pending d e + 1
pays_one d c e u h = go (cases_lt d c.until)
  where
    go : (d < c.until) ⊎ (c.until ≤ d) → pending d c ≤ pending d e + 1
    go (inl k) = omega (arith, pending_not d c k)
    go (inr k) = omega (arith, pending_due d c k, pending_due d e (omega arith))

later_mono : (r : Task) (now now' d : ℕ) (c : Cell) → Whole r → now ≤ now' → later r now' d c ≤ later r now d c
unfolding later
later_mono r now now' d c w h = demand_mono r (d - max now' c.next) (d - max now c.next) w (omega arith)

later_need : (r : Task) (now d : ℕ) (c : Cell) → Whole r → later r now d c ≤ demand r (d - now)
unfolding later
later_need r now d c w = demand_mono r (d - max now c.next) (d - now) w (omega arith)

pub later_next : (r : Task) (now d : ℕ) (c e : Cell) → e.next ≡ c.next → later r now d e ≡ later r now d c
unfolding later
later_next r now d c e q = ap (λ n. demand r (d - max now n)) q

-- a release moves one run from what is later to what is pending
pub begun_claim : (r : Task) (now d : ℕ) (c : Cell) → Whole r → c.next ≤ now
    → pending d (begun r now) + later r now d (begun r now) ≡ later r now d c
unfolding later
begun_claim r now d c w h = go (cases_lt d (now + r.due))
  where
    here : d - max now c.next ≡ d - now
    here = omega arith

    there : d - max now (now + r.gap) ≡ d - now - r.gap
    there = omega arith

    a : demand r (d - max now c.next) ≡ demand r (d - now)
    a = ap (demand r) here

    b : demand r (d - max now (now + r.gap)) ≡ demand r (d - now - r.gap)
    b = ap (demand r) there

    go : (d < now + r.due) ⊎ (now + r.due ≤ d)
        → pending d (begun r now) + demand r (d - max now (now + r.gap)) ≡ demand r (d - max now c.next)
    go (inl k) =
        omega (
          arith,
          a,
          b,
          pending_not d (begun r now) k,
          demand_release r (d - now) w,
          cond-false (leb r.due (d - now)) r.run 0 (lt-leb r.due (d - now) (omega (arith, w.0, w.1))),
        )
    go (inr k) =
        omega (
          arith,
          a,
          b,
          pending_due d (begun r now) k,
          demand_release r (d - now) w,
          cond-true (leb r.due (d - now)) r.run 0 (le-leb r.due (d - now) (omega arith)),
        )

-- the cells are alike but at i
abbrev pub Alike : List Task → ℕ → (ℕ → Cell) → (ℕ → Cell) → Type 0
Alike tasks i old new = (j : ℕ) → j < length tasks → j ≢ i → new j ≡ old j

pub backlog_at : (tasks : List Task) (cells : ℕ → Cell) (d i : ℕ) → i < length tasks → pending d (cells i) ≤ backlog tasks cells d
unfolding backlog
backlog_at tasks cells d i l = sum_to_at (length tasks) (λ j. pending d (cells j)) i l

pub backlog_zero : (tasks : List Task) (cells : ℕ → Cell) (d : ℕ) → ((j : ℕ) → j < length tasks → pending d (cells j) ≡ 0) → backlog tasks cells d ≡ 0
unfolding backlog
backlog_zero tasks cells d h = sum_to_none (length tasks) (λ i. pending d (cells i)) h

pub backlog_none : (tasks : List Task) (cells : ℕ → Cell) (d : ℕ) → ((j : ℕ) → j < length tasks → (cells j).left ≡ 0) → backlog tasks cells d ≡ 0
backlog_none tasks cells d h = backlog_zero tasks cells d (λ i l. omega (arith, pending_le d (cells i), h i l))

pub backlog_change : (tasks : List Task) (old new : ℕ → Cell) (i d : ℕ) → i < length tasks → Alike tasks i old new
    → backlog tasks new d + pending d (old i) ≡ backlog tasks old d + pending d (new i)
unfolding backlog
backlog_change tasks old new i d l h =
    sum_to_change (length tasks) (λ j. pending d (old j)) (λ j. pending d (new j)) i l (λ j k ne. ap (pending d) (h j k ne))

pub future_change : (tasks : List Task) (old new : ℕ → Cell) (i now d : ℕ) → i < length tasks → Alike tasks i old new
    → future tasks now new d + later (task_at tasks i) now d (old i) ≡ future tasks now old d + later (task_at tasks i) now d (new i)
unfolding future
future_change tasks old new i now d l h =
    sum_to_change (length tasks) (λ j. later (task_at tasks j) now d (old j)) (λ j. later (task_at tasks j) now d (new j)) i l
    (λ j k ne. ap (later (task_at tasks j) now d) (h j k ne))

pub future_need : (tasks : List Task) (now : ℕ) (cells : ℕ → Cell) (d : ℕ) → AllWhole tasks → future tasks now cells d ≤ need tasks (d - now)
unfolding future need
future_need tasks now cells d ok =
    sum_to_le (length tasks) (λ i. later (task_at tasks i) now d (cells i)) (λ i. demand (task_at tasks i) (d - now))
    (λ i l. later_need (task_at tasks i) now d (cells i) (ok i l))

pub future_falls : (tasks : List Task) (now : ℕ) (cells : ℕ → Cell) (d : ℕ) → AllWhole tasks → future tasks (now + 1) cells d ≤ future tasks now cells d
unfolding future
future_falls tasks now cells d ok =
    sum_to_le (length tasks) (λ i. later (task_at tasks i) (now + 1) d (cells i)) (λ i. later (task_at tasks i) now d (cells i))
    (λ i l. later_mono (task_at tasks i) now (now + 1) d (cells i) (ok i l) (omega arith))

-- where no row may be released yet, the clock changes nothing
pub future_stays : (tasks : List Task) (now : ℕ) (cells : ℕ → Cell) (d : ℕ) → ((i : ℕ) → i < length tasks → now < (cells i).next)
    → future tasks (now + 1) cells d ≡ future tasks now cells d
unfolding future later
future_stays tasks now cells d h =
    sum_to_same (length tasks) (λ i. later (task_at tasks i) (now + 1) d (cells i)) (λ i. later (task_at tasks i) now d (cells i))
    (λ i l. let n : now < (cells i).next = h i l in
    let e : d - max (now + 1) (cells i).next ≡ d - max now (cells i).next = omega arith in
    ap (demand (task_at tasks i)) e)

pub future_over : (tasks : List Task) (t : ℕ) (cells : ℕ → Cell) → AllWhole tasks → future tasks t cells t ≡ 0
unfolding future later
future_over tasks t cells ok =
    sum_to_none (length tasks) (λ i. later (task_at tasks i) t t (cells i))
    (λ i l. demand_none (task_at tasks i) (t - max t (cells i).next) (omega (arith, (ok i l).0, (ok i l).1)))

pub future_first : (tasks : List Task) (cells : ℕ → Cell) (d : ℕ) → ((i : ℕ) → i < length tasks → (cells i).next ≡ 0)
    → future tasks 0 cells d ≡ need tasks d
unfolding future later need
future_first tasks cells d h =
    sum_to_same (length tasks) (λ i. later (task_at tasks i) 0 d (cells i)) (λ i. demand (task_at tasks i) d)
    (λ i l. let z : (cells i).next ≡ 0 = h i l in
    let e : d - max 0 (cells i).next ≡ d = omega arith in
    ap (demand (task_at tasks i)) e)

-- the same next releases
pub future_same : (tasks : List Task) (now : ℕ) (old new : ℕ → Cell) (d : ℕ) → ((i : ℕ) → i < length tasks → (new i).next ≡ (old i).next)
    → future tasks now new d ≡ future tasks now old d
unfolding future
future_same tasks now old new d h =
    sum_to_same (length tasks) (λ i. later (task_at tasks i) now d (new i)) (λ i. later (task_at tasks i) now d (old i))
    (λ i l. later_next (task_at tasks i) now d (old i) (new i) (h i l))
