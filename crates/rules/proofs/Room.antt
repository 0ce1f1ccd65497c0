-- The invariant of the first promise: by each tick d at which something open is due, all that can fall due by d still
-- fits, after what the alarm has left. A release into an empty board fits by the row's sleep; later ones move a claim; an
-- awake tick takes one from every backlog that counts, since it serves the job that is due first.
use Rattle.std.proofs.Common.{◌≡◌, ℕ, suc, ◌+◌, ◌-◌, ◌<◌, ◌≤◌, ◌⊎◌, List, length, ap, inl, inr, arith}
use Rattle.std.proofs.lemmas.Bool.{cases_lt}
use Rattle.table.specs.declared.task.Task.{Task}
use Rattle.table.specs.Tasks.{task_at, AllWhole}
use Rattle.planner.specs.Demand.{need}
use Rattle.rules.proofs.Claims.{Cell, begun, pending, later, backlog, future, pending_due, pending_not, pending_le, later_next, begun_claim, Alike}
use Rattle.rules.proofs.Claims.{backlog_at, backlog_zero, backlog_change, future_change, future_need, future_falls}

-- held: what the alarm has left
abbrev pub Room : List Task → ℕ → (ℕ → Cell) → ℕ → Type 0
Room tasks now cells held = (d : ℕ) → 0 < backlog tasks cells d → backlog tasks cells d + future tasks now cells d + held + now ≤ d

-- an open job is not yet due
pub kept : (tasks : List Task) (now : ℕ) (cells : ℕ → Cell) (held : ℕ) → Room tasks now cells held → (i : ℕ) → i < length tasks
    → 0 < (cells i).left → now < (cells i).until
kept tasks now cells held room i l o =
    let d : ℕ = (cells i).until in
    let p : pending d (cells i) ≡ (cells i).left = pending_due d (cells i) (omega arith) in
    let b : pending d (cells i) ≤ backlog tasks cells d = backlog_at tasks cells d i l in
    omega (arith, room d (omega arith))

module _ (tasks : List Task) (ok : AllWhole tasks) (old new : ℕ → Cell) (i : ℕ) (l : i < length tasks) (alike : Alike tasks i old new) where
  pub release_room : (now held held' sleep : ℕ) → Room tasks now old held → (old i).next ≤ now → (old i).left ≡ 0
      → new i ≡ begun (task_at tasks i) now → held' ≤ sleep
      → ((t : ℕ) → (task_at tasks i).due ≤ t → sleep + need tasks t ≤ t)
      → ((d : ℕ) → backlog tasks old d ≡ 0) ⊎ (held' ≤ held)
      → Room tasks now new held'
  release_room now held held' sleep room free shut e within rested alarm d b = by_old (cases_lt 0 (backlog tasks old d))
    where
      r : Task
      r = task_at tasks i

      none : pending d (old i) ≡ 0
      none = omega (arith, pending_le d (old i))

      same : backlog tasks new d + future tasks now new d ≡ backlog tasks old d + future tasks now old d
      same =
          omega (
            arith,
            none,
            backlog_change tasks old new i d l alike,
            future_change tasks old new i now d l alike,
            begun_claim r now d (old i) (ok i l) free,
            ap (pending d) e,
            ap (later r now d) e,
          )

      by_mode : 0 < backlog tasks old d → ((d : ℕ) → backlog tasks old d ≡ 0) ⊎ (held' ≤ held)
          → backlog tasks new d + future tasks now new d + held' + now ≤ d
      by_mode o (inl z) = absurd (omega (arith, z d))
      by_mode o (inr h) = omega (arith, same, room d o)

      by_due : backlog tasks old d ≤ 0 → (d < now + r.due) ⊎ (now + r.due ≤ d)
          → backlog tasks new d + future tasks now new d + held' + now ≤ d
      by_due z (inl h) =
          absurd (omega (arith, b, z, pending_not d (begun r now) h, ap (pending d) e, none, backlog_change tasks old new i d l alike))
      by_due z (inr h) =
          let t : r.due ≤ d - now = omega arith in
          let fit : sleep + need tasks (d - now) ≤ d - now = rested (d - now) t in
          omega (arith, same, future_need tasks now old d ok, (ok i l).0, (ok i l).1)

      by_old : (0 < backlog tasks old d) ⊎ (backlog tasks old d ≤ 0) → backlog tasks new d + future tasks now new d + held' + now ≤ d
      by_old (inl o) = by_mode o alarm
      by_old (inr z) = by_due z (cases_lt d (now + r.due))

  -- one tick for the job that is due first
  pub serve_room : (now : ℕ) → Room tasks now old 0 → 0 < (old i).left
      → ((j : ℕ) → j < length tasks → 0 < (old j).left → (old i).until ≤ (old j).until)
      → (new i).next ≡ (old i).next → (0 < (new i).left → (new i).until ≡ (old i).until) → (new i).left + 1 ≡ (old i).left
      → Room tasks (now + 1) new 0
  serve_room now room opened first next until left d b = by_due (cases_lt d (old i).until)
    where
      fut : future tasks (now + 1) new d ≤ future tasks now old d
      fut =
          omega (
            arith,
            future_change tasks old new i (now + 1) d l alike,
            later_next (task_at tasks i) (now + 1) d (old i) (new i) next,
            future_falls tasks now old d ok,
          )

      back : backlog tasks new d + pending d (old i) ≡ backlog tasks old d + pending d (new i)
      back = backlog_change tasks old new i d l alike

      none_at : d < (old i).until → (j : ℕ) → j < length tasks → (0 < (old j).left) ⊎ ((old j).left ≤ 0) → pending d (old j) ≡ 0
      none_at h j k (inl o) = pending_not d (old j) (omega (arith, first j k o))
      none_at h j k (inr z) = omega (arith, pending_le d (old j))

      none : d < (old i).until → backlog tasks old d ≡ 0
      none h = backlog_zero tasks old d (λ j k. none_at h j k (cases_lt 0 (old j).left))

      new_not : d < (old i).until → (0 < (new i).left) ⊎ ((new i).left ≤ 0) → pending d (new i) ≡ 0
      new_not h (inl o) = pending_not d (new i) (omega (arith, until o))
      new_not h (inr z) = omega (arith, pending_le d (new i))

      by_due : (d < (old i).until) ⊎ ((old i).until ≤ d) → backlog tasks new d + future tasks (now + 1) new d + 0 + (now + 1) ≤ d
      by_due (inl h) = absurd (omega (arith, b, back, none h, new_not h (cases_lt 0 (new i).left)))
      by_due (inr h) =
          omega (
            arith,
            back,
            fut,
            pending_due d (old i) h,
            pending_le d (new i),
            room d (omega (arith, backlog_at tasks old d i l, pending_due d (old i) h)),
          )

  -- a job closes
  pub close_room : (now held held' : ℕ) → Room tasks now old held → (new i).next ≡ (old i).next → (new i).left ≡ 0 → held' ≤ held → Room tasks now new held'
  close_room now held held' room next left h d b =
      let back : backlog tasks new d + pending d (old i) ≡ backlog tasks old d + pending d (new i) = backlog_change tasks old new i d l alike in
      let none : pending d (new i) ≤ 0 = omega (arith, pending_le d (new i)) in
      omega (
        arith,
        b,
        back,
        none,
        future_change tasks old new i now d l alike,
        later_next (task_at tasks i) now d (old i) (new i) next,
        room d (omega (arith, b, back, none)),
      )

-- a sleeping tick moves one from the alarm to the clock
pub wait_room : (tasks : List Task) → AllWhole tasks → (cells : ℕ → Cell) (now l : ℕ) → Room tasks now cells (suc l) → Room tasks (now + 1) cells l
wait_room tasks ok cells now l room d b = omega (arith, room d b, future_falls tasks now cells d ok)

pub rest_room : (tasks : List Task) (cells : ℕ → Cell) (now held : ℕ) → ((d : ℕ) → backlog tasks cells d ≡ 0) → Room tasks now cells held
rest_room tasks cells now held z d b = absurd (omega (arith, b, z d))
