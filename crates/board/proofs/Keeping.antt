-- The facts that a board keeps of its slots, through a write to one of them and through a tick; and how a part of an event is
-- told of the whole.
use Rattle.std.proofs.Common.{◌≡◌, ℕ, ◌+◌, ◌<◌, ◌≤◌, Bool, true, false, List, length, take, set, replicate, Some, None, MatchBool, Option, sym, ap, ◌∙◌, subst, arith}
use Rattle.std.proofs.lemmas.List.{take-replicate}
use Rattle.rules.specs.declared.slots.Job.{Job}
use Rattle.rules.specs.declared.slots.Slot.{Slot}
use Rattle.table.specs.declared.task.Task.{Task}
use Rattle.table.specs.Tasks.{task_at}
use Rattle.planner.specs.Plans.{planned, sleeps_of}
use Rattle.planner.specs.Sleeps.{sleep_at}
use Rattle.planner.proofs.Plans.{few}
use Rattle.rules.specs.Views.{empty, slot_at, job_at, opened, closed, fed}
use Rattle.rules.specs.Steps.{Idle, Busy, Apart, mode_after}
use Rattle.rules.proofs.Cells.{all_set, none_some, slot_fresh, fed_last}
use Rattle.board.specs.declared.inner.Core.{Core}
use Rattle.board.specs.Cores.{rows, slots_of, Same, Opens, Settled, Gives, Advances, Serves, Dozes, Shuts}
use Rattle.board.specs.Jobs.{Foremost}
use Rattle.board.proofs.Fronts.{Below, front_slot, front_job, front_set, front_idle, front_busy, front_chosen}

-- every last release is past
abbrev pub Past : ℕ → List Slot → Type 0
Past now slots = (row t : ℕ) → (slot_at slots row).last ≡ Some t → t ≤ now

pub past_set : (now : ℕ) (slots : List Slot) (row : ℕ) (s : Slot) → row < length slots → ((t : ℕ) → s.last ≡ Some t → t ≤ now)
    → Past now slots → Past now (set slots row s)
past_set now slots row s l p h = all_set (λ _ x. (t : ℕ) → x.last ≡ Some t → t ≤ now) slots row s l p h

pub below_set : (n : ℕ) (slots : List Slot) (row : ℕ) (s : Slot) → row < length slots → row < n → Below n slots → Below n (set slots row s)
below_set n slots row s l k h = all_set (λ i x. (j : Job) → x.job ≡ Some j → i < n) slots row s l (λ j e. k) h

-- no job is open in the slots of the rows just if none is in the array
pub idle_or_busy_front : (n : ℕ) (slots : List Slot) (idle : Bool) → Below n slots → MatchBool idle (Idle slots) (Busy slots)
    → MatchBool idle (Idle (take n slots)) (Busy (take n slots))
idle_or_busy_front n slots true b h = front_idle n slots b h
idle_or_busy_front n slots false b h = front_busy n slots b h

-- the slots of the rows are those of the same jobs
pub slots_same : (c d : Core) → Same c d → slots_of d ≡ slots_of c
slots_same c d s = let p = s.plan in let j = s.jobs in cc

pub gives_same : (who : Option ℕ) (c m d : Core) → Gives who c m → Same m d → Gives who c d
gives_same None c m d g s = record { idle = g.idle; ran = s.ran ∙ g.ran; slots = slots_same m d s ∙ g.slots }
gives_same (Some row) c m d (j, g) s = (j, record { chosen = g.chosen; ran = s.ran ∙ g.ran; slots = slots_same m d s ∙ g.slots })

-- of the slots of a new board
pub past_fresh : (slots : List Slot) → slots ≡ replicate 64 empty → Past 0 slots
past_fresh slots e row t h = absurd (none_some (sym (ap (λ (s : Slot). s.last) (ap (λ x. slot_at x row) e ∙ slot_fresh 64 row)) ∙ h))

pub below_fresh : (n : ℕ) (slots : List Slot) → slots ≡ replicate 64 empty → Below n slots
below_fresh n slots e row j h = absurd (none_some (sym (ap (λ (s : Slot). s.job) (ap (λ x. slot_at x row) e ∙ slot_fresh 64 row)) ∙ h))

pub front_fresh : (n : ℕ) (slots : List Slot) → n ≤ 64 → slots ≡ replicate 64 empty → take n slots ≡ replicate n empty
front_fresh n slots l e = ap (take n) e ∙ take-replicate n 64 empty l

-- the row of a plan has a place in the array
row_fits : (c : Core) (row : ℕ) → row < rows c → row < length c.jobs.slots
row_fits c row l = omega (arith, few c.plan)

-- a write to the slot of one row, at the tick now or later
module _ (c : Core) (slots : List Slot) (row : ℕ) (s : Slot) (l : row < rows c) (e : slots ≡ set c.jobs.slots row s) where
  pub write_past : (now : ℕ) → c.now ≤ now → ((t : ℕ) → s.last ≡ Some t → t ≤ now) → Past now slots
  write_past now k h =
      subst (Past now) (sym e) (past_set now c.jobs.slots row s (row_fits c row l) h (λ i t q. let p = c.past i t q in omega arith))

  pub write_below : Below (rows c) slots
  write_below = subst (Below (rows c)) (sym e) (below_set (rows c) c.jobs.slots row s (row_fits c row l) l c.listed)

  pub write_front : take (rows c) slots ≡ set (slots_of c) row s
  write_front = ap (take (rows c)) e ∙ front_set (rows c) c.jobs.slots row s

pub slot_front : (c : Core) (row : ℕ) → row < rows c → slot_at (slots_of c) row ≡ slot_at c.jobs.slots row
slot_front c row l = front_slot (rows c) c.jobs.slots row l

pub job_front : (c : Core) (row : ℕ) → job_at (slots_of c) row ≡ job_at c.jobs.slots row
job_front c row = front_job (rows c) c.jobs.slots c.listed row

pub opens : (c d : Core) (row sleep : ℕ) (task : Task) → row < rows c → task ≡ task_at (planned c.plan) row
    → Apart (slot_at c.jobs.slots row).last task.gap c.now → sleep ≡ sleep_at (sleeps_of c.plan) row
    → d.plan ≡ c.plan → d.now ≡ c.now → d.ran ≡ c.ran → d.slept ≡ c.slept → d.mode ≡ c.mode
    → d.jobs.slots ≡ set c.jobs.slots row (opened c.now (c.now + task.due)) → Opens c row sleep d
opens c d row sleep task l q a s plan now ran slept mode e =
    record {
      listed = l;
      apart = subst (λ (x : Slot). Apart x.last (task_at (planned c.plan) row).gap c.now) (sym (slot_front c row l))
          (subst (λ (x : Task). Apart (slot_at c.jobs.slots row).last x.gap c.now) q a);
      waits = s;
      plan = plan;
      now = now;
      ran = ran;
      slept = slept;
      mode = mode;
      slots = ap (λ p. take (length (planned p)) d.jobs.slots) plan
          ∙ (write_front c d.jobs.slots row (opened c.now (c.now + task.due)) l e
          ∙ ap (λ (x : Task). set (slots_of c) row (opened c.now (c.now + x.due))) q);
    }

-- m: the job is closed; d: the board has settled
pub shuts : (c m d : Core) (row : ℕ) (j : Job) → row < rows c → job_at c.jobs.slots row ≡ Some j → 0 < j.given
    → m.plan ≡ c.plan → m.now ≡ c.now → m.ran ≡ c.ran → m.slept ≡ c.slept → m.mode ≡ c.mode
    → m.jobs.slots ≡ set c.jobs.slots row (closed (slot_at c.jobs.slots row)) → Same m d → Settled m.mode d → Shuts c row d
shuts c m d row j l e g plan now ran slept mode w same settled =
    record {
      listed = l;
      begun = (j, job_front c row ∙ e, g);
      plan = same.plan ∙ plan;
      now = same.now ∙ now;
      ran = same.ran ∙ ran;
      slept = same.slept ∙ slept;
      slots = slots_same m d same
          ∙ (ap (λ p. take (length (planned p)) m.jobs.slots) plan
          ∙ (write_front c m.jobs.slots row (closed (slot_at c.jobs.slots row)) l w
          ∙ ap (λ (s : Slot). set (slots_of c) row (closed s)) (sym (slot_front c row l))));
      settled = subst (λ x. Settled x d) mode settled;
    }

-- the row that comes first is one of the plan's
pub foremost_listed : (c : Core) (row : ℕ) → Foremost c.jobs.slots (Some row) → row < rows c
foremost_listed c row f = c.listed row f.1.0 f.1.1.job

pub feeds : (c d : Core) (row : ℕ) (task : Task) (f : Foremost c.jobs.slots (Some row)) → task ≡ task_at (planned c.plan) row
    → d.plan ≡ c.plan → d.ran ≡ c.ran + 1
    → ((j : Job) → job_at c.jobs.slots row ≡ Some j → d.jobs.slots ≡ set c.jobs.slots row (fed task.run (slot_at c.jobs.slots row) j))
    → Gives (Some row) c d
feeds c d row task f q plan ran w =
    let j : Job = f.1.0 in
    let l : row < rows c = foremost_listed c row f in (
      j,
      record {
        chosen = front_chosen (rows c) c.jobs.slots c.listed row j f.1.1;
        ran = ran;
        slots = ap (λ p. take (length (planned p)) d.jobs.slots) plan
            ∙ (write_front c d.jobs.slots row (fed task.run (slot_at c.jobs.slots row) j) l (w j f.1.1.job)
            ∙ (ap (λ (x : Task). set (slots_of c) row (fed x.run (slot_at c.jobs.slots row) j)) q
            ∙ ap (λ (s : Slot). set (slots_of c) row (fed (task_at (planned c.plan) row).run s j)) (sym (slot_front c row l))));
      },
    )

-- a job with one tick more keeps its row's last release
pub fed_past : (c : Core) (row run : ℕ) (j : Job) → (t : ℕ) → (fed run (slot_at c.jobs.slots row) j).last ≡ Some t → t ≤ c.now + 1
fed_past c row run j t e = let p = c.past row t (sym (fed_last run (slot_at c.jobs.slots row) j) ∙ e) in omega arith

rests : (c d : Core) → d.plan ≡ c.plan → d.ran ≡ c.ran → d.jobs.slots ≡ c.jobs.slots → Idle c.jobs.slots → Gives None c d
rests c d plan ran slots i =
    record { idle = front_idle (rows c) c.jobs.slots c.listed i; ran = ran; slots = cc (plan, slots) }

-- m: a job got the tick; d: the board has settled
serves : (who : Option ℕ) (c m d : Core) → Gives who c m → Advances c m → Same m d → Settled m.mode d → Serves c who d
serves who c m d g a s settled =
    record {
      gives = gives_same who c m d g s;
      plan = s.plan ∙ a.plan;
      now = s.now ∙ a.now;
      slept = s.slept ∙ a.slept;
      settled = subst (λ x. Settled x d) a.mode settled;
    }

-- a ring wakes the board after the tick that it slept through
pub rung : (rang : Bool) (c d e : Core) → Dozes c false d → Same d e → e.mode ≡ mode_after rang → Dozes c rang e
rung rang c d e z same mode =
    record {
      plan = same.plan ∙ z.plan;
      now = same.now ∙ z.now;
      ran = same.ran ∙ z.ran;
      slept = same.slept ∙ z.slept;
      slots = slots_same d e same ∙ z.slots;
      mode = mode;
    }
