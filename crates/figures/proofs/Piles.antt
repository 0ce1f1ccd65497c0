-- The effects of a pile's calls allow one wait: the counter's and the top-up's is told, a divider has one boundary to
-- choose (alarm/proofs/Single.antt), and a ramp's comes from that of the alarm below. A wait of m rings at the m-th pass
-- (alarm/proofs/Passing.antt).
use Rattle.std.proofs.Common.{◌≡◌, ℕ, ◌-◌, ◌<◌, ◌≤◌, min, leb, ◌⊎◌, sym, ap, ◌∙◌, inl, inr}
use Rattle.std.proofs.lemmas.Bool.{cases_lt, cond-true, cond-false, le-leb, lt-leb}
use Rattle.alarm.specs.declared.base.Alarm.{Ghosts}
use Rattle.alarm.specs.Boundaries.{divider_reach}
use Rattle.alarm.specs.Effects.{SetTo}
use Rattle.alarm.specs.Meaning.{waiting}
use Rattle.alarm.specs.Warming.{warmed, Ramped}
use Rattle.alarm.proofs.Passing.{rings_after}
use Rattle.alarm.proofs.Single.{divider_chooses}
use Rattle.figures.specs.Piles.{Pile, Pile.counter, Pile.divider, Pile.ramp, Pile.top_up, State, ghosts_of, At, last_boundary, ramp_wait, wait_of, Waits, RingsAt}

-- a ramp over an alarm that has one wait, f k where it is set to k
ramp_chooses : {S : Type 0} (below : Ghosts S) (warm n m : ℕ) (x y : S) (f : ℕ → ℕ) → Ramped below warm n m x y
    → ((k b : ℕ) → SetTo below x k b y → b ≡ f k) → m ≡ ramp_wait warm n f
ramp_chooses below warm n m x y f r one = go (cases_lt warm n)
  where
    go : (warm < n) ⊎ (n ≤ warm) → m ≡ ramp_wait warm n f
    go (inl l) =
        let b = r.1 l in
        b.1.0 ∙ (ap (warmed warm) (one (n - warm) b.0 b.1.1) ∙ sym (cond-false (leb n warm) 0 (warmed warm (f (n - warm))) (lt-leb n warm l)))
    go (inr l) = (r.0 l).0 ∙ sym (cond-true (leb n warm) 0 (warmed warm (f (n - warm))) (le-leb n warm l))

chooses : (pile : Pile) (n m : ℕ) (x y : State pile) → At pile x → SetTo (ghosts_of pile) x n m y → m ≡ wait_of pile n
unfolding wait_of
chooses counter n m x y at s = s.5.0
chooses (divider phase) n m x y at s = divider_chooses x y n m s ∙ ap (λ p. last_boundary p (min n divider_reach)) at
chooses (ramp warm below) n m x y at s =
    ramp_chooses (ghosts_of below) x.warm n m x.below y.below (wait_of below) s.5.2 (λ k b t. chooses below k b x.below y.below at.1 t)
    ∙ ap (λ w. ramp_wait w n (wait_of below)) at.0
chooses (top_up below) n m x y at s = s.5.0

pub waits_so : (pile : Pile) (n wait : ℕ) → wait_of pile n ≡ wait → Waits pile n wait
waits_so pile n wait e x y m at s = chooses pile n m x y at s ∙ e

pub rings_so : (pile : Pile) (n pass : ℕ) → wait_of pile n ≡ pass → RingsAt pile n pass
rings_so pile n pass e x m run at s passes i l =
    rings_after (ghosts_of pile) run pass (s.2 ∙ ap waiting (chooses pile n m x (run 0) at s ∙ e)) passes i l
