-- A wait runs down by one with each pass, so an alarm with m left rings at the m-th pass and at none before. By induction
-- on the passes m - i are left after i of them, and a pass rings exactly where 1 was left.
use Rattle.std.proofs.Common.{◌≡◌, ℕ, zero, suc, ◌+◌, ◌-◌, ◌<◌, eqb, ap, ◌∙◌, add-one, arith}
use Rattle.std.proofs.lemmas.Bool.Decides.{nat_tests}
use Rattle.alarm.specs.declared.base.Alarm.{Ghosts}
use Rattle.alarm.specs.Effects.{Passed}
use Rattle.alarm.specs.Meaning.{onward, rings, waiting}

onward_waiting : (m : ℕ) → onward (waiting m) ≡ waiting (m - 1)
onward_waiting m = grind (arith, nat_tests)

rings_waiting : (m : ℕ) → rings (waiting m) ≡ eqb m 1
rings_waiting m = grind (arith, nat_tests)

pub left_after : {S : Type 0} (alarm : Ghosts S) (run : ℕ → S) (m : ℕ) → alarm.meaning (run 0) ≡ waiting m
    → ((i : ℕ) → Passed alarm (run i) (run (i + 1))) → (i : ℕ) → alarm.meaning (run i) ≡ waiting (m - i)
left_after alarm run m at passes zero = let z : m ≡ m - 0 = omega arith in at ∙ ap waiting z
left_after alarm run m at passes (suc i) =
    let f : m - i - 1 ≡ m - (i + 1) = omega arith in
    rw (← add-one i) ((passes i).0 ∙ (ap onward (left_after alarm run m at passes i) ∙ (onward_waiting (m - i) ∙ ap waiting f)))

pub rings_after : {S : Type 0} (alarm : Ghosts S) (run : ℕ → S) (m : ℕ) → alarm.meaning (run 0) ≡ waiting m
    → ((i : ℕ) → Passed alarm (run i) (run (i + 1))) → (i : ℕ) → i < m → rings (alarm.meaning (run i)) ≡ eqb (i + 1) m
rings_after alarm run m at passes i h =
    let same : eqb (m - i) 1 ≡ eqb (i + 1) m = grind (arith, nat_tests) in
    ap rings (left_after alarm run m at passes i) ∙ (rings_waiting (m - i) ∙ same)
