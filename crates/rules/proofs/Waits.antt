-- What an alarm means after it was set to a wait, and after a tick: the tests of its definitions, on numbers of which it is
-- known that they are not 0.
use Rattle.std.proofs.Common.{◌≡◌, ℕ, suc, ◌-◌, false, eqb, Some, None, ap, ◌∙◌, arith}
use Rattle.std.proofs.lemmas.Bool.{ne_eqb, cond-false}
use Rattle.alarm.specs.Meaning.{waiting, onward, rings}
use Rattle.rules.specs.declared.slots.Mode.TheVariants.{Asleep, Awake}
use Rattle.rules.specs.Steps.{mode_for}

pub waiting_some : (m : ℕ) → waiting (suc m) ≡ Some (suc m)
waiting_some m = cond-false (eqb (suc m) 0) None (Some (suc m)) (ne_eqb (suc m) 0 (λ e. omega arith))

pub stays_asleep : (m : ℕ) → mode_for (suc m) ≡ Asleep
stays_asleep m = cond-false (eqb (suc m) 0) Awake Asleep (ne_eqb (suc m) 0 (λ e. omega arith))

pub onward_more : (l : ℕ) → onward (Some (suc (suc l))) ≡ Some (suc l)
onward_more l = let e : suc (suc l) - 1 ≡ suc l = omega arith in ap waiting e ∙ waiting_some l

pub silent : (l : ℕ) → rings (Some (suc (suc l))) ≡ false
silent l = ne_eqb (suc (suc l)) 1 (λ e. omega arith)
