use Rattle.std.proofs.Common.{◌≡◌, ℕ, ◌+◌, Bool, length}
use Rattle.table.specs.Bytes.{stretch, Tells}
use Rattle.table.proofs.token.front_size.Given as goal

abbrev pub invariant-loop-rest : goal.invariant-loop-rest
invariant-loop-rest g l = (l.count + length l.rest ≡ length l.text) × ((class : ℕ → ℕ → Bool) → Tells (goal.F-post g l.may_stand) class → stretch class l.count l.rest ≡ stretch class 0 l.text)

abbrev pub decreases-loop-rest : goal.decreases-loop-rest
decreases-loop-rest g l = length l.rest
