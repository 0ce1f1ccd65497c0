-- Calls of different kinds differ, and equal calls name the same row.
use Rattle.std.proofs.Common.{◌≡◌, ℕ, ap}
use Rattle.rules.specs.declared.calls.Call.{Call}
use Rattle.rules.specs.declared.calls.Call.TheVariants.{Release, Done, Tick, Report}

abbrev pub kind : Call → ℕ
kind (Release row) = 0
kind (Done row) = 1
kind Tick = 2
kind (Report row) = 3

abbrev pub row_in : Call → ℕ
row_in (Release row) = row
row_in (Done row) = row
row_in Tick = 0
row_in (Report row) = row

pub apart_kinds : (a b : Call) → a ≡ b → (kind a ≡ kind b → ⊥) → ⊥
apart_kinds a b e ne = ne (ap kind e)
