use Rattle.std.proofs.Common.{◌≡◌, ◌^◌, ◌<◌, length, drop}
use Rattle.table.specs.Bytes.{is_number_byte, stretch}
use Rattle.table.specs.Lines.{decimal_after, decimal}
use Rattle.table.proofs.token.number_of.Given as goal

abbrev pub invariant-loop-digit : goal.invariant-loop-digit
invariant-loop-digit l =
    (stretch is_number_byte l.digit-index (drop l.digit-index l.digits) ≡ length l.digits)
    × (decimal_after l.value (drop l.digit-index l.digits) ≡ decimal l.digits)
    × (l.value < 10 ^ l.digit-index)
