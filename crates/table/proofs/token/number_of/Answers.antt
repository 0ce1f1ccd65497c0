-- Each byte is a digit at one of seven places, so the value so far is below ten to the sixth.
use Rattle.std.proofs.Common.{◌^◌, ◌≤◌, get_or, arith}
use Rattle.std.proofs.Math.Nat.{pow-le-pow_right}
use Rattle.table.specs.Bytes.{is_number_byte}
use Rattle.table.proofs.Loops.{allowed, digit_is}
use Rattle.table.proofs.token.number_of.Goals as goal

pub overflow_mul-value : goal.overflow_mul-value
overflow_mul-value c =
    let i = c.loop-digit.digit-index in
    let is = digit_is i (get_or c.args.digits.now i 0) (allowed is_number_byte c.args.digits.now i c.loop-digit-test.true c.loop-digit.invariant.0) in
    let most : 10 ^ i ≤ 10 ^ 6 = pow-le-pow_right {n = 10} (omega arith) {i = i} {j = 6} (omega (arith, is.0)) in
    omega (arith, most)

pub overflow_add-value : goal.overflow_add-value
overflow_add-value c =
    let i = c.loop-digit.digit-index in
    let is = digit_is i (get_or c.args.digits.now i 0) (allowed is_number_byte c.args.digits.now i c.loop-digit-test.true c.loop-digit.invariant.0) in
    let most : 10 ^ i ≤ 10 ^ 6 = pow-le-pow_right {n = 10} (omega arith) {i = i} {j = 6} (omega (arith, is.0)) in
    omega (arith, most, is.1.1, c.from.ensures)
