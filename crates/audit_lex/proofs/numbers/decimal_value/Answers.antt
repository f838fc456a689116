use Rattle.std.proofs.Common.{◌<◌, get_or, arith}
use Rattle.std.specs.Char.{digit_value}
use Rattle.std.proofs.lemmas.Int.Digits.{digits_value_more}
use Rattle.audit_lex.proofs.NumberLemmas.{digit_fits, past_digit}
use Rattle.audit_lex.proofs.numbers.decimal_value.Goals as goal

pub overflow_mul-value : goal.overflow_mul-value
overflow_mul-value c =
    let step = digit_fits 10 c.loop-byte.value c.decimal_digit-digit.result c.loop-byte.byte-index c.loop-byte.invariant.small (omega arith) (omega (arith, c.if-digit-ge10.false)) (omega arith) in
    omega (arith, step.fits)

pub overflow_add-value : goal.overflow_add-value
overflow_add-value c =
    let step = digit_fits 10 c.loop-byte.value c.decimal_digit-digit.result c.loop-byte.byte-index c.loop-byte.invariant.small (omega arith) (omega (arith, c.if-digit-ge10.false)) (omega arith) in
    omega (arith, step.fits)

pub loop-byte-preserved : goal.loop-byte-preserved
loop-byte-preserved c =
    let step = digit_fits 10 c.loop-byte.value c.decimal_digit-digit.result c.loop-byte.byte-index c.loop-byte.invariant.small (omega arith) (omega (arith, c.if-digit-ge10.false)) (omega arith) in
    let more = digits_value_more 10 c.args.text.now c.loop-byte.byte-index c.loop-byte-test.true in
    let digit = c.decimal_digit-digit.ensures.digit (omega (arith, c.if-digit-ge10.false)) in
    let below : digit_value (get_or c.args.text.now c.loop-byte.byte-index 0) < 10 = omega (arith, digit, c.if-digit-ge10.false) in
    record {
      value = omega (arith, c.loop-byte.invariant.value, more, digit);
      small = step.next;
      rest = past_digit 10 c.args.text.now c.loop-byte.byte-index c.loop-byte-test.true below c.loop-byte.invariant.rest;
    }
