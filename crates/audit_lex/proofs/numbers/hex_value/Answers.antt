use Rattle.std.proofs.Common.{arith}
use Rattle.std.proofs.lemmas.Int.Digits.{digits_value_more}
use Rattle.audit_lex.proofs.NumberLemmas.{digit_fits, past_digit}
use Rattle.audit_lex.proofs.numbers.hex_value.Goals as goal

pub overflow_mul-value : goal.overflow_mul-value
overflow_mul-value c =
    let step = digit_fits 16 c.loop-byte.value c.digit-digit.result c.loop-byte.byte-index c.loop-byte.invariant.small (omega arith) (omega (arith, c.if-digit-ge16.false)) (omega arith) in
    omega (arith, step.fits)

pub overflow_add-value : goal.overflow_add-value
overflow_add-value c =
    let step = digit_fits 16 c.loop-byte.value c.digit-digit.result c.loop-byte.byte-index c.loop-byte.invariant.small (omega arith) (omega (arith, c.if-digit-ge16.false)) (omega arith) in
    omega (arith, step.fits)

pub loop-byte-preserved : goal.loop-byte-preserved
loop-byte-preserved c =
    let step = digit_fits 16 c.loop-byte.value c.digit-digit.result c.loop-byte.byte-index c.loop-byte.invariant.small (omega arith) (omega (arith, c.if-digit-ge16.false)) (omega arith) in
    let more = digits_value_more 16 c.args.text.now c.loop-byte.byte-index c.loop-byte-test.true in
    record {
      value = cc;
      small = step.next;
      rest = past_digit 16 c.args.text.now c.loop-byte.byte-index c.loop-byte-test.true (omega (arith, c.digit-digit.ensures, c.if-digit-ge16.false)) c.loop-byte.invariant.rest;
    }
