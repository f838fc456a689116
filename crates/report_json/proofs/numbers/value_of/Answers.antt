use Rattle.std.proofs.Common.{arith}
use Rattle.report_json.proofs.DigitLemmas.{digit_step}
use Rattle.report_json.proofs.numbers.value_of.Goals as goal

pub overflow_mul-value : goal.overflow_mul-value
overflow_mul-value c =
    let step = digit_step c.args.text.now c.loop-byte.byte-index c.requires.digits c.requires.few (omega arith) in
    omega (arith, step.value, step.fits)
