use Rattle.std.proofs.Common.{◌≡◌, ◌<◌, ◌+◌, ◌-◌, ◌∙◌, sym, ap, arith, false, length, get_or, take, drop, Some, inl, inr}
use Rattle.std.specs.Option.{option_and_then}
use Rattle.std.specs.Char.{is_digit, digit_value}
use Rattle.std.specs.Str.Parse.{digits_value}
use Rattle.std.proofs.lemmas.List.{take_rest}
use Rattle.std.proofs.lemmas.Bool.{cases_lt, le-ltb}
use Rattle.std.proofs.lemmas.Int.Digits.{digits_value_more}
use Rattle.audit_lex.specs.Header.{number_then}
use Rattle.audit_lex.proofs.NumberLemmas.{digit_fits}
use Rattle.audit_lex.proofs.HeaderNumbers.{not_before, stopped, overlong, cut_none, one_more, whole_more, found, below_power}
use Rattle.audit_lex.proofs.header.number_before.Goals as goal

pub returns-then-text-place-clause-read : goal.returns-then-text-place-clause-read
returns-then-text-place-clause-read c =
    let low = not_before c.args.byte c.args.text.now c.loop-place.place c.requires.byte (omega (arith, c.loop-place-test.true)) c.loop-place.invariant.digits in
    let fails : is_digit (get_or c.args.text.now c.loop-place.place 0) 10 ≡ false = le-ltb _ _ (c.decimal_digit-digit.ensures.other c.if-digit-ge10.true) in
    sym (stopped c.args.byte c.args.least c.args.most c.args.text.now c.loop-place.place (omega (arith, c.loop-place-test.true)) low fails c.then-text-place.either)

pub returns-then-digit-ge10-clause-read : goal.returns-then-digit-ge10-clause-read
returns-then-digit-ge10-clause-read c =
    let text = c.args.text.now in
    let place = c.loop-place.place in
    let low = not_before c.args.byte text place c.requires.byte (omega (arith, c.loop-place-test.true)) c.loop-place.invariant.digits in
    ap (λ v. Some (v, take (length text - (place + 1)) (drop (place + 1) text))) c.loop-place.invariant.value
    ∙ ap (λ t. Some (digits_value 10 (take place text), t)) (take_rest text (place + 1))
    ∙ sym (found c.args.byte c.args.least c.args.most text place (omega (arith, c.loop-place-test.true)) low c.if-text-place.false c.if-place-least.false
    (omega (arith, c.requires.some, c.if-place-least.false)) (omega arith) c.loop-place.invariant.whole)

pub overflow_mul-value : goal.overflow_mul-value
overflow_mul-value c =
    let step = digit_fits 10 c.loop-place.value c.decimal_digit-digit.result c.loop-place.place c.loop-place.invariant.small (omega arith) (omega arith) (omega arith) in
    omega (arith, step.fits)

pub overflow_add-value : goal.overflow_add-value
overflow_add-value c =
    let step = digit_fits 10 c.loop-place.value c.decimal_digit-digit.result c.loop-place.place c.loop-place.invariant.small (omega arith) (omega arith) (omega arith) in
    omega (arith, step.fits)

pub loop-place-preserved : goal.loop-place-preserved
loop-place-preserved c =
    let step = digit_fits 10 c.loop-place.value c.decimal_digit-digit.result c.loop-place.place c.loop-place.invariant.small (omega arith) (omega arith) (omega arith) in
    let within : c.loop-place.place < length c.args.text.now = omega (arith, c.loop-place-test.true) in
    let digit = c.decimal_digit-digit.ensures.digit (omega (arith, c.if-digit-ge10.false)) in
    let more = digits_value_more 10 c.args.text.now c.loop-place.place within in
    let below : digit_value (get_or c.args.text.now c.loop-place.place 0) < 10 = omega (arith, c.if-digit-ge10.false, digit) in
    record {
      value = omega (arith, c.loop-place.invariant.value, more, digit);
      small = step.next;
      digits = one_more c.args.text.now c.loop-place.place below c.loop-place.invariant.digits;
      whole = whole_more c.args.text.now c.loop-place.place within below c.loop-place.invariant.whole;
    }

pub returns-clause-read : goal.returns-clause-read
returns-clause-read c =
    let text = c.args.text.now in
    let low = not_before c.args.byte text c.loop-place.place c.requires.byte (omega arith) c.loop-place.invariant.digits in
    elim (cases_lt c.args.most (length text)) [
      | inl longer ↦ sym (overlong c.args.byte c.args.least c.args.most text (omega (arith, low, longer, c.loop-place-test.false)))
      | inr short ↦ sym (ap (option_and_then (number_then c.args.least c.args.most)) (cut_none c.args.byte text (omega (arith, low, short, c.loop-place-test.false))))
    ]

pub returns-then-digit-ge10-clause-below : goal.returns-then-digit-ge10-clause-below
returns-then-digit-ge10-clause-below c =
    let power = below_power c.args.text.now c.loop-place.place c.args.most (omega (arith, c.loop-place-test.true)) (omega arith) c.loop-place.invariant.whole in
    omega (arith, power, c.loop-place.invariant.value)
