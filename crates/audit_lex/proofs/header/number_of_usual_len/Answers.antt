use Rattle.std.proofs.Common.{◌+◌, ◌-◌, ◌∙◌, sym, ap, arith, length, take, drop, Some}
use Rattle.std.specs.Str.Parse.{digits_value}
use Rattle.std.proofs.lemmas.List.{take_rest}
use Rattle.audit_lex.proofs.HeaderNumbers.{below_power, digits_in_front, found, not_before, valued}
use Rattle.audit_lex.proofs.header.number_of_usual_len.Goals as goal

pub returns-in-Some-clause-read : goal.returns-in-Some-clause-read
returns-in-Some-clause-read c =
    let text = c.args.text.now in
    let place = c.args.usual in
    let is = valued (take place text) c.in-Some.value (sym c.in-Some.is ∙ c.decimal_value.ensures) in
    let low = not_before c.args.byte text place c.requires.byte (omega arith) (digits_in_front text place (omega arith) is.0) in
    ap (λ v. Some (v, take (length text - (place + 1)) (drop (place + 1) text))) is.1
    ∙ ap (λ t. Some (digits_value 10 (take place text), t)) (take_rest text (place + 1))
    ∙ sym (found c.args.byte c.args.least c.args.most text place (omega arith) low c.if-text-usual-2.true c.requires.usual.0 (omega (arith, c.requires.some, c.requires.usual.0)) c.requires.usual.1 is.0)

pub returns-in-Some-clause-below : goal.returns-in-Some-clause-below
returns-in-Some-clause-below c =
    let text = c.args.text.now in
    let is = valued (take c.args.usual text) c.in-Some.value (sym c.in-Some.is ∙ c.decimal_value.ensures) in
    let power = below_power text c.args.usual c.args.most (omega arith) c.requires.usual.1 is.0 in
    omega (arith, power, is.1)
