use Rattle.std.proofs.Common.{sym, ◌∙◌, ap, arith, take, Some, ◌+◌}
use Rattle.std.proofs.lemmas.Bool.{eq-eqb}
use Rattle.std.proofs.lemmas.List.{take_rest}
use Rattle.order_text.proofs.CutLemmas.{first_found, first_missing}
use Rattle.order_text.proofs.cut.at_near.Goals as goal

pub returns-then-text-place : goal.returns-then-text-place
returns-then-text-place c =
    let text = c.args.text.now in
    let place = c.loop-place.place in
    ap (λ t. Some (take place text, t)) (take_rest text (place + 1))
    ∙ sym (first_found c.args.byte text place (omega arith) (eq-eqb _ _ c.if-text-place.true) c.loop-place.invariant)

pub returns : goal.returns
returns c =
    sym (first_missing c.args.byte c.args.text.now (λ k below. c.loop-place.invariant k (omega (arith, below))))
