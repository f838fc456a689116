use Rattle.std.proofs.Common.{sym, ◌∙◌, ap, arith, take, Some, ◌+◌}
use Rattle.std.proofs.lemmas.List.{take_rest}
use Rattle.order_text.proofs.CutLemmas.{first_found, first_missing, fails}
use Rattle.order_text.proofs.cut.at_first.Goals as goal

pub returns-in-Some : goal.returns-in-Some
returns-in-Some c =
    let text = c.args.text.now in
    let place = c.in-Some.place in
    let found = c.in-Some.ensures in
    ap (λ t. Some (take place text, t)) (take_rest text (place + 1))
    ∙ sym (first_found c.args.byte text place found.0.high found.1
    (λ k below. fails c.args.byte text k (found.0.before k (omega arith) below)))

pub returns-in-None : goal.returns-in-None
returns-in-None c =
    sym (first_missing c.args.byte c.args.text.now
    (λ k below. fails c.args.byte c.args.text.now k (c.in-None.ensures k (omega arith) below)))
