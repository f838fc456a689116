use Rattle.std.proofs.Common.{◌∙◌, sym, ap, arith, Some}
use Rattle.std.proofs.lemmas.List.{take_rest}
use Rattle.audit_lex.proofs.SameStamps.{same_seconds}
use Rattle.audit_lex.proofs.last_stamp.LastStamp.seconds.Goals as goal

pub returns-then-begins_alike-clause-read : goal.returns-then-begins_alike-clause-read
returns-then-begins_alike-clause-read c =
    let held = c.self.inside in
    let text = c.args.text.now in
    let alike = c.begins_alike.ensures c.if-begins_alike.true in
    ap (λ t. Some (held.seconds, t)) (take_rest text held.dot)
    ∙ sym (same_seconds held.bytes text held.dot held.seconds (omega (arith, c.self.invariant.size, c.self.invariant.dot_within)) c.self.invariant.seconds_are alike)
