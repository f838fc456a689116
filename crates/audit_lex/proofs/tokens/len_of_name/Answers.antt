use Rattle.std.proofs.Common.{◌≡◌, ◌∙◌, length, arith}
use Rattle.audit_lex.proofs.TokenLemmas.{name_ends}
use Rattle.audit_lex.proofs.tokens.len_of_name.Goals as goal
use Rattle.audit_lex.proofs.tokens.len_of_name.Goals.{then-text-place-eq61-via-then-text-place-eq61, then-text-place-eq61-via-else-text-place-eq61+then-text-place-eq32}

pub returns-then-text-place-eq61-clause-len : goal.returns-then-text-place-eq61-clause-len
returns-then-text-place-eq61-clause-len c = name_ends c.args.text.now c.loop-place.place (omega arith) c.loop-place.invariant
    (λ some other. elim c.then-text-place-eq61.branch [
      | then-text-place-eq61-via-then-text-place-eq61 w ↦ absurd (other w.if-text-place-eq61.true)
      | then-text-place-eq61-via-else-text-place-eq61+then-text-place-eq32 w ↦ w.if-text-place-eq32.true
    ])

pub returns-clause-len : goal.returns-clause-len
returns-clause-len c =
    let all : length c.args.text.now ≡ c.loop-place.place = omega arith in
    all ∙ name_ends c.args.text.now c.loop-place.place (omega arith) c.loop-place.invariant (λ some. absurd (omega (arith, some, all)))
