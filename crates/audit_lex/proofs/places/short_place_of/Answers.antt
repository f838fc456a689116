use Rattle.std.proofs.Common.{sym, length, arith}
use Rattle.std.proofs.lemmas.Bool.{eq-eqb}
use Rattle.std.proofs.lemmas.List.Sums.{position_or_len_is}
use Rattle.memchr.specs.Find.{is_byte}
use Rattle.audit_lex.proofs.places.short_place_of.Goals as goal

pub returns-then-text-place-clause-place : goal.returns-then-text-place-clause-place
returns-then-text-place-clause-place c =
    sym (position_or_len_is (is_byte c.args.byte) c.args.text.now c.loop-place.place 0 (omega arith) c.loop-place.invariant (λ within. eq-eqb _ _ c.if-text-place.true))

pub returns-clause-place : goal.returns-clause-place
returns-clause-place c =
    sym (position_or_len_is (is_byte c.args.byte) c.args.text.now (length c.args.text.now) 0 (omega arith) (λ k below. c.loop-place.invariant k (omega (arith, below))) (λ within. absurd (omega (arith, within))))
