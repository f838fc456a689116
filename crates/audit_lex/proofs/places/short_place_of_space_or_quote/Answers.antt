use Rattle.std.proofs.Common.{◌∙◌, sym, length, arith}
use Rattle.std.proofs.lemmas.List.Sums.{position_or_len_is}
use Rattle.memchr.specs.Find.{is_byte2}
use Rattle.audit_lex.proofs.places.short_place_of_space_or_quote.Goals as goal

pub returns-then-is_space_or_quote-clause-place : goal.returns-then-is_space_or_quote-clause-place
returns-then-is_space_or_quote-clause-place c =
    sym (position_or_len_is (is_byte2 32 34) c.args.text.now c.loop-place.place 0 (omega arith) c.loop-place.invariant (λ within. sym c.is_space_or_quote.ensures ∙ c.if-is_space_or_quote.true))

pub returns-clause-place : goal.returns-clause-place
returns-clause-place c =
    sym (position_or_len_is (is_byte2 32 34) c.args.text.now (length c.args.text.now) 0 (omega arith) (λ k below. c.loop-place.invariant k (omega (arith, below))) (λ within. absurd (omega (arith, within))))
