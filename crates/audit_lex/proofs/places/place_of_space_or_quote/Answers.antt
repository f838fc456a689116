use Rattle.std.proofs.Common.{arith, sym}
use Rattle.std.proofs.lemmas.List.Sums.{position_or_len_is}
use Rattle.memchr.specs.Find.{is_byte2}
use Rattle.audit_lex.proofs.places.place_of_space_or_quote.Goals as goal

pub returns-clause-place : goal.returns-clause-place
returns-clause-place c =
    let p = c.place_of_either_in_sixteen-place.ensures in
    let low = p.within in
    let long = c.if-text-lt16.false in
    let off = c.if-place-eq16.false in
    sym (position_or_len_is (is_byte2 32 34) c.args.text.now c.place_of_either_in_sixteen-place.result 0 (omega (arith, low, long)) (λ k below. p.before k below) (λ within. p.there (omega (arith, low, off))))
