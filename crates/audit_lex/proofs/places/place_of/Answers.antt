use Rattle.std.proofs.Common.{◌≡◌, ◌+◌, ◌-◌, length, sym, subst, arith}
use Rattle.std.proofs.lemmas.List.{take_rest}
use Rattle.std.proofs.lemmas.List.Sums.{position_or_len_is}
use Rattle.memchr.specs.Find.{is_byte}
use Rattle.audit_lex.proofs.PlaceLemmas.{HasNone, none_further, there_further}
use Rattle.audit_lex.proofs.places.place_of.Goals as goal

pub returns-then-near-lt32-clause-place : goal.returns-then-near-lt32-clause-place
returns-then-near-lt32-clause-place c =
    let near = c.place_in_thirty_two-near in
    sym (position_or_len_is (is_byte c.args.byte) c.args.text.now (c.loop-place.place + near.result) 0 (omega (arith, near.ensures.within, c.loop-place-test.true))
    (none_further c.args.byte c.args.text.now _ c.loop-place.place c.loop-place.place near.result (take_rest c.args.text.now c.loop-place.place) (omega arith) c.loop-place.invariant.before near.ensures.before)
    (λ within. there_further c.args.byte c.args.text.now _ c.loop-place.place near.result (take_rest c.args.text.now c.loop-place.place) (near.ensures.there c.if-near-lt32.true)))

pub loop-place-preserved : goal.loop-place-preserved
loop-place-preserved c =
    let near = c.place_in_thirty_two-near in
    let whole : near.result ≡ 32 = omega (arith, near.ensures.within, c.if-near-lt32.false) in
    record {
      before = subst (λ n. HasNone c.args.byte c.args.text.now (c.loop-place.place + n)) whole (none_further c.args.byte c.args.text.now _ c.loop-place.place c.loop-place.place near.result (take_rest c.args.text.now c.loop-place.place) (omega arith) c.loop-place.invariant.before near.ensures.before);
      within = omega (arith, c.loop-place-test.true);
    }

pub returns-clause-place : goal.returns-clause-place
returns-clause-place c =
    let near = c.place_in_thirty_two in
    let last = length c.args.text.now - 32 in
    sym (position_or_len_is (is_byte c.args.byte) c.args.text.now (last + near.result) 0 (omega (arith, near.ensures.within, c.if-text-lt32.false))
    (none_further c.args.byte c.args.text.now _ last c.loop-place.place near.result (take_rest c.args.text.now last) (omega (arith, c.loop-place-test.false)) c.loop-place.invariant.before near.ensures.before)
    (λ within. there_further c.args.byte c.args.text.now _ last near.result (take_rest c.args.text.now last) (near.ensures.there (omega (arith, within, near.ensures.within)))))
