use Rattle.std.proofs.Common.{◌≡◌, ◌+◌, subst, arith}
use Rattle.audit_lex.proofs.OtherTokens.{HasNoStop, goes_further}
use Rattle.audit_lex.proofs.places.place_of_stop.Goals as goal

pub returns-then-stop-lt16-clause-before : goal.returns-then-stop-lt16-clause-before
returns-then-stop-lt16-clause-before c = goes_further c.args.first c.args.text.now c.loop-place.place _ c.loop-place.invariant.before c.place_of_stop_in_sixteen-stop.ensures.before

pub loop-place-preserved : goal.loop-place-preserved
loop-place-preserved c =
    let stop = c.place_of_stop_in_sixteen-stop in
    let whole : stop.result ≡ 16 = omega (arith, stop.ensures.within, c.if-stop-lt16.false) in
    record {
      within = omega (arith, c.loop-place-test.true);
      before = subst (λ n. HasNoStop c.args.first c.args.text.now (c.loop-place.place + n)) whole (goes_further c.args.first c.args.text.now c.loop-place.place stop.result c.loop-place.invariant.before stop.ensures.before);
    }
