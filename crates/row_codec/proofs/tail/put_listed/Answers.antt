use Rattle.std.proofs.Common.{◌≡◌, take, subst, arith}
use Rattle.std.specs.List.{All}
use Rattle.std.proofs.lemmas.List.{take_all, get_or_default}
use Rattle.std.proofs.lemmas.List.Elements.{recursion_from_All}
use Rattle.row_codec.specs.State.{bad, FitsBad}
use Rattle.row_codec.proofs.ManyLaws.{put_more}
use Rattle.row_codec.proofs.tail.put_listed.Goals as goal

pub loop-bad-preserved : goal.loop-bad-preserved
loop-bad-preserved c =
    put_more bad FitsBad c.args.to.now c.loop-bad.to c.put_bad.new.to c.args.listed.now c.loop-bad.bad-index _ c.loop-bad-test.true
    (get_or_default c.args.listed.now c.loop-bad.bad-index _ _ c.loop-bad-test.true) c.in_ok-put_bad.ensures.bytes c.in_ok-put_bad.ensures.fits c.loop-bad.invariant

pub returns-clause-fits : goal.returns-clause-fits
returns-clause-fits c =
    recursion_from_All FitsBad c.args.listed.now (subst (All FitsBad) (take_all c.loop-bad.bad-index c.args.listed.now (omega (arith, c.loop-bad-test.false))) c.loop-bad.invariant.1)
