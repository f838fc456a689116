use Rattle.std.proofs.Common.{◌≡◌, ◌++◌, ◌∷◌, []}
use Rattle.std.proofs.lemmas.Result.{err_from_is_err_and}
use Rattle.row_codec.specs.Parsing.{many_at}
use Rattle.row_codec.specs.State.{bad_at}
use Rattle.row_codec.specs.declared.fault.RowRead.TheVariants.{Malformed}
use Rattle.row_codec.proofs.Loop.{goes_on, ends, is_done}
use Rattle.row_codec.proofs.tail.all_bad.Goals as goal

pub returns-in_err-line : goal.returns-in_err-line
returns-in_err-line c =
    let p = err_from_is_err_and c.from_residual.result c.from_residual.ensures.1 in
    rw (p.1, p.2) (ends Malformed bad_at c.loop.listed c.args.count c.loop.counter c.loop.rest.now (many_at bad_at c.args.count c.args.bytes.now) c.loop-test.true c.in_err-line.ensures c.loop.invariant)

pub loop-preserved : goal.loop-preserved
loop-preserved c =
    rw c.in_ok-push.ensures.ok (goes_on bad_at c.loop.listed c.args.count c.loop.counter c.loop.rest.now c.in_ok-line.line c.in_ok-line.after.now (many_at bad_at c.args.count c.args.bytes.now) c.loop-test.true c.in_ok-line.ensures c.loop.invariant)

pub returns : goal.returns
returns c = is_done bad_at c.loop.listed c.args.count c.loop.counter c.loop.rest.now (many_at bad_at c.args.count c.args.bytes.now) c.loop-test.false c.loop.invariant
