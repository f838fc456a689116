use Rattle.ingest.proofs.PutBack.{lines_more_at, lines_fail_at}
use Rattle.ingest.proofs.waiting.put_lines.Goals as goal

pub returns-then-not-branch : goal.returns-then-not-branch
returns-then-not-branch c =
    lines_fail_at c.args.limits.now c.args.key c.args.lines.now c.loop-line.line-index c.line-item.result c.as_slice.result.now c.in_ok-put_line.field-0 c.args.join.now c.loop-line.join c.put_line.new.join
    c.loop-line-test.true c.line-item.is c.as_slice.ensures c.if-not-branch.true c.loop-line.invariant c.in_ok-put_line.ensures

pub loop-line-preserved : goal.loop-line-preserved
loop-line-preserved c =
    lines_more_at c.args.limits.now c.args.key c.args.lines.now c.loop-line.line-index c.line-item.result c.as_slice.result.now c.in_ok-put_line.field-0 c.args.join.now c.loop-line.join c.put_line.new.join
    c.loop-line-test.true c.line-item.is c.as_slice.ensures c.if-not-branch.false c.loop-line.invariant c.in_ok-put_line.ensures
