use Rattle.std.proofs.Common.{arith}
use Rattle.ingest.proofs.PutBack.{no_groups, rows_fail_at, rows_more_at, all_rows}
use Rattle.ingest.proofs.waiting.put_rows.Goals as goal

pub loop-row-init : goal.loop-row-init
loop-row-init c = no_groups c.args.limits.now c.args.join.now

pub returns-then-not-branch : goal.returns-then-not-branch
returns-then-not-branch c =
    rows_fail_at c.args.limits.now c.args.rows.now c.loop-row.row-index c.row-item.result c.in_ok-put_row.field-0 c.args.join.now c.loop-row.join c.put_row.new.join
    c.loop-row-test.true c.row-item.is c.if-not-branch.true c.loop-row.invariant c.in_ok-put_row.ensures

pub loop-row-preserved : goal.loop-row-preserved
loop-row-preserved c =
    rows_more_at c.args.limits.now c.args.rows.now c.loop-row.row-index c.row-item.result c.in_ok-put_row.field-0 c.args.join.now c.loop-row.join c.put_row.new.join
    c.loop-row-test.true c.row-item.is c.if-not-branch.false c.loop-row.invariant c.in_ok-put_row.ensures

pub returns : goal.returns
returns c = all_rows c.args.limits.now c.args.rows.now c.loop-row.row-index c.args.join.now c.loop-row.join (omega (arith, c.loop-row-test.false)) c.loop-row.invariant
