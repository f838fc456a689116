use Rattle.std.proofs.Common.{◌∙◌, sym}
use Rattle.ingest.proofs.PutBack.{group_empty, group_fails, group_open, group_closed}
use Rattle.ingest.proofs.waiting.put_group.Goals as goal

pub returns-then-is_empty : goal.returns-then-is_empty
returns-then-is_empty c = group_empty c.args.limits.now c.args.key c.args.closed c.args.lines.now c.args.join.now c.args.join.now (sym c.is_empty.ensures ∙ c.if-is_empty.true)

pub returns-then-not-branch : goal.returns-then-not-branch
returns-then-not-branch c = group_fails c.args.limits.now c.args.key c.args.closed c.args.lines.now c.in_ok-put_lines.field-0 c.args.join.now c.put_lines.new.join c.if-not-branch.true c.in_ok-put_lines.ensures

pub returns-then-closed : goal.returns-then-closed
returns-then-closed c =
    group_closed c.args.limits.now c.args.key c.args.closed c.args.lines.now c.in_ok-put_lines.field-0 c.in_ok-close_again.field-0 c.args.join.now c.put_lines.new.join c.close_again.new.join
    c.if-closed.true (sym c.is_empty.ensures ∙ c.if-is_empty.false) c.if-not-branch.false c.in_ok-put_lines.ensures (c.in_ok-close_again.ensures c.args.limits.now)

pub returns : goal.returns
returns c =
    group_open c.args.limits.now c.args.key c.args.closed c.args.lines.now c.in_ok-put_lines.field-0 c.args.join.now c.put_lines.new.join
    c.if-closed.false (sym c.is_empty.ensures ∙ c.if-is_empty.false) c.if-not-branch.false c.in_ok-put_lines.ensures
