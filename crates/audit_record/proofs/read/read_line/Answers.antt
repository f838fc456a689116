use Rattle.std.proofs.Common.{◌∙◌, sym}
use Rattle.audit_lex.specs.Slots.{held}
use Rattle.audit_record.proofs.ReadingLemmas.{gives_record, none_read, was_read, not_read}
use Rattle.audit_record.proofs.read.read_line.Goals as goal

pub returns-then-branch : goal.returns-then-branch
returns-then-branch c =
    let s = c.in-Some.scanned in
    gives_record c.args.limit c.args.line.now s.key s.kind s.raw.now (held c.scan.new.slots.values) c.in-Some.ensures
    (sym c.is_end.ensures ∙ c.if-is_end.false) c.read_scanned.new.item
    (was_read _ _ _ c.if-branch.true c.in_ok-read_scanned.ensures)

pub returns-else-branch : goal.returns-else-branch
returns-else-branch c =
    let s = c.in-Some.scanned in
    none_read c.args.limit c.args.line.now s.key s.kind s.raw.now (held c.scan.new.slots.values) c.in-Some.ensures
    (not_read _ _ _ c.if-branch.false c.in_ok-read_scanned.ensures)
