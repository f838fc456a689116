use Rattle.std.proofs.Common.{length}
use Rattle.audit_lex.specs.Slots.{held}
use Rattle.audit_record.proofs.ReadingLemmas.{none_read, record_read, was_read, not_read, used_at_length}
use Rattle.audit_record.proofs.read.read_record.Goals as goal

pub unreachable-requires-then-not-branch : goal.unreachable-requires-then-not-branch
unreachable-requires-then-not-branch c =
    let used = c.args.used.now in
    let line = used.line.now in
    let s = c.in-Some.scanned in
    none_read (length line) line s.key s.kind s.raw.now (held c.scan.new.slots.values) c.in-Some.ensures
    (not_read _ _ _ c.if-not-branch.true c.in_ok-read_scanned.ensures) used.key used.kind
    (used_at_length line used.key used.kind used.used)

pub returns : goal.returns
returns c =
    let line = c.args.used.now.line.now in
    let s = c.in-Some.scanned in
    record_read (length line) line s.key s.kind s.raw.now (held c.scan.new.slots.values) c.in-Some.ensures c.read_scanned.new.item
    (was_read _ _ _ c.if-not-branch.false c.in_ok-read_scanned.ensures)
