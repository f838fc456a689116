use Rattle.std.proofs.Common.{◌≡◌, take}
use Rattle.ingest.specs.WaitingRows.{lines_in}
use Rattle.ingest.proofs.waiting_rows.lines_of.Given as goal

-- the lines of the records so far
abbrev pub invariant-loop-record : goal.invariant-loop-record
invariant-loop-record l = l.lines ≡ lines_in (take l.record-index l.records)
