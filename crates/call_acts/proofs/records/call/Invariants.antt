use Rattle.std.proofs.Common.{◌≡◌, drop}
use Rattle.call_acts.specs.Records.{first_of, call_in}
use Rattle.call_acts.proofs.records.call.Given as goal

-- no record so far says anything
abbrev pub invariant-loop-record : goal.invariant-loop-record
invariant-loop-record l = first_of call_in l.records ≡ first_of call_in (drop l.record-index l.records)
