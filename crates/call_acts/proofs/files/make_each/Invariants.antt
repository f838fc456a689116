use Rattle.std.proofs.Common.{◌≡◌, ◌++◌, take}
use Rattle.std.specs.List.{flat_map}
use Rattle.call_acts.specs.Records.{paths, file_of}
use Rattle.call_acts.specs.Files.{bears}
use Rattle.audit_record.specs.declared.types.NameKind.TheVariants.{Create}
use Rattle.call_acts.proofs.files.make_each.Given as goal

-- what the paths of the records so far give was done
abbrev pub invariant-loop-record : goal.invariant-loop-record
invariant-loop-record l = l.done ≡ l.initial.done ++ flat_map (λ item. bears l.call (file_of l.limit l.records item)) (paths Create (take l.record-index l.records))
