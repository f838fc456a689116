use Rattle.std.proofs.Common.{◌≡◌, ◌++◌, take}
use Rattle.std.specs.List.{flat_map}
use Rattle.call_acts.specs.Records.{paths}
use Rattle.call_acts.specs.Files.{alters_file}
use Rattle.call_acts.proofs.files.alter_each.Given as goal

-- what the paths of the records so far give was done
abbrev pub invariant-loop-record : goal.invariant-loop-record
invariant-loop-record l = l.done ≡ l.initial.done ++ flat_map (alters_file l.limit l.records l.call) (paths l.kind (take l.record-index l.records))
