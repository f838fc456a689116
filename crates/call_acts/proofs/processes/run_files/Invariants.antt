use Rattle.std.proofs.Common.{◌≡◌, ◌++◌, take}
use Rattle.std.specs.List.{flat_map}
use Rattle.call_acts.specs.Records.{paths}
use Rattle.call_acts.specs.Processes.{runs_file}
use Rattle.audit_record.specs.declared.types.NameKind.TheVariants.{Normal}
use Rattle.call_acts.proofs.processes.run_files.Given as goal

-- what the paths of the records so far give was done
abbrev pub invariant-loop-record : goal.invariant-loop-record
invariant-loop-record l = l.done ≡ l.initial.done ++ flat_map (runs_file l.limit l.records l.call) (paths Normal (take l.record-index l.records))
