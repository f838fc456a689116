use Rattle.std.proofs.Common.{◌≡◌, take, None}
use Rattle.std.specs.Prelude.{option_map}
use Rattle.std.specs.List.{last_or}
use Rattle.audit_record.specs.declared.types.NameKind.TheVariants.{Create, Normal, Unknown}
use Rattle.call_acts.specs.Records.{paths}
use Rattle.call_acts.proofs.records.target.Given as goal

-- the last path of each kind among the records so far
abbrev pub invariant-loop-record : goal.invariant-loop-record
invariant-loop-record l =
    (option_map (λ p. p.now) l.created ≡ last_or None (paths Create (take l.record-index l.records)))
    × (option_map (λ p. p.now) l.normal ≡ last_or None (paths Normal (take l.record-index l.records)))
    × (option_map (λ p. p.now) l.unknown ≡ last_or None (paths Unknown (take l.record-index l.records)))
