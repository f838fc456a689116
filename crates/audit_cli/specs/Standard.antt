-- The limits of the program.
use Rattle.std.specs.Prelude.{◌≡◌, ◌^◌}
use Rattle.flow_base.specs.declared.limits.Limits.{Limits}

-- the numbers with which the program runs
pub record IsStandard (limits : Limits) : Type 0 where
  pub line : limits.line ≡ 65536
  pub groups : limits.groups ≡ 4096
  pub text : limits.text ≡ 16777216
  pub records : limits.records ≡ 512
  pub input : limits.input ≡ 2 ^ 60
  pub entities : limits.entities ≡ 10000000
  pub flows : limits.flows ≡ 2 ^ 48
  pub payload : limits.payload ≡ 2 ^ 30
  pub store : limits.store ≡ 2 ^ 50
  pub batch : limits.batch ≡ 4194304
  pub question : limits.question ≡ 4096
  pub shown : limits.shown ≡ 100
  pub names : limits.names ≡ 16
  pub path : limits.path ≡ 4096

-- the claim holds with these limits
abbrev pub WithStandard : (Limits → Type 0) → Type 0
WithStandard claim = (limits : Limits) × IsStandard limits × claim limits
