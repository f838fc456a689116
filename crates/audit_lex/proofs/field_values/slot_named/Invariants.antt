use Rattle.std.proofs.Common.{◌≡◌, ◌≢◌, ◌<◌, length, get_or}
use Rattle.audit_lex.specs.Tokens.{field_of}
use Rattle.audit_lex.proofs.field_values.slot_named.Given as goal

-- what the rest has is what the raw part has
abbrev pub invariant-loop-rest : goal.invariant-loop-rest
invariant-loop-rest l = record {
  begins : 0 < length l.rest → get_or l.rest 0 0 ≢ 32;
  rest : field_of l.raw l.name ≡ field_of l.rest l.name;
}

abbrev pub decreases-loop-rest : goal.decreases-loop-rest
decreases-loop-rest l = length l.rest
