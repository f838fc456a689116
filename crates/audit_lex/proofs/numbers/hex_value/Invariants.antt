use Rattle.std.proofs.Common.{◌≡◌, ◌<◌, ◌^◌, take, drop}
use Rattle.std.specs.Str.Parse.{digits_value}
use Rattle.audit_lex.specs.Values.{are_digits}
use Rattle.audit_lex.proofs.numbers.hex_value.Given as goal

-- the digits so far have this value, and the rest decides whether all are digits
abbrev pub invariant-loop-byte : goal.invariant-loop-byte
invariant-loop-byte l = record {
  value : l.value ≡ digits_value 16 (take l.byte-index l.text);
  small : l.value < 16 ^ l.byte-index;
  rest : are_digits 16 l.text ≡ are_digits 16 (drop l.byte-index l.text);
}
