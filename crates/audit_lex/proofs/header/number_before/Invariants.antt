use Rattle.std.proofs.Common.{◌≡◌, ◌<◌, ◌^◌, ℕ, get_or, take, true}
use Rattle.std.specs.Char.{digit_value}
use Rattle.std.specs.Str.Parse.{digits_value}
use Rattle.audit_lex.specs.Values.{are_digits}
use Rattle.audit_lex.proofs.header.number_before.Given as goal

-- only digits so far, and this is their value
abbrev pub invariant-loop-place : goal.invariant-loop-place
invariant-loop-place l = record {
  value : l.value ≡ digits_value 10 (take l.place l.text);
  small : l.value < 16 ^ l.place;
  digits : (k : ℕ) → k < l.place → digit_value (get_or l.text k 0) < 10;
  whole : are_digits 10 (take l.place l.text) ≡ true;
}
