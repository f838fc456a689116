-- Decimal numbers.
use Rattle.std.proofs.Common.{◌≡◌, ◌^◌, ◌&&◌, ℕ, List, Bool, true, false, None, Some, length, refl, rules, if◌then◌else◌, nat_lt}
use Rattle.std.specs.List.{list_all}
use Rattle.std.specs.Char.{is_ascii_digit}
use Rattle.std.specs.Str.Parse.{digits_value, ParsesUnsigned}
use Rattle.std.specs.Prelude.{Err}
use Rattle.std.proofs.lemmas.Str.Parse.{IsNumeralModel, numerals_by_value, parse_digits}
use borrow.Author.Tests.{ltb-true}
use Rattle.audit_cli.specs.Words.{number_of}

-- the test of decimal digits is std's
own : IsNumeralModel (λ ds. list_all is_ascii_digit ds ≡ true) (digits_value 10)
own = numerals_by_value _ (search rules)

not_all : {A : Type 0} (x : A) (a b c : Bool) → (b ≡ true → c ≡ true → ⊥) → None ≡ (if a && (b && c) then Some x else None)
not_all x false b c both = refl
not_all x true false c both = refl
not_all x true true false both = refl
not_all x true true true both = absurd (both refl refl)

-- digits that std's parse refuses spell no number of so many bits
pub refused : {E : Type 0} (bits : ℕ) (text : List ℕ) (fault : E) → list_all is_ascii_digit text ≡ true → ParsesUnsigned bits 10 text (Err fault) → None ≡ number_of bits text
refused bits text fault digits parsed =
    let wrong = parse_digits own bits text (Err fault) parsed digits in
    not_all _ (list_all is_ascii_digit text) (nat_lt 0 (length text)) (nat_lt (digits_value 10 text) (2 ^ bits))
    (λ some small. wrong (ltb-true _ _ some, ltb-true _ _ small))
