-- One more digit of a number.
use Rattle.std.proofs.Common.{◌≡◌, ℕ, ◌+◌, ◌-◌, ◌*◌, ◌<◌, ◌≤◌, ◌^◌, List, [], ◌∷◌, length, get_or, take, true, ◌&&◌, refl, ap, arith, ◌∙◌}
use Rattle.std.specs.List.{list_all}
use Rattle.std.specs.Char.{is_ascii_digit}
use Rattle.std.specs.Str.{all_ascii_digits}
use Rattle.std.specs.Str.Parse.{AllDigits, digits_value}
use Rattle.std.proofs.lemmas.Str.{digit_value_digit}
use Rattle.std.proofs.lemmas.Str.Parse.{IsNumeralModel, numerals_by_value, tells_all_ascii_digits, digit_at, digits_value_short, digits_value-take-le}
use Rattle.std.proofs.lemmas.Int.Digits.{digits_value_more}

own : IsNumeralModel (λ ds. all_ascii_digits ds ≡ true) (digits_value 10)
own = numerals_by_value _ tells_all_ascii_digits

pub record DigitStep (text : List ℕ) (i : ℕ) : Type 0 where
  pub low : 48 ≤ get_or text i 0
  pub high : get_or text i 0 ≤ 57
  pub value : digits_value 10 (take (i + 1) text) ≡ 10 * digits_value 10 (take i text) + (get_or text i 0 - 48)
  pub fits : digits_value 10 (take (i + 1) text) < 10 ^ 15

all_digits : (text : List ℕ) → list_all is_ascii_digit text ≡ all_ascii_digits text
all_digits [] = refl
all_digits (b ∷ bs) = ap (λ t. is_ascii_digit b && t) (all_digits bs)

pub digit_step : (text : List ℕ) (i : ℕ) → list_all is_ascii_digit text ≡ true → length text ≤ 15 → i < length text → DigitStep text i
digit_step text i passes few within =
    let digits = rw all_digits at passes in
    let digit = digit_at text i (own.to text digits) within in
    let same = digit_value_digit (get_or text i 0) digit in
    record {
      low = digit.0;
      high = digit.1;
      value = omega (arith, digits_value_more 10 text i within, same);
      fits = omega (arith, digits_value-take-le 10 text (i + 1) (omega arith), digits_value_short own text 15 digits few);
    }

-- what passes the test are digits, and digits pass it
pub digits_are : (text : List ℕ) → list_all is_ascii_digit text ≡ true → AllDigits 10 text
digits_are text passes = let digits = rw all_digits at passes in own.to text digits

pub digits_pass : (text : List ℕ) → AllDigits 10 text → list_all is_ascii_digit text ≡ true
digits_pass text digits = all_digits text ∙ own.from text digits

-- up to fifteen digits spell a small number
pub few_are_small : (text : List ℕ) → list_all is_ascii_digit text ≡ true → length text ≤ 15 → digits_value 10 text < 10 ^ 15
few_are_small text passes few = let digits = rw all_digits at passes in digits_value_short own text 15 digits few
