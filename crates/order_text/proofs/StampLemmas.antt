-- What spells a time or a serial number has only digits and dots.
use Rattle.std.proofs.Common.{◌≡◌, ◌^◌, ◌==◌, ◌&&◌, ◌∙◌, refl, ap, ℕ, Bool, true, false, List, [], ◌∷◌, ◌++◌, length, Option, None, Some, nat_le, if◌then◌else◌}
use Rattle.std.specs.List.{list_all}
use Rattle.std.specs.Char.{is_digit}
use Rattle.std.specs.Option.{option_and_then}
use Rattle.std.specs.Str.Parse.{digits_value}
use Rattle.std.proofs.lemmas.Bool.{and_parts, ltb-true, le-leb}
use Rattle.std.proofs.lemmas.Str.Parse.{digit_from_value}
use Rattle.audit_lex.specs.Values.{are_digits, number_of as value_of, dec32_of, dec64_of}
use Rattle.order_text.specs.Cut.{Parts, first_cut}
use Rattle.order_text.specs.Stamp.{is_stamp_byte, ms_from, ms_of, time_of, number_of}
use Rattle.order_text.proofs.CutLemmas.{is_cut}
use Rattle.order_text.proofs.MarkLemmas.{tested, both}

digit_byte : (b : ℕ) → is_digit b 10 ≡ true → is_stamp_byte b ≡ true
digit_byte b is =
    let range = digit_from_value b (ltb-true _ _ is) in
    rw (le-leb 48 b range.0, le-leb b 57 range.1) refl

digits_bytes : (text : List ℕ) → are_digits 10 text ≡ true → list_all is_stamp_byte text ≡ true
digits_bytes [] all = refl
digits_bytes (b ∷ text) all =
    let parts = and_parts (is_digit b 10) (are_digits 10 text) all in
    both (is_stamp_byte b) (list_all is_stamp_byte text) (digit_byte b parts.0) (digits_bytes text parts.1)

-- what spells a number has only digits
spelled : (most bound : ℕ) (text : List ℕ) (n : ℕ) → value_of 10 most bound text ≡ Some n → list_all is_stamp_byte text ≡ true
spelled most bound text n e =
    digits_bytes text (and_parts _ _ (tested _ (Some (digits_value 10 text)) n e).0).0

-- two texts of such bytes with a dot between are one
with_dot : (front back : List ℕ) → list_all is_stamp_byte front ≡ true → list_all is_stamp_byte back ≡ true
    → list_all is_stamp_byte (front ++ 46 ∷ back) ≡ true
with_dot [] back fronts backs = backs
with_dot (b ∷ front) back fronts backs =
    let parts = and_parts (is_stamp_byte b) (list_all is_stamp_byte front) fronts in
    both (is_stamp_byte b) (list_all is_stamp_byte (front ++ 46 ∷ back)) parts.0 (with_dot front back parts.1 backs)

from_numbers : (seconds millis : Option ℕ) (front back : List ℕ) (ms : ℕ) → dec64_of front ≡ seconds → dec32_of back ≡ millis
    → ms_from seconds millis ≡ Some ms → list_all is_stamp_byte (front ++ 46 ∷ back) ≡ true
from_numbers (Some seconds) (Some millis) front back ms one two e =
    with_dot front back (spelled 20 (2 ^ 64) front seconds one) (spelled 10 (2 ^ 32) back millis two)
from_numbers (Some seconds) None front back ms one two e = absurd (cc e)
from_numbers None millis front back ms one two e = absurd (cc e)

-- what is cut into texts of which milliseconds come has only digits and dots
cut_bytes : (text : List ℕ) (cut : Option Parts) (ms : ℕ) → first_cut 46 text ≡ cut → option_and_then ms_of cut ≡ Some ms
    → list_all is_stamp_byte text ≡ true
cut_bytes text None ms cut_is e = absurd (cc e)
cut_bytes text (Some (front, back)) ms cut_is e =
    let made = (tested (nat_le (length front) 15 && length back == 3) (ms_from (dec64_of front) (dec32_of back)) ms e).1 in
    ap (list_all is_stamp_byte) (is_cut 46 text front back cut_is).whole
    ∙ from_numbers (dec64_of front) (dec32_of back) front back ms refl refl made

-- a test that passes wherever something is there changes nothing
same_passed : {A : Type 0} (test : Bool) (x : Option A) → ((y : A) → x ≡ Some y → test ≡ true) → x ≡ (if test then x else None)
same_passed true x passes = refl
same_passed false None passes = refl
same_passed false (Some y) passes = absurd (cc (passes y refl))

pub time_spelled : (text : List ℕ) → option_and_then ms_of (first_cut 46 text) ≡ time_of text
time_spelled text =
    same_passed (list_all is_stamp_byte text) (option_and_then ms_of (first_cut 46 text)) (λ ms e. cut_bytes text (first_cut 46 text) ms refl e)

pub number_spelled : (text : List ℕ) → dec32_of text ≡ number_of text
number_spelled text = same_passed (list_all is_stamp_byte text) (dec32_of text) (λ n e. spelled 10 (2 ^ 32) text n e)
