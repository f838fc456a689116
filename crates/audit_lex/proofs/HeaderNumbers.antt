-- A number up to a byte that ends it.
use Rattle.std.proofs.Common.{◌≡◌, ◌<◌, ◌≤◌, ◌+◌, ◌^◌, ◌∙◌, refl, ap, subst, ℕ, Bool, true, false, List, length, take, drop, get_or, Option, None, Some, if◌then◌else◌, nat_lt, nat_le, option_map, arith, inl, inr, lit<, ◌⊎◌, ◌≢◌, ◌&&◌}
use Rattle.std.specs.List.{position_or_len}
use Rattle.std.specs.Option.{option_and_then}
use Rattle.std.specs.Char.{is_digit, digit_value}
use Rattle.std.specs.Str.Parse.{digits_value}
use Rattle.std.proofs.lemmas.Bool.{cond-true, cond-false, lt-ltb, le-ltb, le-leb, lt-leb, eqb-true, eq-eqb, cases_lt, both_ways}
use Rattle.std.proofs.lemmas.List.{length-take-le, get_or-take}
use Rattle.std.proofs.lemmas.List.Folds.{list_all_at}
use Rattle.std.proofs.lemmas.List.Sums.{passes_at_first, fails_before_first}
use Rattle.std.proofs.lemmas.List.Folds.{list_all_more}
use Rattle.std.proofs.Math.Nat.{pow-le-pow_right}
use Rattle.std.proofs.lemmas.Int.Digits.{digits_value-lt}
use Rattle.audit_lex.proofs.NumberLemmas.{all_digits, digit_at}
use Rattle.memchr.specs.Find.{is_byte}
use Rattle.audit_lex.specs.Values.{number_of, are_digits}
use Rattle.audit_lex.specs.Header.{cut_at, number_then, number_to}

-- a text is cut where the byte stands first
pub cut_when : (byte : ℕ) (text : List ℕ) (place : ℕ) → position_or_len (is_byte byte) text ≡ place → place < length text
    → cut_at byte text ≡ Some (take place text, drop (place + 1) text)
cut_when byte text place is within =
    rw is (cond-true (nat_lt place (length text)) (Some (take place text, drop (place + 1) text)) None (lt-ltb place (length text) within))

-- and isn't where there is none
pub cut_none : (byte : ℕ) (text : List ℕ) → length text ≤ position_or_len (is_byte byte) text → cut_at byte text ≡ None
cut_none byte text over =
    let place = position_or_len (is_byte byte) text in
    cond-false (nat_lt place (length text)) (Some (take place text, drop (place + 1) text)) None (le-ltb place (length text) over)

no_number : (enough : Bool) (back : List ℕ) (number : Option ℕ) → number ≡ None → option_map {U = ℕ × List ℕ} (λ n. (n, back)) (if enough then number else None) ≡ None
no_number true back number none = ap (option_map {U = ℕ × List ℕ} (λ n. (n, back))) none
no_number false back number none = refl

-- where the part before the byte is no number, none is read
pub unread : (byte least most : ℕ) (text : List ℕ)
    → (position_or_len (is_byte byte) text < length text → number_of 10 most (10 ^ most) (take (position_or_len (is_byte byte) text) text) ≡ None)
    → number_to byte least most text ≡ None
unread byte least most text none =
    let place = position_or_len (is_byte byte) text in
    elim (cases_lt place (length text)) [
      | inl within ↦ ap (option_and_then (number_then least most)) (cut_when byte text place refl within)
          ∙ no_number (nat_le least (length (take place text))) (drop (place + 1) text) (number_of 10 most (10 ^ most) (take place text)) (none within)
      | inr over ↦ ap (option_and_then (number_then least most)) (cut_none byte text over)
    ]

-- a byte that is no digit spoils the part that it stands in
pub spoiled : (most : ℕ) (text : List ℕ) (end place : ℕ) → place < end → end ≤ length text → is_digit (get_or text place 0) 10 ≡ false
    → number_of 10 most (10 ^ most) (take end text) ≡ None
spoiled most text end place before within fails =
    let there : is_digit (get_or (take end text) place 0) 10 ≡ false = ap (λ b. is_digit b 10) (get_or-take end text place 0 before) ∙ fails in
    let short : place < length (take end text) = omega (arith, length-take-le end text within, before) in
    rw (list_all_at (λ c. is_digit c 10) (take end text) place 0 short there) refl

-- a byte that is no digit stands behind the digits
pub not_before : (byte : ℕ) (text : List ℕ) (place : ℕ) → digit_value byte ≡ 36 → place ≤ length text
    → ((k : ℕ) → k < place → digit_value (get_or text k 0) < 10) → place ≤ position_or_len (is_byte byte) text
not_before byte text place is within digits =
    let first = position_or_len (is_byte byte) text in
    elim (cases_lt first place) [
      | inl before ↦
          let there : get_or text first 0 ≡ byte = eqb-true _ _ (passes_at_first (is_byte byte) text 0 (omega (arith, before, within))) in
          absurd (omega (arith, digits first before, ap digit_value there, is))
      | inr over ↦ over
    ]

-- a text that is too long is no number
pub too_long : (are some small fits : Bool) (n : ℕ) → small ≡ false → (if are && (some && (small && fits)) then Some n else None) ≡ None
too_long true true true fits n is = cc is
too_long true true false fits n is = refl
too_long true false small fits n is = refl
too_long false some small fits n is = refl

-- more digits than the most are no number
pub overlong : (byte least most : ℕ) (text : List ℕ) → most < position_or_len (is_byte byte) text → number_to byte least most text ≡ None
overlong byte least most text more =
    let place = position_or_len (is_byte byte) text in
    let front = take place text in
    unread byte least most text (λ within.
    let long : most < length front = omega (arith, length-take-le place text (omega (arith, within)), more) in
    too_long (are_digits 10 front) (nat_lt 0 (length front)) (nat_le (length front) most) (nat_lt (digits_value 10 front) (10 ^ most)) (digits_value 10 front) (lt-leb (length front) most long))

no_room : (enough : Bool) (back : List ℕ) (number : Option ℕ) → enough ≡ false → option_map {U = ℕ × List ℕ} (λ n. (n, back)) (if enough then number else None) ≡ None
no_room true back number is = cc is
no_room false back number is = refl

-- what isn't a digit stops the reading, unless it is the byte behind enough of them
pub stopped : (byte least most : ℕ) (text : List ℕ) (place : ℕ) → place < length text → place ≤ position_or_len (is_byte byte) text
    → is_digit (get_or text place 0) 10 ≡ false → (get_or text place 0 ≢ byte) ⊎ ((get_or text place 0 ≡ byte) × (place < least)) → number_to byte least most text ≡ None
stopped byte least most text place inside low fails why =
    let first = position_or_len (is_byte byte) text in
    elim (cases_lt place first) [
      | inl before ↦ unread byte least most text (λ within. spoiled most text first place before (omega (arith, within)) fails)
      | inr over ↦
          let here : first ≡ place = omega (arith, low, over) in
          elim why [
            | inl other ↦ absurd (other (eqb-true _ _ (subst (λ k. is_byte byte (get_or text k 0) ≡ true) here (passes_at_first (is_byte byte) text 0 (omega (arith, here, inside))))))
            | inr few ↦
                let short : length (take place text) < least = omega (arith, few.1, length-take-le place text (omega (arith, inside))) in
                ap (option_and_then (number_then least most)) (cut_when byte text place here inside)
                ∙ no_room (nat_le least (length (take place text))) (drop (place + 1) text) (number_of 10 most (10 ^ most) (take place text)) (lt-leb least (length (take place text)) short)
          ]
    ]

-- one more digit
pub one_more : (text : List ℕ) (place : ℕ) → digit_value (get_or text place 0) < 10 → ((k : ℕ) → k < place → digit_value (get_or text k 0) < 10)
    → (k : ℕ) → k < place + 1 → digit_value (get_or text k 0) < 10
one_more text place below digits k before =
    elim (cases_lt k place) [
      | inl less ↦ digits k less
      | inr over ↦ let same : place ≡ k = omega (arith, before, over) in subst (λ j. digit_value (get_or text j 0) < 10) same below
    ]

pub whole_more : (text : List ℕ) (place : ℕ) → place < length text → digit_value (get_or text place 0) < 10 → are_digits 10 (take place text) ≡ true
    → are_digits 10 (take (place + 1) text) ≡ true
whole_more text place within below whole =
    list_all_more (λ c. is_digit c 10) text place 0 within ∙ ap (λ b. b && is_digit (get_or text place 0) 10) whole ∙ lt-ltb (digit_value (get_or text place 0)) 10 below

number_is : (are some small fits : Bool) (n : ℕ) → are ≡ true → some ≡ true → small ≡ true → fits ≡ true
    → (if are && (some && (small && fits)) then Some n else None) ≡ Some n
number_is are some small fits n a b c d = rw (a, b, c, d) refl

taken : (enough : Bool) (back : List ℕ) (number : Option ℕ) (n : ℕ) → enough ≡ true → number ≡ Some n
    → option_map {U = ℕ × List ℕ} (λ n. (n, back)) (if enough then number else None) ≡ Some (n, back)
taken true back number n is found = ap (option_map {U = ℕ × List ℕ} (λ n. (n, back))) found
taken false back number n is found = cc is

-- the number before the byte at this place
pub found : (byte least most : ℕ) (text : List ℕ) (place : ℕ) → place < length text → place ≤ position_or_len (is_byte byte) text
    → get_or text place 0 ≡ byte → least ≤ place → 1 ≤ place → place ≤ most → are_digits 10 (take place text) ≡ true
    → number_to byte least most text ≡ Some (digits_value 10 (take place text), drop (place + 1) text)
found byte least most text place inside low here enough some few digits =
    let first = position_or_len (is_byte byte) text in
    let front = take place text in
    let high : first ≤ place = elim (cases_lt place first) [
      | inl before ↦ absurd (both_ways _ (fails_before_first (is_byte byte) text place 0 before) (eq-eqb _ _ here))
      | inr over ↦ over
    ] in
    let is : first ≡ place = omega (arith, low, high) in
    let len = length-take-le place text (omega (arith, inside)) in
    let below = digits_value-lt 10 front (all_digits 10 front digits) in
    let power : 10 ^ length front ≤ 10 ^ most = pow-le-pow_right (lit< tt) (omega (arith, len, few)) in
    let number = number_is (are_digits 10 front) (nat_lt 0 (length front)) (nat_le (length front) most) (nat_lt (digits_value 10 front) (10 ^ most)) (digits_value 10 front)
    digits (lt-ltb 0 (length front) (omega (arith, len, some))) (le-leb (length front) most (omega (arith, len, few)))
    (lt-ltb (digits_value 10 front) (10 ^ most) (omega (arith, below, power))) in
    ap (option_and_then (number_then least most)) (cut_when byte text place is inside)
    ∙ taken (nat_le least (length front)) (drop (place + 1) text) (number_of 10 most (10 ^ most) front) (digits_value 10 front) (le-leb least (length front) (omega (arith, len, enough))) number

-- so many digits stay below the power
pub below_power : (text : List ℕ) (place most : ℕ) → place ≤ length text → place ≤ most → are_digits 10 (take place text) ≡ true → digits_value 10 (take place text) < 10 ^ most
below_power text place most within few digits =
    let front = take place text in
    let below = digits_value-lt 10 front (all_digits 10 front digits) in
    let len = length-take-le place text within in
    let power : 10 ^ length front ≤ 10 ^ most = pow-le-pow_right (lit< tt) (omega (arith, len, few)) in
    omega (arith, below, power)

-- digits at the front are digits one by one
pub digits_in_front : (text : List ℕ) (place : ℕ) → place ≤ length text → are_digits 10 (take place text) ≡ true → (k : ℕ) → k < place → digit_value (get_or text k 0) < 10
digits_in_front text place within whole k below =
    let digit = digit_at 10 (take place text) k whole (omega (arith, below, length-take-le place text within)) in
    omega (arith, digit, ap digit_value (get_or-take place text k 0 below))

-- a value that was read is that of digits
pub valued : (text : List ℕ) (value : ℕ) → Some value ≡ (if are_digits 10 text then Some (digits_value 10 text) else None) → (are_digits 10 text ≡ true) × (value ≡ digits_value 10 text)
valued text value is = by (are_digits 10 text) is
  where
    by : (b : Bool) → Some value ≡ (if b then Some (digits_value 10 text) else None) → (b ≡ true) × (value ≡ digits_value 10 text)
    by true e = (refl, cc e)
    by false e = absurd (cc e)
