-- A stamp by its three numbers, each read up to the byte that ends it.
use Rattle.std.proofs.Common.{◌≡◌, ◌<◌, ◌≤◌, ◌+◌, ◌*◌, ◌^◌, ◌==◌, ◌∙◌, sym, refl, ap, ℕ, Bool, true, false, List, [], ◌∷◌, length, Option, None, Some, if◌then◌else◌, nat_lt, nat_le, option_map, codes, arith, inl, inr, lit<, ◌⊎◌, ◌&&◌}
use Rattle.std.specs.Option.{option_and_then}
use Rattle.std.specs.Str.Parse.{digits_value}
use Rattle.std.proofs.lemmas.Bool.{lt-ltb, le-leb, lt-leb, leb-true, eq-eqb, eqb-true, cases_lt, cases_Bool, both_ways}
use Rattle.std.proofs.Math.Nat.{pow-le-pow_right}
use Rattle.std.proofs.lemmas.Int.Digits.{digits_value-lt}
use Rattle.audit_lex.proofs.NumberLemmas.{all_digits}
use Rattle.audit_lex.proofs.HeaderNumbers.{too_long}
use Rattle.audit_lex.specs.Values.{number_of, are_digits}
use Rattle.audit_lex.specs.Header.{behind, cut_at, number_then, number_to, key_from, key_of, with_key, stamp_serial, stamp_millis, stamp_seconds, stamp_of, serial_when, with_serial, with_millis, with_seconds, seconds_of}

-- a number has at least one digit
some_digit : (most bound : ℕ) (text : List ℕ) → (if nat_le 1 (length text) then number_of 10 most bound text else None) ≡ number_of 10 most bound text
some_digit most bound [] = refl
some_digit most bound (c ∷ text) =
    ap (λ b. if b then number_of 10 most bound (c ∷ text) else None) (le-leb 1 (length (c ∷ text)) (omega arith))

-- by what is tested: a number below the lower bound is the one read below the higher bound, where it fits
serial_cases : (seconds millis n : ℕ) (back : List ℕ) (are some small below fits : Bool) → (are ≡ true → small ≡ true → below ≡ true) → nat_lt n (2 ^ 32) ≡ fits
    → with_key back (key_from (Some seconds) (Some millis) (if are && (some && (small && fits)) then Some n else None))
    ≡ option_and_then (with_serial (seconds * 1000 + millis)) (option_map {U = ℕ × List ℕ} (λ n. (n, back)) (if are && (some && (small && below)) then Some n else None))
serial_cases seconds millis n back true true true true true is test = sym (ap (λ b. serial_when b (seconds * 1000 + millis) (n, back)) test)
serial_cases seconds millis n back true true true true false is test = sym (ap (λ b. serial_when b (seconds * 1000 + millis) (n, back)) test)
serial_cases seconds millis n back true true true false fits is test = absurd (both_ways _ refl (is refl refl))
serial_cases seconds millis n back true true false below fits is test = refl
serial_cases seconds millis n back true false small below fits is test = refl
serial_cases seconds millis n back false some small below fits is test = refl

-- ten digits stay below their power, so only the bound of 32 bits counts
small_fits : (text : List ℕ) → are_digits 10 text ≡ true → nat_le (length text) 10 ≡ true → nat_lt (digits_value 10 text) (10 ^ 10) ≡ true
small_fits text digits few =
    let below = digits_value-lt 10 text (all_digits 10 text digits) in
    let power : 10 ^ length text ≤ 10 ^ 10 = pow-le-pow_right (lit< tt) (leb-true (length text) 10 few) in
    lt-ltb (digits_value 10 text) (10 ^ 10) (omega (arith, below, power))

serial_found : (seconds millis : ℕ) (text back : List ℕ)
    → with_key back (key_from (Some seconds) (Some millis) (number_of 10 10 (2 ^ 32) text))
    ≡ option_and_then (with_serial (seconds * 1000 + millis)) (option_map {U = ℕ × List ℕ} (λ n. (n, back)) (number_of 10 10 (10 ^ 10) text))
serial_found seconds millis text back =
    serial_cases seconds millis (digits_value 10 text) back (are_digits 10 text) (nat_lt 0 (length text)) (nat_le (length text) 10)
    (nat_lt (digits_value 10 text) (10 ^ 10)) (nat_lt (digits_value 10 text) (2 ^ 32)) (small_fits text) refl

-- the key by its serial number, where the other two were found
key_is : (seconds millis serial : List ℕ) (s m : ℕ) → number_of 10 15 (10 ^ 15) seconds ≡ Some s → number_of 10 3 1000 millis ≡ Some m → length millis == 3 ≡ true
    → key_of seconds millis serial ≡ key_from (Some s) (Some m) (number_of 10 10 (2 ^ 32) serial)
key_is seconds millis serial s m is_s is_m three = rw (three, is_s, is_m) refl

-- the serial number, behind two numbers that were found
serial_step : (seconds millis : List ℕ) (s m : ℕ) → number_of 10 15 (10 ^ 15) seconds ≡ Some s → number_of 10 3 1000 millis ≡ Some m → length millis == 3 ≡ true
    → (cut : Option (List ℕ × List ℕ))
    → option_and_then (stamp_serial seconds millis) cut ≡ option_and_then (with_serial (s * 1000 + m)) (option_and_then (number_then 1 10) cut)
serial_step seconds millis s m is_s is_m three None = refl
serial_step seconds millis s m is_s is_m three (Some parts) =
    ap (with_key parts.1) (key_is seconds millis parts.0 s m is_s is_m three)
    ∙ serial_found s m parts.0 parts.1
    ∙ ap (λ found. option_and_then (with_serial (s * 1000 + m)) (option_map {U = ℕ × List ℕ} (λ n. (n, parts.1)) found)) (sym (some_digit 10 (10 ^ 10) parts.0))

-- where there is no key, there is no stamp
no_serial : (seconds millis : List ℕ) → ((serial : List ℕ) → key_of seconds millis serial ≡ None) → (cut : Option (List ℕ × List ℕ))
    → option_and_then (stamp_serial seconds millis) cut ≡ None
no_serial seconds millis none None = refl
no_serial seconds millis none (Some parts) = ap (with_key parts.1) (none parts.0)

no_millis : (seconds : List ℕ) → ((millis serial : List ℕ) → key_of seconds millis serial ≡ None) → (cut : Option (List ℕ × List ℕ))
    → option_and_then (stamp_millis seconds) cut ≡ None
no_millis seconds none None = refl
no_millis seconds none (Some parts) = no_serial seconds parts.0 (none parts.0) (cut_at 41 parts.1)

keyless : (three : Bool) (seconds millis serial : Option ℕ) → (seconds ≡ None) ⊎ ((millis ≡ None) ⊎ (three ≡ false)) → (if three then key_from seconds millis serial else None) ≡ None
keyless false seconds millis serial why = refl
keyless true None millis serial why = refl
keyless true (Some s) None serial why = refl
keyless true (Some s) (Some m) serial (inl none) = cc none
keyless true (Some s) (Some m) serial (inr (inl none)) = cc none
keyless true (Some s) (Some m) serial (inr (inr none)) = cc none

-- no key without seconds, without milliseconds, or where these aren't three digits
no_key : (seconds millis serial : List ℕ) → (number_of 10 15 (10 ^ 15) seconds ≡ None) ⊎ ((number_of 10 3 1000 millis ≡ None) ⊎ ((length millis == 3) ≡ false))
    → key_of seconds millis serial ≡ None
no_key seconds millis serial why = keyless (length millis == 3) (number_of 10 15 (10 ^ 15) seconds) (number_of 10 3 1000 millis) (number_of 10 10 (2 ^ 32) serial) why

either_none : (enough : Bool) {number : Option ℕ} → number ≡ None → (if enough then number else None) ≡ None
either_none true none = none
either_none false none = refl

-- at least three digits of at most three are three
exactly : (text : List ℕ) → (length text == 3) ≡ false → (if nat_le 3 (length text) then number_of 10 3 1000 text else None) ≡ None
exactly text other =
    elim (cases_lt (length text) 3) [
      | inl few ↦ ap (λ b. if b then number_of 10 3 1000 text else None) (lt-leb 3 (length text) few)
      | inr enough ↦
          let more : 3 < length text = elim (cases_lt 3 (length text)) [
            | inl more ↦ more
            | inr over ↦ absurd (both_ways _ other (eq-eqb (length text) 3 (omega (arith, enough, over))))
          ] in
          let none = too_long (are_digits 10 text) (nat_lt 0 (length text)) (nat_le (length text) 3) (nat_lt (digits_value 10 text) 1000) (digits_value 10 text) (lt-leb (length text) 3 more) in
          either_none (nat_le 3 (length text)) none
    ]

millis_found : (seconds : List ℕ) (s : ℕ) → number_of 10 15 (10 ^ 15) seconds ≡ Some s → (millis back : List ℕ) → (length millis == 3) ≡ true
    → (found : Option ℕ) → number_of 10 3 1000 millis ≡ found
    → option_and_then (stamp_serial seconds millis) (cut_at 41 back) ≡ option_and_then (with_millis s) (option_map {U = ℕ × List ℕ} (λ n. (n, back)) found)
millis_found seconds s is_s millis back three None none = no_serial seconds millis (λ serial. no_key seconds millis serial (inr (inl none))) (cut_at 41 back)
millis_found seconds s is_s millis back three (Some m) is_m = serial_step seconds millis s m is_s is_m three (cut_at 41 back)

enough_is : (text : List ℕ) → (length text == 3) ≡ true → (if nat_le 3 (length text) then number_of 10 3 1000 text else None) ≡ number_of 10 3 1000 text
enough_is text three =
    ap (λ b. if b then number_of 10 3 1000 text else None) (le-leb 3 (length text) (omega (arith, eqb-true (length text) 3 three)))

-- the milliseconds, behind seconds that were found
millis_step : (seconds : List ℕ) (s : ℕ) → number_of 10 15 (10 ^ 15) seconds ≡ Some s → (cut : Option (List ℕ × List ℕ))
    → option_and_then (stamp_millis seconds) cut ≡ option_and_then (with_millis s) (option_and_then (number_then 3 3) cut)
millis_step seconds s is_s None = refl
millis_step seconds s is_s (Some parts) =
    let after = λ (found : Option ℕ). option_and_then (with_millis s) (option_map {U = ℕ × List ℕ} (λ n. (n, parts.1)) found) in
    elim (cases_Bool (length parts.0 == 3)) [
      | inl three ↦ millis_found seconds s is_s parts.0 parts.1 three (number_of 10 3 1000 parts.0) refl ∙ ap after (sym (enough_is parts.0 three))
      | inr other ↦ no_serial seconds parts.0 (λ serial. no_key seconds parts.0 serial (inr (inr other))) (cut_at 41 parts.1) ∙ ap after (sym (exactly parts.0 other))
    ]

seconds_found : (seconds back : List ℕ) (found : Option ℕ) → number_of 10 15 (10 ^ 15) seconds ≡ found
    → option_and_then (stamp_millis seconds) (cut_at 58 back) ≡ option_and_then with_seconds (option_map {U = ℕ × List ℕ} (λ n. (n, back)) found)
seconds_found seconds back None none = no_millis seconds (λ millis serial. no_key seconds millis serial (inl none)) (cut_at 58 back)
seconds_found seconds back (Some s) is = millis_step seconds s is (cut_at 58 back)

seconds_step : (cut : Option (List ℕ × List ℕ)) → option_and_then stamp_seconds cut ≡ option_and_then with_seconds (option_and_then (number_then 1 15) cut)
seconds_step None = refl
seconds_step (Some parts) =
    seconds_found parts.0 parts.1 (number_of 10 15 (10 ^ 15) parts.0) refl
    ∙ ap (λ (found : Option ℕ). option_and_then with_seconds (option_map {U = ℕ × List ℕ} (λ n. (n, parts.1)) found)) (sym (some_digit 15 (10 ^ 15) parts.0))

in_bracket : (rest : Option (List ℕ)) → option_and_then stamp_seconds (option_and_then (cut_at 46) rest) ≡ option_and_then with_seconds (option_and_then (number_to 46 1 15) rest)
in_bracket None = refl
in_bracket (Some rest) = seconds_step (cut_at 46 rest)

-- a stamp is three numbers in a row, of which the last fits 32 bits
pub stamp_by_numbers : (text : List ℕ) → stamp_of text ≡ option_and_then with_seconds (seconds_of text)
stamp_by_numbers text = in_bracket (behind (codes "msg=audit(") text)
