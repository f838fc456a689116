-- A text that begins with the bytes of another one's stamp has the same stamp.
use Rattle.std.proofs.Common.{◌≡◌, ◌+◌, ◌*◌, ◌≤◌, ◌^◌, ◌∙◌, refl, sym, ap, ap₂, ℕ, List, [], ◌∷◌, ◌++◌, length, take, drop, Option, Some, None, codes, arith, append_assoc, length-append, nat_lt, nat_le, option_map, if◌then◌else◌}
use Rattle.std.specs.Option.{option_and_then}
use Rattle.std.proofs.Math.Seq.{take-append_seam, drop-append-add}
use Rattle.std.proofs.lemmas.List.{take-append-drop, length-drop}
use Rattle.audit_lex.proofs.HeaderLaws.{stamp_is, stamp_written, cut_here, cut_is, and_then_some, behind_is, chosen_some}
use Rattle.audit_lex.specs.Values.{number_of}
use Rattle.audit_lex.specs.Header.{behind, cut_at, number_then, number_to, seconds_of, stamp_of, with_serial, with_millis, with_seconds}
use Rattle.audit_lex.specs.Written.{HasNo}
use Rattle.audit_lex.specs.declared.header.EventKey.{EventKey}

-- a stamp of these three numbers
abbrev written : List ℕ → List ℕ → List ℕ → List ℕ
written seconds millis serial = codes "msg=audit(" ++ (seconds ++ 46 ∷ (millis ++ 58 ∷ (serial ++ 41 ∷ [])))

joined : (seconds millis serial rest : List ℕ)
    → codes "msg=audit(" ++ (seconds ++ 46 ∷ (millis ++ 58 ∷ (serial ++ 41 ∷ rest))) ≡ written seconds millis serial ++ rest
joined seconds millis serial rest = simp append_assoc

-- the bytes before the rest are as many as come before it
front_is : (front rest text : List ℕ) (n : ℕ) → text ≡ front ++ rest → rest ≡ drop n text → n ≤ length text → take n text ≡ front
front_is front rest text n whole is within =
    let all : length text ≡ length front + length rest = ap length whole ∙ length-append front rest in
    let back : length rest + n ≡ length text = omega (arith, ap length is, length-drop n text) in
    let len : n ≡ length front = omega (arith, all, back) in
    ap₂ take len whole ∙ take-append_seam front rest

pub same_stamp : (text other : List ℕ) (n : ℕ) (key : EventKey) → n ≤ length text → stamp_of text ≡ Some (key, drop n text) → take n other ≡ take n text
    → stamp_of other ≡ Some (key, drop n other)
same_stamp text other n key within is alike =
    let w = stamp_written text key (drop n text) is in
    let front = written w.seconds w.millis w.serial in
    let begins : take n other ≡ front = alike ∙ front_is front (drop n text) text n (w.whole ∙ joined w.seconds w.millis w.serial (drop n text)) refl within in
    let whole : other ≡ front ++ drop n other = sym (take-append-drop n other) ∙ ap (λ t. t ++ drop n other) begins in
    ap stamp_of (whole ∙ sym (joined w.seconds w.millis w.serial (drop n other))) ∙ stamp_is w.seconds w.millis w.serial (drop n other) key w.is_key

-- the rest after a stamp is what stands behind it
pub rest_is : (text rest : List ℕ) (n : ℕ) (key : EventKey) → stamp_of text ≡ Some (key, rest) → n + length rest ≡ length text → rest ≡ drop n text
rest_is text rest n key is len =
    let w = stamp_written text key rest is in
    let front = written w.seconds w.millis w.serial in
    let whole : text ≡ front ++ rest = w.whole ∙ joined w.seconds w.millis w.serial rest in
    let all : length text ≡ length front + length rest = ap length whole ∙ length-append front rest in
    let at : length front + 0 ≡ n = omega (arith, all, len) in
    sym (drop-append-add front rest 0) ∙ ap₂ drop at (sym whole)

pub rest_within : (text rest : List ℕ) (key : EventKey) → stamp_of text ≡ Some (key, rest) → length rest ≤ length text
rest_within text rest key is =
    let w = stamp_written text key rest is in
    let front = written w.seconds w.millis w.serial in
    let all = ap length (w.whole ∙ joined w.seconds w.millis w.serial rest) ∙ length-append front rest in
    omega (arith, all)

-- how a number is written with the byte that ends it
pub record NumberWritten (byte least most n : ℕ) (text rest : List ℕ) : Type 0 where
  pub digits : List ℕ
  pub none : HasNo byte digits
  pub value : (if nat_le least (length digits) then number_of 10 most (10 ^ most) digits else None) ≡ Some n
  pub whole : text ≡ digits ++ byte ∷ rest

mapped_some : (n : ℕ) (rest back : List ℕ) (made : Option ℕ) → option_map {U = ℕ × List ℕ} (λ n. (n, back)) made ≡ Some (n, rest) → (made ≡ Some n) × (back ≡ rest)
mapped_some n rest back None is = cc is
mapped_some n rest back (Some k) is =
    let pair : (k, back) ≡ (n, rest) = cc is in
    (ap (λ (p : ℕ × List ℕ). Some p.0) pair, ap (λ (p : ℕ × List ℕ). p.1) pair)

number_written : (byte least most n : ℕ) (text rest : List ℕ) → number_to byte least most text ≡ Some (n, rest) → NumberWritten byte least most n text rest
number_written byte least most n text rest is =
    let cut = and_then_some (number_then least most) (cut_at byte text) (n, rest) is in
    let made = mapped_some n rest cut.0.1 (if nat_le least (length cut.0.0) then number_of 10 most (10 ^ most) cut.0.0 else None) cut.2 in
    let parts = cut_is byte text cut.0.0 cut.0.1 cut.1 in
    record { digits = cut.0.0; none = parts.none; value = made.0; whole = parts.whole ∙ ap (λ t. cut.0.0 ++ byte ∷ t) made.1 }

number_shorter : (byte least most n : ℕ) (text rest : List ℕ) → number_to byte least most text ≡ Some (n, rest) → length rest ≤ length text
number_shorter byte least most n text rest is =
    let w = number_written byte least most n text rest is in
    let all = ap length w.whole ∙ length-append w.digits (byte ∷ rest) in
    omega (arith, all)

number_is_read : (byte least most n : ℕ) (digits rest : List ℕ) → HasNo byte digits
    → (if nat_le least (length digits) then number_of 10 most (10 ^ most) digits else None) ≡ Some n → number_to byte least most (digits ++ byte ∷ rest) ≡ Some (n, rest)
number_is_read byte least most n digits rest none value =
    ap (option_and_then (number_then least most)) (cut_here byte digits rest none) ∙ ap (option_map {U = ℕ × List ℕ} (λ n. (n, rest))) value

seconds_joined : (digits rest : List ℕ) → codes "msg=audit(" ++ (digits ++ 46 ∷ rest) ≡ (codes "msg=audit(" ++ (digits ++ 46 ∷ [])) ++ rest
seconds_joined digits rest = simp append_assoc

-- how seconds are written
record SecondsWritten (n : ℕ) (text rest : List ℕ) : Type 0 where
  front : List ℕ
  whole : text ≡ front ++ rest
  read : (other : List ℕ) → seconds_of (front ++ other) ≡ Some (n, other)

seconds_written : (n : ℕ) (text rest : List ℕ) → seconds_of text ≡ Some (n, rest) → SecondsWritten n text rest
seconds_written n text rest is =
    let start = and_then_some (number_to 46 1 15) (behind (codes "msg=audit(") text) (n, rest) is in
    let w = number_written 46 1 15 n start.0 rest start.2 in
    record {
      front = codes "msg=audit(" ++ (w.digits ++ 46 ∷ []);
      whole = behind_is (codes "msg=audit(") text start.0 start.1 ∙ ap (λ t. codes "msg=audit(" ++ t) w.whole ∙ seconds_joined w.digits rest;
      read = λ other. ap seconds_of (sym (seconds_joined w.digits other)) ∙ number_is_read 46 1 15 n w.digits other w.none w.value;
    }

pub same_seconds : (text other : List ℕ) (n seconds : ℕ) → n ≤ length text → seconds_of text ≡ Some (seconds, drop n text) → take n other ≡ take n text
    → seconds_of other ≡ Some (seconds, drop n other)
same_seconds text other n seconds within is alike =
    let w = seconds_written seconds text (drop n text) is in
    let begins : take n other ≡ w.front = alike ∙ front_is w.front (drop n text) text n w.whole refl within in
    ap seconds_of (sym (take-append-drop n other) ∙ ap (λ t. t ++ drop n other) begins) ∙ w.read (drop n other)

pub seconds_within : (text rest : List ℕ) (seconds : ℕ) → seconds_of text ≡ Some (seconds, rest) → length rest ≤ length text
seconds_within text rest seconds is =
    let w = seconds_written seconds text rest is in
    let all = ap length w.whole ∙ length-append w.front rest in
    omega (arith, all)

pub seconds_rest : (text rest : List ℕ) (n seconds : ℕ) → seconds_of text ≡ Some (seconds, rest) → n + length rest ≡ length text → rest ≡ drop n text
seconds_rest text rest n seconds is len =
    let w = seconds_written seconds text rest is in
    let all : length text ≡ length w.front + length rest = ap length w.whole ∙ length-append w.front rest in
    let at : length w.front + 0 ≡ n = omega (arith, all, len) in
    sym (drop-append-add w.front rest 0) ∙ ap₂ drop at (sym w.whole)

-- less stands after a stamp than after its seconds
pub after_seconds : (seconds : ℕ) (text rest : List ℕ) (key : EventKey) → with_seconds (seconds, text) ≡ Some (key, rest) → length rest ≤ length text
after_seconds seconds text rest key is =
    let millis = and_then_some (with_millis seconds) (number_to 58 3 3 text) (key, rest) is in
    let serial = and_then_some (with_serial (seconds * 1000 + millis.0.0)) (number_to 41 1 10 millis.0.1) (key, rest) millis.2 in
    let spelled : EventKey = record { ms = seconds * 1000 + millis.0.0; serial = serial.0.0 } in
    let made = chosen_some (nat_lt serial.0.0 (2 ^ 32)) (spelled, serial.0.1) (key, rest) serial.2 in
    let first = number_shorter 58 3 3 millis.0.0 text millis.0.1 millis.1 in
    let second = number_shorter 41 1 10 serial.0.0 millis.0.1 serial.0.1 serial.1 in
    omega (arith, first, second, ap (λ (p : EventKey × List ℕ). length p.1) made.1)
