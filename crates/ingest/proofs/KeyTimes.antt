-- What a used line says at least: a time that isn't too great, in more than a byte.
use Rattle.std.proofs.Common.{◌≡◌, ◌≤◌, ◌<◌, ◌^◌, ◌++◌, ◌∷◌, sym, refl, subst, ℕ, Bool, true, false, List, length, arith, length-append, Option, None, Some, if◌then◌else◌, nat_lt, nat_le}
use Rattle.std.specs.Prelude.{codes, ◌&&◌}
use Rattle.std.proofs.lemmas.Bool.{ltb-true}
use Rattle.audit_lex.specs.Header.{key_from, key_of}
use Rattle.audit_lex.specs.Values.{number_of, are_digits}
use Rattle.std.specs.Str.Parse.{digits_value}
use Rattle.audit_lex.specs.Written.{Parts, line_from}
use Rattle.audit_lex.specs.declared.header.EventKey.{EventKey}
use Rattle.audit_record.specs.declared.types.Record.{Record}
use Rattle.ingest.specs.LineRecords.{record_of}
use Rattle.ingest.proofs.Reading.{spelled_to}

inside : {A : Type 0} (a b : A) → Some a ≡ Some b → a ≡ b
inside a b e = cc e

number_when : (n bound : ℕ) (a b c d : Bool) (m : ℕ) → d ≡ nat_lt n bound → (if a && (b && (c && d)) then Some n else None) ≡ Some m → m < bound
number_when n bound true true true true m is e = subst (λ k. k < bound) (inside n m e) (ltb-true n bound (sym is))
number_when n bound true true true false m is e = absurd (cc e)
number_when n bound true true false d m is e = absurd (cc e)
number_when n bound true false c d m is e = absurd (cc e)
number_when n bound false b c d m is e = absurd (cc e)

-- a number is below its bound
number_below : (radix most bound : ℕ) (text : List ℕ) (n : ℕ) → number_of radix most bound text ≡ Some n → n < bound
number_below radix most bound text n e =
    number_when (digits_value radix text) bound (are_digits radix text) (nat_lt 0 (length text)) (nat_le (length text) most) (nat_lt (digits_value radix text) bound) n refl e

from_below : (a b c : Option ℕ) (key : EventKey) → ((n : ℕ) → a ≡ Some n → n < 10 ^ 15) → ((n : ℕ) → b ≡ Some n → n < 1000) → key_from a b c ≡ Some key → key.ms < 10 ^ 18
from_below (Some s) (Some m) (Some n) key small less e =
    let seconds = small s refl in
    let millis = less m refl in
    subst (λ (k : EventKey). k.ms < 10 ^ 18) (inside _ _ e) (omega (arith, seconds, millis))
from_below None b c key small less e = absurd (cc e)
from_below (Some s) None c key small less e = absurd (cc e)
from_below (Some s) (Some m) None key small less e = absurd (cc e)

key_when : (three : Bool) (o : Option EventKey) (key : EventKey) → (if three then o else None) ≡ Some key → o ≡ Some key
key_when true o key e = e
key_when false o key e = absurd (cc e)

key_below : (seconds millis serial : List ℕ) (key : EventKey) → key_of seconds millis serial ≡ Some key → key.ms < 10 ^ 18
key_below seconds millis serial key e =
    from_below (number_of 10 15 (10 ^ 15) seconds) (number_of 10 3 1000 millis) (number_of 10 10 (2 ^ 32) serial) key
    (number_below 10 15 (10 ^ 15) seconds) (number_below 10 3 1000 millis) (key_when _ _ key e)

line_some : (p : Parts) → 2 ≤ length (line_from p)
line_some p =
    let back = p.name ++ 32 ∷ (codes "msg=audit(" ++ (p.seconds ++ 46 ∷ (p.millis ++ 58 ∷ (p.serial ++ 41 ∷ (p.gap ++ 58 ∷ (p.raw ++ p.rest)))))) in
    let five : length (codes "type=") ≡ 5 = refl in
    omega (arith, length-append p.node (codes "type=" ++ back), length-append (codes "type=") back, five)

-- a record's time is below this, and its line has more than a byte
pub record_time : (limit : ℕ) (line : List ℕ) (r : Record) → record_of limit line ≡ Some r → r.key.ms < 10 ^ 18
record_time limit line r e =
    let used = (spelled_to limit line r e).1.written in
    subst (λ (k : EventKey). k.ms < 10 ^ 18) used.key_is (key_below used.headed.parts.seconds used.headed.parts.millis used.headed.parts.serial used.head.key used.headed.key)

pub record_text : (limit : ℕ) (line : List ℕ) (r : Record) → record_of limit line ≡ Some r → 2 ≤ length line
record_text limit line r e =
    let used = (spelled_to limit line r e).1.written in
    subst (λ (l : List ℕ). 2 ≤ length l) (sym used.headed.written) (line_some used.headed.parts)
