-- Marks are read again.
use Rattle.std.proofs.Common.{◌≡◌, ◌<◌, ◌≤◌, ◌+◌, ◌-◌, ◌^◌, ◌&&◌, ◌==◌, ◌∙◌, sym, refl, ap, subst, ℕ, Bool, true, false, List, [], ◌∷◌, ◌++◌, length, take, drop, Option, None, Some, option_map, nat_eq, nat_lt, nat_le, codes, arith, if◌then◌else◌, length-append, append_assoc, not}
use Rattle.std.specs.Prelude.{decimal}
use Rattle.std.specs.List.{list_all}
use Rattle.std.specs.Char.{is_digit, digit_value}
use Rattle.std.specs.Option.{option_and_then}
use Rattle.std.specs.Str.Parse.{AllDigits, digits_value}
use Rattle.std.proofs.Math.Seq.{drop-append_seam, take-append_seam}
use Rattle.std.specs.Str.{bytes_eq}
use Rattle.std.proofs.lemmas.Bool.{lt-ltb, eq-eqb}
use Rattle.std.proofs.lemmas.Bool.Decides.{nat_tests}
use Rattle.std.proofs.lemmas.Fmt.{decimal_is_IsNumeral, length-decimal-le}
use Rattle.audit_lex.specs.Values.{are_digits, dec32_of}
use Rattle.order_text.specs.Cut.{first_cut, last_cut}
use Rattle.order_text.specs.Stamp.{is_stamp_byte, ms_of, time_of, number_of}
use Rattle.order_text.specs.Undo.{Kept, mark_of, change_mark, kept_part, before_end, part_from, part_in, part_after, kept_with, kept_in, marked_by, last_mark}
use Rattle.order_text.proofs.CutLemmas.{first_after, never_in, never_in_both, last_before}

pub tested : {A : Type 0} (b : Bool) (x : Option A) (y : A) → (if b then x else None) ≡ Some y → (b ≡ true) × (x ≡ Some y)
tested true x y e = (refl, e)
tested false x y e = absurd (cc e)

-- what spells a time or a number has only digits and dots
pub time_bytes : (text : List ℕ) (ms : ℕ) → time_of text ≡ Some ms → list_all is_stamp_byte text ≡ true
time_bytes text ms e = (tested (list_all is_stamp_byte text) (option_and_then ms_of (first_cut 46 text)) ms e).0

pub number_bytes : (text : List ℕ) (n : ℕ) → number_of text ≡ Some n → list_all is_stamp_byte text ≡ true
number_bytes text n e = (tested (list_all is_stamp_byte text) (dec32_of text) n e).0

-- ---- counts

pub both : (a b : Bool) → a ≡ true → b ≡ true → (a && b) ≡ true
both a b e f = rw (e, f) refl

digits_pass : (text : List ℕ) → AllDigits 10 text → are_digits 10 text ≡ true
digits_pass [] all = refl
digits_pass (c ∷ cs) all = both (is_digit c 10) (are_digits 10 cs) (lt-ltb (digit_value c) 10 all.0) (digits_pass cs all.1)

pub decimal_digits : (n : ℕ) → n < 2 ^ 32 → are_digits 10 (decimal n) ≡ true
decimal_digits n small = digits_pass (decimal n) (decimal_is_IsNumeral n (omega (arith, small))).0.1

chosen : (b : Bool) (n value : ℕ) → b ≡ true → value ≡ n → (if b then Some value else None) ≡ Some n
chosen b n value is same = rw (is, same) refl

le_test : (a b : ℕ) → a ≤ b → nat_le a b ≡ true
le_test a b le = grind (arith, nat_tests, le)

pub count_again : (n : ℕ) → n < 2 ^ 32 → dec32_of (decimal n) ≡ Some n
count_again n small =
    let numeral = decimal_is_IsNumeral n (omega (arith, small)) in
    let some : nat_lt 0 (length (decimal n)) ≡ true = lt-ltb _ _ numeral.0.0 in
    let few : nat_le (length (decimal n)) 10 ≡ true = le_test _ _ (length-decimal-le 10 n (omega arith) (omega (arith, small)) (omega (arith, small))) in
    let fits : nat_lt (digits_value 10 (decimal n)) (2 ^ 32) ≡ true = lt-ltb _ _ (omega (arith, small, numeral.1)) in
    chosen _ n (digits_value 10 (decimal n))
    (both _ _ (decimal_digits n small) (both _ _ some (both _ _ few fits))) numeral.1

-- ---- endings

bytes_same : (xs : List ℕ) → bytes_eq xs xs ≡ true
bytes_same [] = refl
bytes_same (x ∷ xs) = both (nat_eq x x) (bytes_eq xs xs) (eq-eqb x x refl) (bytes_same xs)

cut_end : (ending text part : List ℕ) (n : ℕ) → drop n text ≡ ending → take n text ≡ part
    → (if bytes_eq (drop n text) ending then Some (take n text) else None) ≡ Some part
cut_end ending text part n dropped taken = rw (dropped, bytes_same ending) (ap Some taken)

pub end_again : (part ending : List ℕ) → before_end ending (part ++ ending) ≡ Some part
end_again part ending =
    let at : length (part ++ ending) - length ending ≡ length part = omega (arith, length-append part ending) in
    cut_end ending (part ++ ending) part (length (part ++ ending) - length ending)
    (ap (λ (k : ℕ). drop k (part ++ ending)) at ∙ drop-append_seam part ending) (ap (λ (k : ℕ). take k (part ++ ending)) at ∙ take-append_seam part ending)

-- ---- marks of a stamp alone

-- what spells a time or a number has no byte 0x1D
pub no_mark_in : (text : List ℕ) → list_all is_stamp_byte text ≡ true → last_cut 29 text ≡ None
no_mark_in text all = never_in is_stamp_byte 29 text refl all

kept_alone : (time serial : List ℕ) → list_all is_stamp_byte time ≡ true → list_all is_stamp_byte serial ≡ true
    → kept_in (mark_of time serial) ≡ Some (record { time = time; part = None })
kept_alone time serial timed numbered =
    let one = first_after is_stamp_byte 58 time (serial ++ codes ") }") refl timed in
    let two : first_cut 41 (serial ++ codes ") }") ≡ Some (serial, codes " }") = first_after is_stamp_byte 41 serial (codes " }") refl numbered in
    ap (option_map kept_with) one
    ∙ ap (λ (found : Option (List ℕ × List ℕ)). Some (record { time = time; part = option_and_then part_after found })) two

alone_unmarked : (time serial : List ℕ) → list_all is_stamp_byte time ≡ true → list_all is_stamp_byte serial ≡ true
    → last_cut 29 (mark_of time serial) ≡ None
alone_unmarked time serial timed numbered =
    let ending : last_cut 29 (serial ++ codes ") }") ≡ None = never_in_both 29 serial (codes ") }") (no_mark_in serial numbered) refl in
    let after : last_cut 29 (time ++ 58 ∷ (serial ++ codes ") }")) ≡ None =
    never_in_both 29 time (58 ∷ (serial ++ codes ") }")) (no_mark_in time timed) (never_in_both 29 (58 ∷ []) (serial ++ codes ") }") refl ending) in
    never_in_both 29 (codes "WAS={ audit(") (time ++ 58 ∷ (serial ++ codes ") }")) refl after

pub marked_again : (rest time serial : List ℕ) → list_all is_stamp_byte time ≡ true → list_all is_stamp_byte serial ≡ true
    → last_mark (rest ++ 29 ∷ mark_of time serial) ≡ Some (rest, record { time = time; part = None })
marked_again rest time serial timed numbered =
    ap (option_and_then marked_by) (last_before 29 rest (mark_of time serial) (alone_unmarked time serial timed numbered))
    ∙ ap (option_map (λ (kept : Kept). (rest, kept))) (kept_alone time serial timed numbered)

-- ---- marks that keep a part

part_again : (serial part : List ℕ) (n : ℕ) → n < 2 ^ 32 → part_after (serial, 32 ∷ kept_part n part) ≡ Some (n, part)
part_again serial part n small =
    let cut = first_after (λ (c : ℕ). is_digit c 10) 32 (decimal n) (part ++ codes " }") refl (decimal_digits n small) in
    ap (option_and_then part_in) cut
    ∙ ap (λ (count : Option ℕ). part_from count (before_end (codes " }") (part ++ codes " }"))) (count_again n small)
    ∙ ap (part_from (Some n)) (end_again part (codes " }"))

kept_changed : (time serial part : List ℕ) (n : ℕ) → list_all is_stamp_byte time ≡ true → list_all is_stamp_byte serial ≡ true → n < 2 ^ 32
    → kept_in (change_mark time serial n part) ≡ Some (record { time = time; part = Some (n, part) })
kept_changed time serial part n timed numbered small =
    let more = 32 ∷ kept_part n part in
    let one = first_after is_stamp_byte 58 time (serial ++ 41 ∷ more) refl timed in
    let two = first_after is_stamp_byte 41 serial more refl numbered in
    ap (option_map kept_with) one
    ∙ ap (λ (found : Option (List ℕ × List ℕ)). Some (record { time = time; part = option_and_then part_after found })) two
    ∙ ap (λ (found : Option (ℕ × List ℕ)). Some (record { time = time; part = found })) (part_again serial part n small)

changed_unmarked : (time serial part : List ℕ) (n : ℕ) → list_all is_stamp_byte time ≡ true → list_all is_stamp_byte serial ≡ true → n < 2 ^ 32
    → last_cut 29 part ≡ None → last_cut 29 (change_mark time serial n part) ≡ None
changed_unmarked time serial part n timed numbered small none =
    let count : last_cut 29 (decimal n) ≡ None = never_in (λ (c : ℕ). is_digit c 10) 29 (decimal n) refl (decimal_digits n small) in
    let parted : last_cut 29 (kept_part n part) ≡ None =
    never_in_both 29 (decimal n) (32 ∷ (part ++ codes " }")) count
    (never_in_both 29 (32 ∷ []) (part ++ codes " }") refl (never_in_both 29 part (codes " }") none refl)) in
    let ending : last_cut 29 (serial ++ 41 ∷ (32 ∷ kept_part n part)) ≡ None =
    never_in_both 29 serial (41 ∷ (32 ∷ kept_part n part)) (no_mark_in serial numbered) (never_in_both 29 (41 ∷ (32 ∷ [])) (kept_part n part) refl parted) in
    let after : last_cut 29 (time ++ 58 ∷ (serial ++ 41 ∷ (32 ∷ kept_part n part))) ≡ None =
    never_in_both 29 time (58 ∷ (serial ++ 41 ∷ (32 ∷ kept_part n part))) (no_mark_in time timed)
    (never_in_both 29 (58 ∷ []) (serial ++ 41 ∷ (32 ∷ kept_part n part)) refl ending) in
    never_in_both 29 (codes "WAS={ audit(") (time ++ 58 ∷ (serial ++ 41 ∷ (32 ∷ kept_part n part))) refl after

pub changed_again : (rest time serial part : List ℕ) (n : ℕ) → list_all is_stamp_byte time ≡ true → list_all is_stamp_byte serial ≡ true → n < 2 ^ 32
    → last_cut 29 part ≡ None → last_mark (rest ++ 29 ∷ change_mark time serial n part) ≡ Some (rest, record { time = time; part = Some (n, part) })
changed_again rest time serial part n timed numbered small none =
    ap (option_and_then marked_by) (last_before 29 rest (change_mark time serial n part) (changed_unmarked time serial part n timed numbered small none))
    ∙ ap (option_map (λ (kept : Kept). (rest, kept))) (kept_changed time serial part n timed numbered small)

-- pieces that were appended one after the other
pub six_pieces : (out a b c d e f n1 n2 n3 n4 n5 n6 : List ℕ) → n1 ≡ out ++ a → n2 ≡ n1 ++ b → n3 ≡ n2 ++ c → n4 ≡ n3 ++ d → n5 ≡ n4 ++ e → n6 ≡ n5 ++ f
    → n6 ≡ out ++ (a ++ (b ++ (c ++ (d ++ (e ++ f)))))
six_pieces out a b c d e f n1 n2 n3 n4 n5 n6 e1 e2 e3 e4 e5 e6 =
    rw (e6, e5, e4, e3, e2, e1) (simp append_assoc refl)
