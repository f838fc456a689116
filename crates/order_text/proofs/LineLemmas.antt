-- A line as it is written has no line feed of its own.
use Rattle.std.proofs.Common.{◌≡◌, ◌<◌, ◌^◌, ◌∙◌, ◌==◌, ◌&&◌, sym, refl, ap, subst, ℕ, Bool, true, List, [], ◌∷◌, ◌++◌, length, take, drop, Option, None, Some, nat_lt, codes, not, take-append-drop}
use Rattle.std.specs.Prelude.{decimal}
use Rattle.std.specs.List.{list_all}
use Rattle.std.specs.Char.{is_digit}
use Rattle.std.proofs.lemmas.Bool.{and_parts, both_ways, eqb-true}
use Rattle.std.proofs.lemmas.List.Folds.{list_all-append}
use Rattle.audit_lex.specs.Values.{are_digits}
use Rattle.order_text.specs.Stamp.{Stamp, line_of, is_stamp_byte, time_of, stamp_of}
use Rattle.order_text.specs.Undo.{mark_of, change_mark, kept_stamp, kept_part, raised, risen, is_marked, fitting, changed, rewritten, written_by, written_of, written_after}
use Rattle.order_text.specs.Laws.{is_one_line, IsOneLine}
use Rattle.order_text.specs.declared.rewrite.Rewrite.{Rewrite}
use Rattle.order_text.proofs.CutLemmas.{by_test}
use Rattle.order_text.proofs.MarkLemmas.{time_bytes, decimal_digits}
use Rattle.order_text.proofs.UndoLemmas.{has_parts, Fits, fits_parts, fitting_is}

pub both_one : (xs ys : List ℕ) → IsOneLine xs → IsOneLine ys → IsOneLine (xs ++ ys)
both_one xs ys a b = list_all-append (λ (byte : ℕ). not (byte == 10)) xs ys ∙ rw (a, b) refl

pub parts_one : (xs ys : List ℕ) → IsOneLine (xs ++ ys) → IsOneLine xs × IsOneLine ys
parts_one xs ys e = and_parts (is_one_line xs) (is_one_line ys) (sym (list_all-append (λ (byte : ℕ). not (byte == 10)) xs ys) ∙ e)

stamp_byte_one : (b : ℕ) → is_stamp_byte b ≡ true → not (b == 10) ≡ true
stamp_byte_one b is =
    by_test (b == 10)
    (λ same. absurd (both_ways (is_stamp_byte b) (ap is_stamp_byte (eqb-true b 10 same)) is))
    (λ isnt. rw isnt refl)

and_true : (a b : Bool) → a ≡ true → b ≡ true → (a && b) ≡ true
and_true a b e f = rw (e, f) refl

stamp_bytes_one : (text : List ℕ) → list_all is_stamp_byte text ≡ true → IsOneLine text
stamp_bytes_one [] all = refl
stamp_bytes_one (b ∷ text) all =
    let parts = and_parts (is_stamp_byte b) (list_all is_stamp_byte text) all in
    and_true (not (b == 10)) (is_one_line text) (stamp_byte_one b parts.0) (stamp_bytes_one text parts.1)

pub time_one : (time : List ℕ) (ms : ℕ) → time_of time ≡ Some ms → IsOneLine time
time_one time ms is = stamp_bytes_one time (time_bytes time ms is)

-- the parts of a line are those of one line
record AreOne (s : Stamp) : Type 0 where
  front : IsOneLine s.front
  time : IsOneLine s.time
  serial : IsOneLine s.serial
  rest : IsOneLine s.rest

stamp_one : (s : Stamp) → IsOneLine (line_of s) → AreOne s
stamp_one s e =
    let one = parts_one s.front (40 ∷ (s.time ++ 58 ∷ (s.serial ++ 41 ∷ s.rest))) e in
    let two = parts_one s.time (58 ∷ (s.serial ++ 41 ∷ s.rest)) one.1 in
    let three = parts_one s.serial (41 ∷ s.rest) two.1 in
    record { front = one.0; time = two.0; serial = three.0; rest = three.1 }

line_one : (s : Stamp) → AreOne s → IsOneLine (line_of s)
line_one s are =
    both_one s.front (40 ∷ (s.time ++ 58 ∷ (s.serial ++ 41 ∷ s.rest))) are.front
    (both_one s.time (58 ∷ (s.serial ++ 41 ∷ s.rest)) are.time (both_one s.serial (41 ∷ s.rest) are.serial are.rest))

mark_one : (time serial : List ℕ) → IsOneLine time → IsOneLine serial → IsOneLine (mark_of time serial)
mark_one time serial a b =
    both_one (codes "WAS={ audit(") (kept_stamp time serial) refl
    (both_one time (58 ∷ (serial ++ codes ") }")) a (both_one serial (codes ") }") b refl))

raised_one : (s : Stamp) (time : List ℕ) (ms : ℕ) → AreOne s → IsOneLine time → IsOneLine (line_of (raised s time ms))
raised_one s time ms are is =
    line_one (raised s time ms) (record {
      front = are.front;
      time = is;
      serial = are.serial;
      rest = both_one s.rest (29 ∷ mark_of s.time s.serial) are.rest (mark_one s.time s.serial are.time are.serial);
    })

-- ---- lines with a rewrite

digit_one : (c : ℕ) → is_digit c 10 ≡ true → not (c == 10) ≡ true
digit_one c is =
    by_test (c == 10)
    (λ same. absurd (both_ways (is_digit c 10) (ap (λ (d : ℕ). is_digit d 10) (eqb-true c 10 same)) is))
    (λ isnt. rw isnt refl)

digits_one : (text : List ℕ) → are_digits 10 text ≡ true → IsOneLine text
digits_one [] all = refl
digits_one (c ∷ text) all =
    let parts = and_parts (is_digit c 10) (are_digits 10 text) all in
    and_true (not (c == 10)) (is_one_line text) (digit_one c parts.0) (digits_one text parts.1)

change_one : (time serial part : List ℕ) (n : ℕ) → n < 2 ^ 32 → IsOneLine time → IsOneLine serial → IsOneLine part → IsOneLine (change_mark time serial n part)
change_one time serial part n small a b c =
    let kept : IsOneLine (kept_part n part) =
    both_one (decimal n) (32 ∷ (part ++ codes " }")) (digits_one (decimal n) (decimal_digits n small)) (both_one part (codes " }") c refl) in
    both_one (codes "WAS={ audit(") (time ++ 58 ∷ (serial ++ 41 ∷ (32 ∷ kept_part n part))) refl
    (both_one time (58 ∷ (serial ++ 41 ∷ (32 ∷ kept_part n part))) a (both_one serial (41 ∷ (32 ∷ kept_part n part)) b kept))

halves_one : (rest : List ℕ) (n : ℕ) → IsOneLine rest → IsOneLine (take n rest) × IsOneLine (drop n rest)
halves_one rest n one = parts_one (take n rest) (drop n rest) (subst IsOneLine (sym (take-append-drop n rest)) one)

changed_one : (s : Stamp) (r : Rewrite) → AreOne s → Fits r s.rest → IsOneLine (changed s r)
changed_one s r are fit =
    let halves = halves_one s.rest r.len are.rest in
    both_one (r.text ++ drop r.len s.rest) (29 ∷ change_mark s.time s.serial (length r.text) (take r.len s.rest))
    (both_one r.text (drop r.len s.rest) fit.one halves.1)
    (change_one s.time s.serial (take r.len s.rest) (length r.text) fit.short are.time are.serial halves.0)

risen_one : (s : Stamp) (time rest : List ℕ) (ms : ℕ) → AreOne s → IsOneLine time → IsOneLine rest → AreOne (record (risen s time ms) { rest = rest })
risen_one s time rest ms are is one =
    by_test (nat_lt s.ms ms)
    (λ less. rw less (record { front = are.front; time = is; serial = are.serial; rest = one }))
    (λ more. rw more (record { front = are.front; time = are.time; serial = are.serial; rest = one }))

-- ---- lines as they are written

plain_one : (time : List ℕ) (ms : ℕ) (line : List ℕ) (s : Stamp) → AreOne s → IsOneLine time → IsOneLine line → IsOneLine (written_by time ms line s None)
plain_one time ms line s are is one =
    by_test (nat_lt s.ms ms)
    (λ less. rw less (raised_one s time ms are is))
    (λ more. by_test (is_marked s)
    (λ marked. rw (more, marked) (raised_one s s.time s.ms are are.time))
    (λ plain. rw (more, plain) one))

stamped_one : (time : List ℕ) (ms : ℕ) (line : List ℕ) (s : Stamp) (change found : Option Rewrite) → AreOne s → IsOneLine time → IsOneLine line
    → fitting change s.rest ≡ found → IsOneLine (written_by time ms line s found)
stamped_one time ms line s change None are is one fit = plain_one time ms line s are is one
stamped_one time ms line s change (Some r) are is one fit =
    line_one (rewritten s time ms r)
    (risen_one s time (changed s r) ms are is (changed_one s r are (fits_parts r s.rest (fitting_is change s.rest r fit))))

one_of : (time : List ℕ) (ms : ℕ) (line : List ℕ) (change : Option Rewrite) (found : Option Stamp) → time_of time ≡ Some ms → stamp_of line ≡ found → IsOneLine line
    → IsOneLine (written_of time ms line found change)
one_of time ms line change None is found one = one
one_of time ms line change (Some s) is found one =
    stamped_one time ms line s change (fitting change s.rest) (stamp_one s (subst IsOneLine (has_parts line s found).whole one)) (time_one time ms is) one refl

pub written_one : (time : List ℕ) (ms : ℕ) (line : List ℕ) (change : Option Rewrite) → time_of time ≡ Some ms → IsOneLine line → IsOneLine (written_after time ms line change)
written_one time ms line change is one = one_of time ms line change (stamp_of line) is refl one
