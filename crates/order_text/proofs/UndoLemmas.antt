-- A written line bears its stamp, and is undone.
use Rattle.std.proofs.Common.{◌≡◌, ◌<◌, ◌≤◌, ◌^◌, ◌==◌, ◌&&◌, ◌∙◌, sym, refl, ap, ℕ, Bool, true, false, List, [], ◌∷◌, ◌++◌, length, take, drop, Option, None, Some, option_map, nat_lt, nat_le, arith, if◌then◌else◌, max, not, take-append-drop, append_assoc}
use Rattle.std.specs.Prelude.{is_some}
use Rattle.std.specs.List.{list_all}
use Rattle.std.specs.Option.{option_and_then}
use Rattle.std.proofs.Math.Seq.{drop-append_seam}
use Rattle.std.proofs.lemmas.Bool.{and_parts, ltb-true, ltb-false}
use Rattle.std.proofs.lemmas.Bool.Decides.{nat_tests}
use Rattle.std.proofs.lemmas.Option.{same_Some}
use Rattle.order_text.specs.Cut.{first_cut, last_cut}
use Rattle.order_text.specs.Stamp.{Stamp, line_of, is_stamp_byte, time_of, number_of, ends_as_header, stamp_from, stamp_after, stamp_timed, stamp_fronted, stamp_of}
use Rattle.order_text.specs.Undo.{Kept, mark_of, change_mark, last_mark, undone_by, undone_of, undone, raised, risen, is_marked, fits, fitting, changed, rewritten, written_by, written_of, written_after, keeps_part, keeps_part_of, is_rewritten, takes_rewrite}
use Rattle.order_text.specs.Laws.{time_in, number_in, front_in, is_one_line, StaysAfter}
use Rattle.order_text.specs.declared.rewrite.Rewrite.{Rewrite}
use Rattle.order_text.proofs.CutLemmas.{by_test, first_after, never_in, IsCut, is_cut}
use Rattle.order_text.proofs.MarkLemmas.{tested, time_bytes, number_bytes, marked_again, changed_again}

-- the line has these parts, and they are read again with another time and another rest
pub record HasParts (line : List ℕ) (s : Stamp) : Type 0 where
  pub whole : line ≡ line_of s
  pub fronts : (other : List ℕ) → first_cut 40 (s.front ++ 40 ∷ other) ≡ Some (s.front, other)
  pub header : ends_as_header s.front ≡ true
  pub time : time_of s.time ≡ Some s.ms
  pub number : number_of s.serial ≡ Some s.number

-- a line bears the greater time, and the number and the front of these parts
record BearsAfter (ms : ℕ) (s : Stamp) (line : List ℕ) : Type 0 where
  time : time_in line ≡ Some (max ms s.ms)
  number : number_in line ≡ Some s.number
  front : front_in line ≡ Some s.front

from_parts : (front time serial rest : List ℕ) (ms number : Option ℕ) (s : Stamp) → stamp_from front time serial rest ms number ≡ Some s
    → (ms ≡ Some s.ms) × (number ≡ Some s.number) × (front ≡ s.front) × (time ≡ s.time) × (serial ≡ s.serial) × (rest ≡ s.rest)
from_parts front time serial rest (Some ms) (Some number) s e =
    let is = same_Some _ _ e in
    (ap (λ (t : Stamp). Some t.ms) is, ap (λ (t : Stamp). Some t.number) is, ap (λ (t : Stamp). t.front) is, ap (λ (t : Stamp). t.time) is, ap (λ (t : Stamp). t.serial) is, ap (λ (t : Stamp). t.rest) is)
from_parts front time serial rest (Some ms) None s e = absurd (cc e)
from_parts front time serial rest None number s e = absurd (cc e)

parts_after : (line front more time text : List ℕ) (parts : List ℕ × List ℕ) (s : Stamp)
    → IsCut 40 line front more → IsCut 58 more time text → IsCut 41 text parts.0 parts.1
    → stamp_after front time parts ≡ Some s → HasParts line s
parts_after line front more time text (serial, rest) s one two three e =
    let header = tested (ends_as_header front) (stamp_from front time serial rest (time_of time) (number_of serial)) s e in
    let is = from_parts front time serial rest (time_of time) (number_of serial) s header.1 in
    record {
      whole = one.whole ∙ ap (λ (t : List ℕ). front ++ 40 ∷ t) two.whole ∙ ap (λ (t : List ℕ). front ++ 40 ∷ (time ++ 58 ∷ t)) three.whole
          ∙ rw (is.2, is.3, is.4, is.5) refl;
      fronts = rw (sym is.2) one.again;
      header = rw (sym is.2) header.0;
      time = rw (sym is.3) is.0;
      number = rw (sym is.4) is.1;
    }

parts_timed : (line front more time text : List ℕ) (cut : Option (List ℕ × List ℕ)) (s : Stamp)
    → IsCut 40 line front more → IsCut 58 more time text → first_cut 41 text ≡ cut
    → option_and_then (stamp_after front time) cut ≡ Some s → HasParts line s
parts_timed line front more time text None s one two three e = absurd (cc e)
parts_timed line front more time text (Some (serial, rest)) s one two three e =
    parts_after line front more time text (serial, rest) s one two (is_cut 41 text serial rest three) e

parts_fronted : (line front more : List ℕ) (cut : Option (List ℕ × List ℕ)) (s : Stamp)
    → IsCut 40 line front more → first_cut 58 more ≡ cut
    → option_and_then (stamp_timed front) cut ≡ Some s → HasParts line s
parts_fronted line front more None s one two e = absurd (cc e)
parts_fronted line front more (Some (time, text)) s one two e =
    parts_timed line front more time text (first_cut 41 text) s one (is_cut 58 more time text two) refl e

parts_whole : (line : List ℕ) (cut : Option (List ℕ × List ℕ)) (s : Stamp) → first_cut 40 line ≡ cut → option_and_then stamp_fronted cut ≡ Some s → HasParts line s
parts_whole line None s one e = absurd (cc e)
parts_whole line (Some (front, more)) s one e = parts_fronted line front more (first_cut 58 more) s (is_cut 40 line front more one) refl e

pub has_parts : (line : List ℕ) (s : Stamp) → stamp_of line ≡ Some s → HasParts line s
has_parts line s e = parts_whole line (first_cut 40 line) s refl e

-- the line of such parts with another time and another rest bears these
pub read_again : (line : List ℕ) (s : Stamp) → HasParts line s → (time rest : List ℕ) (ms : ℕ) → time_of time ≡ Some ms
    → stamp_of (line_of (record s { time = time; rest = rest })) ≡ Some (record s { time = time; rest = rest; ms = ms })
read_again line s has time rest ms is =
    let one = has.fronts (time ++ 58 ∷ (s.serial ++ 41 ∷ rest)) in
    let two = first_after is_stamp_byte 58 time (s.serial ++ 41 ∷ rest) refl (time_bytes time ms is) in
    let three = first_after is_stamp_byte 41 s.serial rest refl (number_bytes s.serial s.number has.number) in
    ap (option_and_then stamp_fronted) one
    ∙ ap (option_and_then (stamp_timed s.front)) two
    ∙ ap (option_and_then (stamp_after s.front time)) three
    ∙ rw (has.header, is, has.number) refl

pub raised_undone : (line : List ℕ) (s : Stamp) → HasParts line s → (time : List ℕ) (ms : ℕ) → time_of time ≡ Some ms
    → undone (line_of (raised s time ms)) ≡ line
raised_undone line s has time ms is =
    let rest = s.rest ++ 29 ∷ mark_of s.time s.serial in
    ap (undone_of (line_of (raised s time ms))) (read_again line s has time rest ms is)
    ∙ ap (undone_by (raised s time ms) (line_of (raised s time ms)))
    (marked_again s.rest s.time s.serial (time_bytes s.time s.ms has.time) (number_bytes s.serial s.number has.number))
    ∙ sym has.whole

-- ---- rewrites

-- a rewrite that fits a text
pub record Fits (r : Rewrite) (rest : List ℕ) : Type 0 where
  pub within : r.len ≤ length rest
  pub unmarked : last_cut 29 (take r.len rest) ≡ None
  pub short : length r.text < 2 ^ 32
  pub one : is_one_line r.text ≡ true

le_passed : (a b : ℕ) → nat_le a b ≡ true → a ≤ b
le_passed a b e = grind (arith, nat_tests, e)

pub fits_parts : (r : Rewrite) (rest : List ℕ) → fits r rest ≡ true → Fits r rest
fits_parts r rest e =
    let part = take r.len rest in
    let plain = list_all (λ (byte : ℕ). not (byte == 29)) part in
    let short = nat_lt (length r.text) (2 ^ 32) in
    let one = and_parts (nat_le r.len (length rest)) (plain && (short && is_one_line r.text)) e in
    let two = and_parts plain (short && is_one_line r.text) one.1 in
    let three = and_parts short (is_one_line r.text) two.1 in
    record {
      within = le_passed r.len (length rest) one.0;
      unmarked = never_in (λ (byte : ℕ). not (byte == 29)) 29 part refl two.0;
      short = ltb-true _ _ three.0;
      one = three.1;
    }

fitted : (b : Bool) (r other : Rewrite) → (if b then Some r else None) ≡ Some other → (b ≡ true) × (r ≡ other)
fitted true r other e = (refl, same_Some _ _ e)
fitted false r other e = absurd (cc e)

pub fitting_is : (change : Option Rewrite) (rest : List ℕ) (r : Rewrite) → fitting change rest ≡ Some r → fits r rest ≡ true
fitting_is None rest r e = absurd (cc e)
fitting_is (Some change) rest r e =
    let is = fitted (fits change rest) change r e in
    ap (λ (c : Rewrite). fits c rest) (sym is.1) ∙ is.0

-- the time of the greater of two stamps
risen_time : (s : Stamp) (time : List ℕ) (ms : ℕ) → time_of s.time ≡ Some s.ms → time_of time ≡ Some ms → time_of (risen s time ms).time ≡ Some (risen s time ms).ms
risen_time s time ms own is = by_test (nat_lt s.ms ms) (λ less. rw less is) (λ more. rw more own)

-- the same parts apart from the time
risen_line : (s : Stamp) (time rest : List ℕ) (ms : ℕ) → line_of (record (risen s time ms) { rest = rest }) ≡ line_of (record s { time = (risen s time ms).time; rest = rest })
risen_line s time rest ms = by_test (nat_lt s.ms ms) (λ less. rw less refl) (λ more. rw more refl)

-- a line that was rewritten bears this stamp
pub rewritten_again : (line : List ℕ) (s : Stamp) → HasParts line s → (time : List ℕ) (ms : ℕ) → time_of time ≡ Some ms → (r : Rewrite)
    → stamp_of (line_of (rewritten s time ms r)) ≡ Some (record s { time = (risen s time ms).time; ms = (risen s time ms).ms; rest = changed s r })
rewritten_again line s has time ms is r =
    ap stamp_of (risen_line s time (changed s r) ms)
    ∙ read_again line s has (risen s time ms).time (changed s r) (risen s time ms).ms (risen_time s time ms has.time is)

-- its mark keeps what was replaced
pub change_kept : (line : List ℕ) (s : Stamp) → HasParts line s → (r : Rewrite) → Fits r s.rest
    → last_mark (changed s r) ≡ Some (r.text ++ drop r.len s.rest, record { time = s.time; part = Some (length r.text, take r.len s.rest) })
change_kept line s has r fit =
    changed_again (r.text ++ drop r.len s.rest) s.time s.serial (take r.len s.rest) (length r.text)
    (time_bytes s.time s.ms has.time) (number_bytes s.serial s.number has.number) fit.short fit.unmarked

put_back : (text rest : List ℕ) (n : ℕ) → take n rest ++ drop (length text) (text ++ drop n rest) ≡ rest
put_back text rest n = ap (λ (t : List ℕ). take n rest ++ t) (drop-append_seam text (drop n rest)) ∙ take-append-drop n rest

rewritten_undone : (line : List ℕ) (s : Stamp) → HasParts line s → (time : List ℕ) (ms : ℕ) → time_of time ≡ Some ms → (r : Rewrite) → Fits r s.rest
    → undone (line_of (rewritten s time ms r)) ≡ line
rewritten_undone line s has time ms is r fit =
    let made : Stamp = record s { time = (risen s time ms).time; ms = (risen s time ms).ms; rest = changed s r } in
    ap (undone_of (line_of (rewritten s time ms r))) (rewritten_again line s has time ms is r)
    ∙ ap (undone_by made (line_of (rewritten s time ms r))) (change_kept line s has r fit)
    ∙ ap (λ (rest : List ℕ). line_of (record s { rest = rest })) (put_back r.text s.rest r.len)
    ∙ sym has.whole

-- ---- lines as they were

unmarked : (s : Stamp) (line : List ℕ) (mark : Option (List ℕ × Kept)) → is_some mark ≡ false → undone_by s line mark ≡ line
unmarked s line None e = refl
unmarked s line (Some mark) e = absurd (cc e)

undone_plain : (time : List ℕ) (ms : ℕ) (line : List ℕ) (s : Stamp) → time_of time ≡ Some ms → stamp_of line ≡ Some s
    → undone (written_by time ms line s None) ≡ line
undone_plain time ms line s is stamped =
    let has = has_parts line s stamped in
    by_test (nat_lt s.ms ms)
    (λ less. rw less (raised_undone line s has time ms is))
    (λ more. by_test (is_marked s)
    (λ marked. rw (more, marked) (raised_undone line s has s.time s.ms has.time))
    (λ plain. rw (more, plain) (ap (undone_of line) stamped ∙ unmarked s line (last_mark s.rest) plain)))

undone_by_change : (time : List ℕ) (ms : ℕ) (line : List ℕ) (s : Stamp) (change found : Option Rewrite) → time_of time ≡ Some ms → stamp_of line ≡ Some s
    → fitting change s.rest ≡ found → undone (written_by time ms line s found) ≡ line
undone_by_change time ms line s change None is stamped fit = undone_plain time ms line s is stamped
undone_by_change time ms line s change (Some r) is stamped fit =
    rewritten_undone line s (has_parts line s stamped) time ms is r (fits_parts r s.rest (fitting_is change s.rest r fit))

undone_written : (time : List ℕ) (ms : ℕ) (line : List ℕ) (change : Option Rewrite) (found : Option Stamp) → time_of time ≡ Some ms → stamp_of line ≡ found
    → undone (written_of time ms line found change) ≡ line
undone_written time ms line change None is found = ap (undone_of line) found
undone_written time ms line change (Some s) is found = undone_by_change time ms line s change (fitting change s.rest) is found refl

pub written_undone : (time : List ℕ) (ms : ℕ) (line : List ℕ) (change : Option Rewrite) → time_of time ≡ Some ms → undone (written_after time ms line change) ≡ line
written_undone time ms line change is = undone_written time ms line change (stamp_of line) is refl

-- ---- lines say whether they were rewritten

keeps_none : (mark : Option (List ℕ × Kept)) → is_some mark ≡ false → keeps_part mark ≡ false
keeps_none None e = refl
keeps_none (Some mark) e = absurd (cc e)

plain_told : (time : List ℕ) (ms : ℕ) (line : List ℕ) (s : Stamp) → time_of time ≡ Some ms → stamp_of line ≡ Some s
    → is_rewritten (written_by time ms line s None) ≡ false
plain_told time ms line s is stamped =
    let has = has_parts line s stamped in
    let timed = time_bytes s.time s.ms has.time in
    let numbered = number_bytes s.serial s.number has.number in
    let rest = s.rest ++ 29 ∷ mark_of s.time s.serial in
    let kept : keeps_part (last_mark rest) ≡ false = ap keeps_part (marked_again s.rest s.time s.serial timed numbered) in
    by_test (nat_lt s.ms ms)
    (λ less. rw less (ap keeps_part_of (read_again line s has time rest ms is) ∙ kept))
    (λ more. by_test (is_marked s)
    (λ marked. rw (more, marked) (ap keeps_part_of (read_again line s has s.time rest s.ms has.time) ∙ kept))
    (λ plain. rw (more, plain) (ap keeps_part_of stamped ∙ keeps_none (last_mark s.rest) plain)))

told_by_change : (time : List ℕ) (ms : ℕ) (line : List ℕ) (s : Stamp) (change found : Option Rewrite) → time_of time ≡ Some ms → stamp_of line ≡ Some s
    → fitting change s.rest ≡ found → is_rewritten (written_by time ms line s found) ≡ is_some found
told_by_change time ms line s change None is stamped fit = plain_told time ms line s is stamped
told_by_change time ms line s change (Some r) is stamped fit =
    let has = has_parts line s stamped in
    ap keeps_part_of (rewritten_again line s has time ms is r)
    ∙ ap keeps_part (change_kept line s has r (fits_parts r s.rest (fitting_is change s.rest r fit)))

told_of : (time : List ℕ) (ms : ℕ) (line : List ℕ) (change : Option Rewrite) (found : Option Stamp) → time_of time ≡ Some ms → stamp_of line ≡ found
    → is_rewritten (written_of time ms line found change) ≡ takes_rewrite change found
told_of time ms line change None is found = ap keeps_part_of found
told_of time ms line change (Some s) is found = told_by_change time ms line s change (fitting change s.rest) is found refl

pub written_told : (time : List ℕ) (ms : ℕ) (line : List ℕ) (change : Option Rewrite) → time_of time ≡ Some ms
    → is_rewritten (written_after time ms line change) ≡ takes_rewrite change (stamp_of line)
written_told time ms line change is = told_of time ms line change (stamp_of line) is refl

-- ---- the stamp of a written line

max_less : (a b : ℕ) → a < b → b ≡ max b a
max_less a b less = omega (arith, less)

max_more : (a b : ℕ) → b ≤ a → a ≡ max b a
max_more a b more = omega (arith, more)

bears_plain : (time : List ℕ) (ms : ℕ) (line : List ℕ) (s : Stamp) → time_of time ≡ Some ms → stamp_of line ≡ Some s
    → BearsAfter ms s (written_by time ms line s None)
bears_plain time ms line s is stamped =
    let has = has_parts line s stamped in
    let lifted = read_again line s has time (s.rest ++ 29 ∷ mark_of s.time s.serial) ms is in
    let kept = read_again line s has s.time (s.rest ++ 29 ∷ mark_of s.time s.serial) s.ms has.time in
    by_test (nat_lt s.ms ms)
    (λ less. rw less (record {
      time = ap (option_map (λ (t : Stamp). t.ms)) lifted ∙ ap Some (max_less s.ms ms (ltb-true _ _ less));
      number = ap (option_map (λ (t : Stamp). t.number)) lifted;
      front = ap (option_map (λ (t : Stamp). t.front)) lifted;
    }))
    (λ more. by_test (is_marked s)
    (λ marked. rw (more, marked) (record {
      time = ap (option_map (λ (t : Stamp). t.ms)) kept ∙ ap Some (max_more s.ms ms (ltb-false _ _ more));
      number = ap (option_map (λ (t : Stamp). t.number)) kept;
      front = ap (option_map (λ (t : Stamp). t.front)) kept;
    }))
    (λ plain. rw (more, plain) (record {
      time = ap (option_map (λ (t : Stamp). t.ms)) stamped ∙ ap Some (max_more s.ms ms (ltb-false _ _ more));
      number = ap (option_map (λ (t : Stamp). t.number)) stamped;
      front = ap (option_map (λ (t : Stamp). t.front)) stamped;
    })))

risen_ms : (s : Stamp) (time : List ℕ) (ms : ℕ) → (risen s time ms).ms ≡ max ms s.ms
risen_ms s time ms =
    by_test (nat_lt s.ms ms)
    (λ less. rw less (max_less s.ms ms (ltb-true _ _ less)))
    (λ more. rw more (max_more s.ms ms (ltb-false _ _ more)))

bears : (time : List ℕ) (ms : ℕ) (line : List ℕ) (s : Stamp) (found : Option Rewrite) → time_of time ≡ Some ms → stamp_of line ≡ Some s
    → BearsAfter ms s (written_by time ms line s found)
bears time ms line s None is stamped = bears_plain time ms line s is stamped
bears time ms line s (Some r) is stamped =
    let again = rewritten_again line s (has_parts line s stamped) time ms is r in
    record {
      time = ap (option_map (λ (t : Stamp). t.ms)) again ∙ ap Some (risen_ms s time ms);
      number = ap (option_map (λ (t : Stamp). t.number)) again;
      front = ap (option_map (λ (t : Stamp). t.front)) again;
    }

written_bears : (time : List ℕ) (ms : ℕ) (line : List ℕ) (change : Option Rewrite) (found : Option Stamp) → time_of time ≡ Some ms → stamp_of line ≡ found
    → StaysAfter ms line (written_of time ms line found change)
written_bears time ms line change None is found = record {
  time = rw found refl;
  number = rw found refl;
  front = rw found refl;
}
written_bears time ms line change (Some s) is found =
    let now = bears time ms line s (fitting change s.rest) is found in
    record {
      time = now.time ∙ sym (ap (λ (f : Option Stamp). option_map (λ (n : ℕ). max ms n) (option_map (λ (t : Stamp). t.ms) f)) found);
      number = now.number ∙ sym (ap (option_map (λ (t : Stamp). t.number)) found);
      front = now.front ∙ sym (ap (option_map (λ (t : Stamp). t.front)) found);
    }

pub written_stays : (time : List ℕ) (ms : ℕ) (line : List ℕ) (change : Option Rewrite) → time_of time ≡ Some ms → StaysAfter ms line (written_after time ms line change)
written_stays time ms line change is = written_bears time ms line change (stamp_of line) is refl

-- ---- pieces of lines

pub rewritten_pieces : (out n1 n2 n3 text tail : List ℕ) (s made : Stamp) (time : List ℕ) (ms : ℕ) (r : Rewrite) → made ≡ risen s time ms → text ≡ r.text
    → n1 ≡ out ++ line_of (record made { rest = text }) → n2 ≡ n1 ++ tail → tail ≡ drop r.len s.rest
    → n3 ≡ n2 ++ 29 ∷ change_mark s.time s.serial (length text) (take r.len s.rest) → n3 ≡ out ++ line_of (rewritten s time ms r)
rewritten_pieces out n1 n2 n3 text tail s made time ms r is same e1 e2 rest e3 =
    rw (e3, e2, e1, rest, same, is) (simp append_assoc refl)
