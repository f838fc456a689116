-- The parts of a line stand where their lengths say.
use Rattle.std.proofs.Common.{◌≡◌, ◌<◌, ◌+◌, ◌∙◌, sym, refl, ap, subst, ℕ, List, ◌∷◌, ◌++◌, length, take, drop, Option, None, Some, arith, length-append}
use Rattle.std.proofs.Math.Seq.{take-append_seam, drop-append-add}
use Rattle.order_text.specs.Stamp.{Stamp, line_of, stamp_of, time_of}
use Rattle.order_queue.specs.Marks.{past, parts_at, FitsLine, AreMarks}
use Rattle.order_queue.specs.declared.marks.Marks.{Marks}
use Rattle.order_text.proofs.UndoLemmas.{has_parts}

past_part : (part rest : List ℕ) (byte : ℕ) → past (length part) (part ++ byte ∷ rest) ≡ rest
past_part part rest byte = drop-append-add part (byte ∷ rest) 1

within : (part rest : List ℕ) (byte : ℕ) → length part < length (part ++ byte ∷ rest)
within part rest byte = omega (arith, length-append part (byte ∷ rest))

-- the lengths of parts
abbrev pub marks : Stamp → Marks
marks s = record { front = length s.front; time = length s.time; serial = length s.serial; ms = s.ms; number = s.number }

after_front : (s : Stamp) → past (length s.front) (line_of s) ≡ s.time ++ 58 ∷ (s.serial ++ 41 ∷ s.rest)
after_front s = past_part s.front (s.time ++ 58 ∷ (s.serial ++ 41 ∷ s.rest)) 40

after_time : (s : Stamp) → past (length s.time) (past (length s.front) (line_of s)) ≡ s.serial ++ 41 ∷ s.rest
after_time s = ap (past (length s.time)) (after_front s) ∙ past_part s.time (s.serial ++ 41 ∷ s.rest) 58

after_serial : (s : Stamp) → past (length s.serial) (past (length s.time) (past (length s.front) (line_of s))) ≡ s.rest
after_serial s = ap (past (length s.serial)) (after_time s) ∙ past_part s.serial s.rest 41

parts_again : (s : Stamp) → s ≡ parts_at (line_of s) (marks s)
parts_again s = λ i. record {
  front = sym (take-append_seam s.front (40 ∷ (s.time ++ 58 ∷ (s.serial ++ 41 ∷ s.rest)))) i;
  time = sym (ap (take (length s.time)) (after_front s) ∙ take-append_seam s.time (58 ∷ (s.serial ++ 41 ∷ s.rest))) i;
  serial = sym (ap (take (length s.serial)) (after_time s) ∙ take-append_seam s.serial (41 ∷ s.rest)) i;
  rest = sym (after_serial s) i;
  ms = s.ms;
  number = s.number;
}

fits : (s : Stamp) → FitsLine (marks s) (line_of s)
fits s = record {
  front = within s.front (s.time ++ 58 ∷ (s.serial ++ 41 ∷ s.rest)) 40;
  time = subst (λ (t : List ℕ). length s.time < length t) (sym (after_front s)) (within s.time (s.serial ++ 41 ∷ s.rest) 58);
  serial = subst (λ (t : List ℕ). length s.serial < length t) (sym (after_time s)) (within s.serial s.rest 41);
}

pub marked : (line : List ℕ) (s : Stamp) → Some s ≡ stamp_of line → AreMarks (Some (marks s)) line
marked line s is =
    let whole = (has_parts line s (sym is)).whole in (
      subst (FitsLine (marks s)) (sym whole) (fits s),
      sym is ∙ ap Some (parts_again s ∙ ap (λ (l : List ℕ). parts_at l (marks s)) (sym whole)),
    )

pub timed : (line : List ℕ) (s : Stamp) → stamp_of line ≡ Some s → time_of s.time ≡ Some s.ms
timed line s is = (has_parts line s is).time
