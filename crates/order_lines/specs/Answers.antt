-- The record of a call with another answer.
use Rattle.std.specs.Prelude.{ℕ, ◌+◌, ◌-◌, List, ◌++◌, length, take, drop, Option, None, Some, codes, decimal}
use Rattle.std.specs.Option.{option_and_then}
use Rattle.audit_lex.specs.Header.{behind}
use Rattle.order_text.specs.Cut.{Parts, first_cut}
use Rattle.order_text.specs.declared.rewrite.Rewrite.{Rewrite}
use Rattle.order_lines.specs.Rules.{value_at}

-- a word after these bytes, and what stands after it and a blank
abbrev pub after_word : List ℕ → List ℕ → Option Parts
after_word lead text = option_and_then (first_cut 32) (behind lead text)

-- a text without its first word and a blank, if that begins so
abbrev pub after_cut : List ℕ → Option Parts → List ℕ
after_cut text None = text
after_cut text (Some parts) = parts.1

abbrev pub without_word : List ℕ → List ℕ → List ℕ
without_word lead text = after_cut text (after_word lead text)

-- the text that begins with the answer of a call that has succeeded, if the record of the call begins as the kernel writes it
abbrev pub after_number : Parts → Option (List ℕ)
after_number number = behind (codes "success=yes exit=") (without_word (codes "per=") number.1)

abbrev pub after_arch : Parts → Option (List ℕ)
after_arch arch = option_and_then after_number (after_word (codes "syscall=") arch.1)

abbrev pub answer_at : List ℕ → Option (List ℕ)
answer_at rest = option_and_then after_arch (after_word (codes ": arch=") rest)

-- what stands before an answer after a rewrite of the record's beginning
abbrev pub changed_front : Option Rewrite → List ℕ → List ℕ
changed_front None front = front
changed_front (Some r) front = r.text ++ drop r.len front

-- a record with another answer, which begins this text, and with a rewrite of its beginning
abbrev pub answer_before : List ℕ → ℕ → Option Rewrite → List ℕ → Rewrite
answer_before rest answer change tail = record {
  len = length rest - length tail + length (value_at tail);
  text = changed_front change (take (length rest - length tail) rest) ++ decimal answer;
}

abbrev pub answered_at : List ℕ → ℕ → Option Rewrite → Option (List ℕ) → Option Rewrite
answered_at rest answer change None = change
answered_at rest answer change (Some tail) = Some (answer_before rest answer change tail)

-- how the text after a stamp is rewritten if the call of the record has this answer, beside another rewrite
abbrev pub with_answer : List ℕ → ℕ → Option Rewrite → Option Rewrite
with_answer rest answer change = answered_at rest answer change (answer_at rest)
