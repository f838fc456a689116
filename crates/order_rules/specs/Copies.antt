-- Opens of descriptors by their names, which are written as copies.
use Rattle.std.specs.Prelude.{ℕ, ◌-◌, ◌==◌, Bool, true, List, [], ◌∷◌, ◌++◌, length, Option, None, Some, option_map, codes, if◌then◌else◌}
use Rattle.std.specs.Option.{option_and_then}
use Rattle.hex.specs.Hex.{encode_lower}
use Rattle.audit_lex.specs.Header.{behind}
use Rattle.order_lines.specs.declared.own.Own.{Own}
use Rattle.order_text.specs.Cut.{Parts, first_cut}
use Rattle.order_text.specs.Stamp.{Stamp, stamp_of}
use Rattle.order_text.specs.declared.rewrite.Rewrite.{Rewrite}
use Rattle.order_rules.specs.declared.call.Act.{Act}
use Rattle.order_rules.specs.declared.call.Act.TheVariants as act
use Rattle.order_rules.specs.declared.call.Asks.{Asks}
use Rattle.order_rules.specs.declared.call.Asks.TheVariants as asks
use Rattle.order_rules.specs.declared.call.Call.{Call}

-- what stands for the record of a descriptor's name: its event's call comes after it
abbrev pub owning : Own → Call
owning own = record { pid = 0; act = act.Nothing; asks = asks.Owns own }

-- the descriptor that records before a call's own have named
abbrev pub owned_by : Asks → Option Own
owned_by (asks.Owns own) = Some own
owned_by _ = None

-- whether a name means a descriptor of this process, if it uses the name
abbrev pub is_pid : Option ℕ → ℕ → Bool
is_pid None pid = true
is_pid (Some of) pid = of == pid

abbrev pub is_of : Own → ℕ → Bool
is_of own pid = is_pid own.pid pid

-- a word after these bytes, and what stands after it and a blank
abbrev pub word_after : List ℕ → List ℕ → Option Parts
word_after lead text = option_and_then (first_cut 32) (behind lead text)

-- what stands after the first two arguments of a call and a blank
abbrev pub after_second : Parts → Option (List ℕ)
after_second first = option_map (λ second. second.1) (word_after (codes "a1=") first.1)

abbrev pub after_args : List ℕ → Option (List ℕ)
after_args text = option_and_then after_second (word_after (codes "a0=") text)

-- the answer of a call, and what stands after its second argument and a blank
abbrev pub with_answer : Parts → Option Parts
with_answer answer = option_map (λ after. (answer.0, after)) (after_args answer.1)

abbrev pub after_number : Parts → Option Parts
after_number number = option_and_then with_answer (word_after (codes "success=yes exit=") number.1)

abbrev pub words_of : List ℕ → Option Parts
words_of rest = option_and_then after_number (word_after (codes ": arch=c000003e syscall=") rest)

-- F_DUPFD, or F_DUPFD_CLOEXEC if an exec closes the copy
abbrev pub command : Bool → List ℕ
command stays = if stays then codes " a1=0" else codes " a1=406"

-- what the record of a copy says in place of what stood before its third argument
abbrev pub copy_text : ℕ → Bool → List ℕ → List ℕ
copy_text fd stays answer =
    codes ": arch=c000003e syscall=72 success=yes exit=" ++ answer ++ codes " a0=" ++ encode_lower (fd ∷ []) ++ command stays

abbrev pub copied_with : ℕ → Bool → List ℕ → Parts → Rewrite
copied_with fd stays rest words = record { len = length rest - length words.1 - 1; text = copy_text fd stays words.0 }

abbrev pub copy_rest : ℕ → Bool → List ℕ → Option Rewrite
copy_rest fd stays rest = option_map (copied_with fd stays rest) (words_of rest)

-- the record of a call as that of a copy of this descriptor
abbrev pub copy_stamped : ℕ → Bool → Stamp → Option Rewrite
copy_stamped fd stays s = copy_rest fd stays s.rest

abbrev pub copy_line : ℕ → Bool → List ℕ → Option Rewrite
copy_line fd stays line = option_and_then (copy_stamped fd stays) (stamp_of line)

-- the same, if the call is an open by the process whose descriptor it is
abbrev pub open_as : Own → List ℕ → ℕ → Act → Option Rewrite
open_as own line pid (act.Opens fd stays) = if is_of own pid then copy_line own.fd stays line else None
open_as own line pid _ = None

-- the record of a call as that of a copy, if the call has opened this descriptor by its name
abbrev pub rewrite_call : Bool → Option Own → List ℕ → Option Call → Option Rewrite
rewrite_call on (Some own) line (Some call) = if on then open_as own line call.pid call.act else None
rewrite_call on _ line _ = None
