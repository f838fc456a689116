-- What a line says, by its kind and its fields.
use Rattle.std.specs.Prelude.{ℕ, ◌%◌, ◌^◌, ◌==◌, ◌||◌, Bool, false, List, Option, None, Some, option_map, codes, nat_eq, if◌then◌else◌}
use Rattle.std.specs.List.{list_any, slice_split, starts_with}
use Rattle.std.specs.Option.{option_and_then}
use Rattle.std.specs.Str.{bytes_eq}
use Rattle.audit_lex.specs.LineClass.{Class, Used, class_of}
use Rattle.audit_lex.specs.LineFields.{field_in_line}
use Rattle.audit_lex.specs.Values.{dec32_of, hex64_of, text_of, bytes_of}
use Rattle.audit_lex.specs.declared.fields.Kind.{Kind}
use Rattle.audit_lex.specs.declared.fields.Kind.TheVariants as kind
use Rattle.order_rules.specs.declared.call.Act.{Act}
use Rattle.order_rules.specs.declared.call.Act.TheVariants as act
use Rattle.order_rules.specs.declared.call.Call.{Call}
use Rattle.order_rules.specs.declared.call.Args.{Args}
use Rattle.order_lines.specs.Own.{own_in}
use Rattle.order_lines.specs.declared.own.Own.{Own}
use Rattle.order_rules.specs.Copies.{owning}
use Rattle.order_rules.specs.Calls.{act_with, asks_with}
use Rattle.order_rules.specs.Deeds.{Deed, Calls, Stands, Names, Addresses}

-- whether a field of a line has this text
abbrev pub is_text : List ℕ → Option (List ℕ) → Bool
is_text text None = false
is_text text (Some found) = bytes_eq found text

abbrev pub has_text : List ℕ → List ℕ → List ℕ → Bool
has_text line name text = is_text text (field_in_line line name)

-- the number that a field of a line spells
abbrev pub number_in : List ℕ → List ℕ → Option ℕ
number_in line name = option_and_then dec32_of (field_in_line line name)

-- the low 32 bits of the number that a field of a line spells in hex digits
abbrev pub low_bits : ℕ → ℕ
low_bits number = number % 2 ^ 32

abbrev pub low_in : List ℕ → List ℕ → Option ℕ
low_in line name = option_map low_bits (option_and_then hex64_of (field_in_line line name))

-- the text that a value spells; none if it is absent by its word
abbrev pub inner : Option (Option (List ℕ)) → Option (List ℕ)
inner None = None
inner (Some text) = text

abbrev pub text_in : List ℕ → List ℕ → Option (List ℕ)
text_in line name = inner (option_and_then text_of (field_in_line line name))

-- the bytes that a value spells
abbrev pub bytes_in : List ℕ → List ℕ → Option (List ℕ)
bytes_in line name = option_and_then bytes_of (field_in_line line name)

-- ---- calls

-- the arguments of a call
abbrev pub args_in : List ℕ → Args
args_in line = record {
  first = low_in line (codes "a0");
  second = low_in line (codes "a1");
  third = low_in line (codes "a2");
  fourth = low_in line (codes "a3");
}

abbrev pub is_done : List ℕ → Bool
is_done line = has_text line (codes "success") (codes "yes")

-- whether a call has begun what isn't done so far, by the answer EINPROGRESS
abbrev pub is_begun : List ℕ → Bool
is_begun line = has_text line (codes "exit") (codes "-115")

-- what a call does: the end of a process has no answer, and a call that fails does nothing
abbrev pub act_in : List ℕ → ℕ → Act
act_in line number =
    if number == 231 then act.Ends
    else if is_done line then act_with number (number_in line (codes "exit")) (args_in line) else act.Nothing

-- the call of a record of x86-64 whose process and number are there
abbrev pub call_from : List ℕ → Option ℕ → Option ℕ → Option Call
call_from line (Some pid) (Some number) =
    if has_text line (codes "arch") (codes "c000003e")
    then Some (record { pid = pid; act = act_in line number; asks = asks_with number (is_done line) (is_begun line) (args_in line) })
    else None
call_from line _ _ = None

abbrev pub call_in : List ℕ → Option Call
call_in line = call_from line (number_in line (codes "pid")) (number_in line (codes "syscall"))

-- ---- paths

abbrev pub is_blank : ℕ → Bool
is_blank byte = byte == 32

-- whether a word of a line begins as the mode of a directory does
abbrev pub is_directory_mode : List ℕ → Bool
is_directory_mode word = starts_with nat_eq word (codes "mode=04")

abbrev pub has_directory_mode : List ℕ → Bool
has_directory_mode line = list_any is_directory_mode (slice_split is_blank line)

-- the name that a path's record has, if it is a directory
abbrev pub directory_name : List ℕ → Option (List ℕ)
directory_name line = if has_directory_mode line then text_in line (codes "name") else None

-- whether a path is that of what its call opened
abbrev pub is_path_opened : List ℕ → Bool
is_path_opened line = has_text line (codes "nametype") (codes "NORMAL") || has_text line (codes "nametype") (codes "CREATE")

-- What the record of a path says that was opened: a name of a descriptor is seen before the call's own record, and stands for it till then.
-- Another path is what the call has opened.
abbrev pub path_said : Option Own → List ℕ → Deed
path_said None line = Names (directory_name line)
path_said (Some own) line = Calls (owning own)

-- what a path's record says
abbrev pub path_deed : List ℕ → Option Deed
path_deed line = if is_path_opened line then Some (path_said (own_in line) line) else None

-- what a line of a kind says
abbrev pub deed_of_kind : List ℕ → Kind → Option Deed
deed_of_kind line kind.Syscall = option_map Calls (call_in line)
deed_of_kind line kind.Cwd = Some (Stands (text_in line (codes "cwd")))
deed_of_kind line kind.Path = path_deed line
deed_of_kind line kind.Sockaddr = option_map Addresses (bytes_in line (codes "saddr"))
deed_of_kind line _ = None
