-- The fields of a line, and what they spell.
use Rattle.std.specs.Prelude.{ℕ, List, Option, None, Some, IsSome, option_map, ⊤}
use Rattle.std.specs.Option.{option_and_then}
use Rattle.audit_lex.specs.Header.{head_of}
use Rattle.audit_lex.specs.Tokens.{field_of}
use Rattle.audit_lex.specs.FieldTable.{name_of}
use Rattle.audit_lex.specs.Values.{dec32_of, dec64_of, signed_of, hex32_of, hex64_of, device_of, handle_of, yesno_of, text_of, bytes_of}
use Rattle.audit_lex.specs.declared.fields.Kind.{Kind}
use Rattle.audit_lex.specs.declared.fields.Kind.TheVariants as kind
use Rattle.audit_lex.specs.declared.fields.Field.{Field}
use Rattle.audit_lex.specs.declared.fields.Field.TheVariants as field

-- the raw part of a line that begins with a header
abbrev pub raw_part_of : List ℕ → Option (List ℕ)
raw_part_of line = option_map (λ head. head.raw) (head_of line)

-- the value of the first token of this name in a line's raw part
abbrev pub field_in_line : List ℕ → List ℕ → Option (List ℕ)
field_in_line line name = option_and_then (λ raw. field_of raw name) (raw_part_of line)

-- what a field that must be there spells
abbrev pub needed : {A : Type 0} → (List ℕ → Option A) → List ℕ → Field → Option A
needed reads line field = option_and_then reads (field_in_line line (name_of field))

-- what a value spells, if there is one: `Some None` if there is none
abbrev pub reads_if_there : {A : Type 0} → (List ℕ → Option A) → Option (List ℕ) → Option (Option A)
reads_if_there reads None = Some None
reads_if_there reads (Some value) = option_map Some (reads value)

-- what a field that may be left out spells: `Some None` if it isn't there
abbrev pub offered : {A : Type 0} → (List ℕ → Option A) → List ℕ → Field → Option (Option A)
offered reads line field = reads_if_there reads (field_in_line line (name_of field))

-- what a text spells, if there is one; one that is absent by its word is as one that isn't there
abbrev pub text_if_there : Option (List ℕ) → Option (Option (List ℕ))
text_if_there None = Some None
text_if_there (Some value) = text_of value

-- a text that may be left out
abbrev pub offered_text : List ℕ → Field → Option (Option (List ℕ))
offered_text line field = text_if_there (field_in_line line (name_of field))

-- each field of a system call can be read
pub record ReadableSyscall (line : List ℕ) : Type 0 where
  pub arch : IsSome (needed hex32_of line field.Arch)
  pub number : IsSome (needed dec32_of line field.Syscall)
  pub success : IsSome (offered yesno_of line field.Success)
  pub exit : IsSome (offered signed_of line field.Exit)
  pub a0 : IsSome (needed hex64_of line field.A0)
  pub a1 : IsSome (needed hex64_of line field.A1)
  pub a2 : IsSome (needed hex64_of line field.A2)
  pub a3 : IsSome (needed hex64_of line field.A3)
  pub ppid : IsSome (needed dec32_of line field.Ppid)
  pub pid : IsSome (needed dec32_of line field.Pid)
  pub exe : IsSome (offered_text line field.Exe)

-- each field of a path can be read
pub record ReadablePath (line : List ℕ) : Type 0 where
  pub item : IsSome (needed dec32_of line field.Item)
  pub name : IsSome (needed text_of line field.Name)
  pub inode : IsSome (offered dec64_of line field.Inode)
  pub device : IsSome (offered device_of line field.Dev)

-- both descriptors can be read
pub record ReadablePair (line : List ℕ) : Type 0 where
  pub first : IsSome (needed dec32_of line field.Fd0)
  pub second : IsSome (needed dec32_of line field.Fd1)

-- each field of a line of this kind can be read
abbrev pub IsReadable : Kind → List ℕ → Type 0
IsReadable kind.Syscall line = ReadableSyscall line
IsReadable kind.Path line = ReadablePath line
IsReadable kind.Cwd line = IsSome (needed text_of line field.Cwd)
IsReadable kind.Sockaddr line = IsSome (needed bytes_of line field.Saddr)
IsReadable kind.FdPair line = ReadablePair line
IsReadable kind.Mmap line = IsSome (needed handle_of line field.Fd)
IsReadable kind.Proctitle line = ⊤
IsReadable kind.Eoe line = ⊤
