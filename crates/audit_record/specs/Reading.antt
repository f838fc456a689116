-- What a line gives: its record, or the end of an event.
use Rattle.std.specs.Prelude.{◌≡◌, ℕ, Bool, true, false, ℤ, List, Option, None, Some, option_map}
use Rattle.std.specs.Option.{option_and_then}
use Rattle.flow_base.specs.declared.types.Device.{Device}
use Rattle.flow_base.specs.declared.types.FileId.{FileId}
use Rattle.audit_lex.specs.FieldTable.{name_of}
use Rattle.audit_lex.specs.LineClass.{Used, class_of}
use Rattle.audit_lex.specs.LineFields.{reads_if_there, text_if_there}
use Rattle.audit_lex.specs.Scanning.{IsUnused}
use Rattle.audit_lex.specs.Slots.{held_for}
use Rattle.audit_lex.specs.Tokens.{field_of}
use Rattle.audit_lex.specs.Values.{dec32_of, dec64_of, signed_of, hex32_of, hex64_of, device_of, handle_of, yesno_of, text_of, bytes_of}
use Rattle.audit_lex.specs.declared.fields.Field.{Field}
use Rattle.audit_lex.specs.declared.fields.Field.TheVariants as field
use Rattle.audit_lex.specs.declared.fields.Kind.{Kind}
use Rattle.audit_lex.specs.declared.fields.Kind.TheVariants as kind
use Rattle.audit_lex.specs.declared.header.EventKey.{EventKey}
use Rattle.audit_record.specs.Records.{Spells, file_from, name_kind_from}
use Rattle.audit_record.specs.declared.types.Body.{Body}
use Rattle.audit_record.specs.declared.types.Body.TheVariants as body
use Rattle.audit_record.specs.declared.types.Read.{Read}
use Rattle.audit_record.specs.declared.types.Read.TheVariants as read
use Rattle.audit_record.specs.declared.types.NameKind.{NameKind}
use Rattle.audit_record.specs.declared.types.PathItem.{PathItem}
use Rattle.audit_record.specs.declared.types.Record.{Record}
use Rattle.audit_record.specs.declared.types.Syscall.{Syscall}

-- ---- what a line gives

-- the kinds of lines that end their event
abbrev pub is_end : Kind → Bool
is_end kind.Proctitle = true
is_end kind.Eoe = true
is_end _ = false

-- the end of this event, by a line of a kind that ends one, or else the record that the line spells
abbrev pub IsEntryOf : List ℕ → EventKey → Kind → Read → Record → Type 0
IsEntryOf line key kind read.Unused item = ⊥
IsEntryOf line key kind read.Record item = (is_end kind ≡ false) × Spells line item
IsEntryOf line key kind (read.End ended) item = (is_end kind ≡ true) × (ended ≡ key)

-- the line is used, and this is what it gives
pub record IsGivenBy (limit : ℕ) (line : List ℕ) (given : Read) (item : Record) : Type 0 where
  pub key : EventKey
  pub kind : Kind
  pub used : class_of limit line ≡ Used key kind
  pub gives : IsEntryOf line key kind given item

-- a used line gives this record or the end of an event, and another line nothing
abbrev pub GivesEntry : ℕ → List ℕ → Read → Record → Type 0
GivesEntry limit line read.Unused item = IsUnused limit line
GivesEntry limit line given item = IsGivenBy limit line given item

-- ---- what values spell, if each can be read

-- the numbers of a call, without its program
abbrev pub numbers_from : Option ℕ → Option ℕ → Option (Option Bool) → Option (Option ℤ) → Option ℕ → Option ℕ → Option ℕ → Option ℕ → Option ℕ → Option ℕ → Option Syscall
numbers_from arch number success exit a0 a1 a2 a3 ppid pid =
    option_and_then (λ arch.
    option_and_then (λ number.
    option_and_then (λ success.
    option_and_then (λ exit.
    option_and_then (λ a0.
    option_and_then (λ a1.
    option_and_then (λ a2.
    option_and_then (λ a3.
    option_and_then (λ ppid.
    option_and_then (λ pid.
    Some (record { arch = arch; number = number; success = success; exit = exit; a0 = a0; a1 = a1; a2 = a2; a3 = a3; ppid = ppid; pid = pid; exe = None }))
    pid) ppid) a3) a2) a1) a0) exit) success) number) arch

-- a call by its numbers and its program
abbrev pub call_from : Option Syscall → Option (Option (List ℕ)) → Option Syscall
call_from numbers exe = option_and_then (λ call. option_map (λ exe. record call { exe = exe }) exe) numbers

-- the numbers of a call by the values of its fields
abbrev pub numbers_of : (Field → Option (List ℕ)) → Option Syscall
numbers_of value = numbers_from
    (option_and_then hex32_of (value field.Arch))
    (option_and_then dec32_of (value field.Syscall))
    (reads_if_there yesno_of (value field.Success))
    (reads_if_there signed_of (value field.Exit))
    (option_and_then hex64_of (value field.A0))
    (option_and_then hex64_of (value field.A1))
    (option_and_then hex64_of (value field.A2))
    (option_and_then hex64_of (value field.A3))
    (option_and_then dec32_of (value field.Ppid))
    (option_and_then dec32_of (value field.Pid))

-- a call by the values of its fields
abbrev pub call_of : (Field → Option (List ℕ)) → Option Syscall
call_of value = call_from (numbers_of value) (text_if_there (value field.Exe))

-- the number and the file of a path
abbrev pub item_from : Option ℕ → Option (Option ℕ) → Option (Option Device) → Option (ℕ × Option FileId)
item_from item inode device =
    option_and_then (λ item. option_and_then (λ inode. option_map (λ device. (item, file_from inode device)) device) inode) item

-- the number and the file of a path by the values of its fields
abbrev pub item_of : (Field → Option (List ℕ)) → Option (ℕ × Option FileId)
item_of value = item_from
    (option_and_then dec32_of (value field.Item))
    (reads_if_there dec64_of (value field.Inode))
    (reads_if_there device_of (value field.Dev))

-- a path by its parts
abbrev pub path_from : Option (ℕ × Option FileId) → Option (Option (List ℕ)) → NameKind → Option PathItem
path_from numbers name kind =
    option_and_then (λ both. option_map (λ text. record { item = both.0; name = text; file = both.1; kind = kind }) name) numbers

-- a path by the values of its fields
abbrev pub path_of : (Field → Option (List ℕ)) → Option PathItem
path_of value = path_from (item_of value) (option_and_then text_of (value field.Name)) (name_kind_from (value field.Nametype) (value field.Objtype))

-- a pair by its descriptors
abbrev pub pair_from : Option ℕ → Option ℕ → Option Body
pair_from first second = option_and_then (λ first. option_map (λ second. body.FdPair first second) second) first

-- the body of a record of this kind by the values of its fields
abbrev pub body_of : Kind → (Field → Option (List ℕ)) → Option Body
body_of kind.Syscall value = option_map body.Syscall (call_of value)
body_of kind.Path value = option_map body.Path (path_of value)
body_of kind.Cwd value = option_map body.Cwd (option_and_then text_of (value field.Cwd))
body_of kind.Sockaddr value = option_map body.Sockaddr (option_and_then bytes_of (value field.Saddr))
body_of kind.FdPair value = pair_from (option_and_then dec32_of (value field.Fd0)) (option_and_then dec32_of (value field.Fd1))
body_of kind.Mmap value = option_map body.Mmap (option_and_then handle_of (value field.Fd))
body_of kind.Proctitle value = Some body.Proctitle
body_of kind.Eoe value = Some body.Eoe

-- the value of a field: what its slot holds, or else the first token of its name in the raw part
abbrev pub scanned_value : List (Option (List ℕ)) → List ℕ → Field → Option (List ℕ)
scanned_value slots raw field.Objtype = field_of raw (name_of field.Objtype)
scanned_value slots raw field = held_for slots field

-- the record of this body
abbrev pub record_with : EventKey → List ℕ → Body → Record
record_with key line said = record { key = key; line = line; body = said }

-- what was read, if it could be
abbrev pub if_read : {A : Type 0} → Bool → A → Option A
if_read true a = Some a
if_read false a = None

-- ---- the kind of a body

-- the body of a call
abbrev pub IsCall : Body → Type 0
IsCall said = (call : Syscall) × (said ≡ body.Syscall call)

-- the body of a path
abbrev pub IsPath : Body → Type 0
IsPath said = (path : PathItem) × (said ≡ body.Path path)

-- the body of a working directory
abbrev pub IsCwd : Body → Type 0
IsCwd said = (text : Option (List ℕ)) × (said ≡ body.Cwd text)
