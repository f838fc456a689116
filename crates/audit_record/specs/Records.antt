-- The record that a line spells, as a relation between the whole line and the record.
use Rattle.std.specs.Prelude.{◌≡◌, ℕ, List, Option, None, Some, codes, if◌then◌else◌, ⊤}
use Rattle.std.specs.Option.{option_and_then}
use Rattle.std.specs.Str.{bytes_eq}
use Rattle.flow_base.specs.declared.types.Device.{Device}
use Rattle.flow_base.specs.declared.types.FileId.{FileId}
use Rattle.audit_lex.specs.UsedLine.{IsUsedLine}
use Rattle.audit_lex.specs.Pieces.{named_pieces}
use Rattle.audit_lex.specs.Tokens.{NameValue, value_in}
use Rattle.audit_lex.specs.FieldTable.{name_of}
use Rattle.audit_lex.specs.LineFields.{field_in_line, reads_if_there, text_if_there}
use Rattle.audit_lex.specs.LineClass.{Used, text_class}
use Rattle.audit_lex.specs.Values.{dec32_of, dec64_of, signed_of, hex32_of, hex64_of, device_of, handle_of, yesno_of, text_of, bytes_of}
use Rattle.audit_lex.specs.declared.header.EventKey.{EventKey}
use Rattle.audit_lex.specs.declared.fields.Kind.{Kind}
use Rattle.audit_lex.specs.declared.fields.Kind.TheVariants as kind
use Rattle.audit_lex.specs.declared.fields.Field.{Field}
use Rattle.audit_lex.specs.declared.fields.Field.TheVariants as field
use Rattle.audit_record.specs.declared.types.Syscall.{Syscall}
use Rattle.audit_record.specs.declared.types.PathItem.{PathItem}
use Rattle.audit_record.specs.declared.types.NameKind.{NameKind}
use Rattle.audit_record.specs.declared.types.NameKind.TheVariants as named
use Rattle.audit_record.specs.declared.types.Body.{Body}
use Rattle.audit_record.specs.declared.types.Body.TheVariants as body
use Rattle.audit_record.specs.declared.types.Record.{Record}

-- a value that must be there spells this
abbrev pub Says : {A : Type 0} → (List ℕ → Option A) → Option (List ℕ) → A → Type 0
Says reads value a = option_and_then reads value ≡ Some a

-- a value that may be left out spells this; if it isn't there, this is nothing
abbrev pub MaySay : {A : Type 0} → (List ℕ → Option A) → Option (List ℕ) → Option A → Type 0
MaySay reads value a = reads_if_there reads value ≡ Some a

-- the values of a call's fields spell what the call says
pub record SpellsSyscall (value : Field → Option (List ℕ)) (call : Syscall) : Type 0 where
  pub arch : Says hex32_of (value field.Arch) call.arch
  pub number : Says dec32_of (value field.Syscall) call.number
  pub success : MaySay yesno_of (value field.Success) call.success
  pub exit : MaySay signed_of (value field.Exit) call.exit
  pub a0 : Says hex64_of (value field.A0) call.a0
  pub a1 : Says hex64_of (value field.A1) call.a1
  pub a2 : Says hex64_of (value field.A2) call.a2
  pub a3 : Says hex64_of (value field.A3) call.a3
  pub ppid : Says dec32_of (value field.Ppid) call.ppid
  pub pid : Says dec32_of (value field.Pid) call.pid
  pub exe : text_if_there (value field.Exe) ≡ Some call.exe

-- the file, if both numbers are there
abbrev pub file_from : Option ℕ → Option Device → Option FileId
file_from (Some ino) (Some device) = Some (record { device = device; ino = ino })
file_from _ _ = None

-- the kind that a word names
abbrev pub name_kind : List ℕ → NameKind
name_kind word =
    if bytes_eq word (codes "NORMAL") then named.Normal else
    if bytes_eq word (codes "PARENT") then named.Parent else
    if bytes_eq word (codes "DELETE") then named.Delete else
    if bytes_eq word (codes "CREATE") then named.Create else
    named.Unknown

-- the kind by `nametype`, or else by `objtype`, or else Normal
abbrev pub name_kind_from : Option (List ℕ) → Option (List ℕ) → NameKind
name_kind_from (Some nametype) objtype = name_kind nametype
name_kind_from None (Some objtype) = name_kind objtype
name_kind_from None None = named.Normal

-- the values of a path's fields spell what the path says
pub record SpellsPath (value : Field → Option (List ℕ)) (path : PathItem) : Type 0 where
  pub item : Says dec32_of (value field.Item) path.item
  pub name : Says text_of (value field.Name) path.name
  pub inode : Option ℕ
  pub inode_is : MaySay dec64_of (value field.Inode) inode
  pub device : Option Device
  pub device_is : MaySay device_of (value field.Dev) device
  pub file : path.file ≡ file_from inode device
  pub kind : path.kind ≡ name_kind_from (value field.Nametype) (value field.Objtype)

-- the values of a pair's fields spell its two descriptors
pub record SpellsPair (value : Field → Option (List ℕ)) (first second : ℕ) : Type 0 where
  pub first_is : Says dec32_of (value field.Fd0) first
  pub second_is : Says dec32_of (value field.Fd1) second

-- the values of the fields of a kind spell what the body says
abbrev pub SpellsBody : Kind → (Field → Option (List ℕ)) → Body → Type 0
SpellsBody kind.Syscall value (body.Syscall call) = SpellsSyscall value call
SpellsBody kind.Path value (body.Path path) = SpellsPath value path
SpellsBody kind.Cwd value (body.Cwd text) = Says text_of (value field.Cwd) text
SpellsBody kind.Sockaddr value (body.Sockaddr bytes) = Says bytes_of (value field.Saddr) bytes
SpellsBody kind.FdPair value (body.FdPair first second) = SpellsPair value first second
SpellsBody kind.Mmap value (body.Mmap fd) = Says handle_of (value field.Fd) fd
SpellsBody kind.Proctitle value body.Proctitle = ⊤
SpellsBody kind.Eoe value body.Eoe = ⊤
SpellsBody _ value _ = ⊥

-- the value of the first token of a field's name
abbrev pub first_value : List NameValue → Field → Option (List ℕ)
first_value tokens field = value_in tokens (name_of field)

-- the line can be written as a used one of the record's key, and the first tokens of its fields' names spell what the
-- record says
pub record Spells (line : List ℕ) (said : Record) : Type 0 where
  pub kind : Kind
  pub written : IsUsedLine line said.key kind
  pub text : said.line ≡ line
  pub body : SpellsBody kind (first_value (named_pieces written.pieces)) said.body

-- the line is a used one of this key
abbrev pub IsUsed : List ℕ → EventKey → Type 0
IsUsed line key = (kind : Kind) × (text_class line ≡ Used key kind)

-- the value of a field in a line
abbrev pub value_in_line : List ℕ → Field → Option (List ℕ)
value_in_line line field = field_in_line line (name_of field)
