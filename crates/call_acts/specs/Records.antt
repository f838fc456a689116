-- What the records of an event say beside its call. Records stand in the order of arrival.
use Rattle.std.specs.Prelude.{ℕ, ◌||◌, ◌&&◌, Bool, true, false, List, [], ◌∷◌, Option, None, Some, is_some, option_map, if◌then◌else◌}
use Rattle.std.specs.Option.{option_and_then, option_or}
use Rattle.std.specs.List.{flat_map, last_or}
use Rattle.audit_record.specs.declared.types.Record.{Record}
use Rattle.audit_record.specs.declared.types.Body.{Body}
use Rattle.audit_record.specs.declared.types.Body.TheVariants as body
use Rattle.audit_record.specs.declared.types.Syscall.{Syscall}
use Rattle.audit_record.specs.declared.types.PathItem.{PathItem}
use Rattle.audit_record.specs.declared.types.NameKind.{NameKind}
use Rattle.audit_record.specs.declared.types.NameKind.TheVariants as named
use Rattle.name_text.specs.Paths.{joined}
use Rattle.name_text.specs.Addresses.{key_of}
use Rattle.acts.specs.declared.act.FileRef.{FileRef}

-- ---- the first record of a kind

-- what the first of these records says that says something
abbrev pub first_of : {A : Type 0} → (Body → Option A) → List Record → Option A
first_of says [] = None
first_of says (r ∷ records) = option_or (says r.body) (first_of says records)

-- the call of a body
abbrev pub call_in : Body → Option Syscall
call_in (body.Syscall call) = Some call
call_in other = None

-- the working directory of a body, which may be absent by its word
abbrev pub cwd_in : Body → Option (Option (List ℕ))
cwd_in (body.Cwd text) = Some text
cwd_in other = None

-- the address of a body
abbrev pub sockaddr_in : Body → Option (List ℕ)
sockaddr_in (body.Sockaddr bytes) = Some bytes
sockaddr_in other = None

-- the two descriptors of a body
abbrev pub pair_in : Body → Option (ℕ × ℕ)
pair_in (body.FdPair first second) = Some (first, second)
pair_in other = None

-- the mapped descriptor of a body
abbrev pub mapped_in : Body → Option ℕ
mapped_in (body.Mmap fd) = Some fd
mapped_in other = None

-- the call of an event
abbrev pub call : List Record → Option Syscall
call records = first_of call_in records

-- a text that may be absent, if it may not be there
abbrev pub text_or_none : Option (Option (List ℕ)) → Option (List ℕ)
text_or_none None = None
text_or_none (Some text) = text

-- the working directory of an event; if its first record has none, there is none
abbrev pub cwd : List Record → Option (List ℕ)
cwd records = text_or_none (first_of cwd_in records)

-- the address key of an event, if its first record of an address holds one
abbrev pub address : List Record → Option (List ℕ)
address records = option_and_then key_of (first_of sockaddr_in records)

-- the two descriptors of an event
abbrev pub pair : List Record → Option (ℕ × ℕ)
pair records = first_of pair_in records

-- the mapped descriptor of an event
abbrev pub mapped : List Record → Option ℕ
mapped records = first_of mapped_in records

-- ---- the paths

-- a path names a file if it has a file number or a name
abbrev pub names_file : PathItem → Bool
names_file item = is_some item.file || is_some item.name

-- two kinds are one
abbrev pub same_kind : NameKind → NameKind → Bool
same_kind named.Normal named.Normal = true
same_kind named.Parent named.Parent = true
same_kind named.Delete named.Delete = true
same_kind named.Create named.Create = true
same_kind named.Unknown named.Unknown = true
same_kind a b = false

-- the path of a body, if it has this kind and names a file
abbrev pub path_in : NameKind → Body → List PathItem
path_in kind (body.Path item) = if same_kind item.kind kind && names_file item then item ∷ [] else []
path_in kind other = []

-- the paths of this kind that name a file
abbrev pub paths : NameKind → List Record → List PathItem
paths kind records = flat_map (λ r. path_in kind r.body) records

-- the last path of kind Create that names a file, else the last of kind Normal, else the last of kind Unknown
abbrev pub target : List Record → Option PathItem
target records =
    last_or (last_or (last_or None (paths named.Unknown records)) (paths named.Normal records)) (paths named.Create records)

-- the file of a path in a working directory: its number, and its name joined with the directory, absent if the name is
abbrev pub file_in : ℕ → Option (List ℕ) → PathItem → FileRef
file_in limit cwd item = record { file = item.file; path = option_map (λ name. joined cwd name limit) item.name }

-- the file of a path of an event, in its working directory
abbrev pub file_of : ℕ → List Record → PathItem → FileRef
file_of limit records item = file_in limit (cwd records) item
