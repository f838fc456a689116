-- How often a file number was born, and the key of a file. Every list of acts is ordered newest first.
use Rattle.std.specs.Prelude.{◌==◌, ◌&&◌, ℕ, ◌+◌, Bool, false, List, [], ◌∷◌, if◌then◌else◌, Option, None, Some}
use Rattle.flow_base.specs.declared.types.FileId.{FileId}
use Rattle.flow_base.specs.declared.types.Key.{Key}
use Rattle.flow_base.specs.declared.types.Key.TheVariants.{Inode, Path}
use Rattle.acts.specs.declared.act.FileRef.{FileRef}
use Rattle.acts.specs.declared.act.Act.{Act}
use Rattle.acts.specs.declared.act.Act.TheVariants.{Birth}

-- two file numbers are one
abbrev pub same_file : FileId → FileId → Bool
same_file a b = (a.device.major == b.device.major && a.device.minor == b.device.minor) && a.ino == b.ino

-- the file has this number
abbrev pub has_number : Option FileId → FileId → Bool
has_number None id = false
has_number (Some file) id = same_file file id

-- the act is a birth of this file number
abbrev pub is_birth_of : Act → FileId → Bool
is_birth_of (Birth file) id = has_number file.file id
is_birth_of other id = false

-- how many acts are a birth of this file number
abbrev pub born : List Act → FileId → ℕ
born [] id = 0
born (act ∷ before) id = if is_birth_of act id then born before id + 1 else born before id

-- the path, or no bytes
abbrev pub path_or_none : Option (List ℕ) → List ℕ
path_or_none None = []
path_or_none (Some path) = path

-- the key of a file with this number and this path
abbrev pub key_by : List Act → Option FileId → Option (List ℕ) → Key
key_by acts None path = Path (path_or_none path)
key_by acts (Some id) path = Inode id (born acts id)

-- the key of a file after these acts: its number with how often it was born, or else its path
abbrev pub file_key : List Act → FileRef → Key
file_key acts file = key_by acts file.file file.path
