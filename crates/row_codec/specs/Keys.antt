-- Keys and objects: a byte for the kind, and the fields of the kind.
use Rattle.std.specs.Prelude.{◌≡◌, ℕ, zero, suc, ◌<◌, ◌^◌, List, [], ◌∷◌, ◌++◌, length, Option, Some, None, Bool, true, ⊤}
use Rattle.flow_base.specs.declared.types.FileId.{FileId}
use Rattle.flow_base.specs.declared.types.Key.{Key}
use Rattle.flow_base.specs.declared.types.Key.TheVariants.{Process, Inode, Path, Address, Made, Lost}
use Rattle.acts.specs.declared.held.Held.{Held}
use Rattle.acts.specs.declared.held.Object.{Object}
use Rattle.acts.specs.declared.held.Object.TheVariants.{File, Pipe, Sock}
use Rattle.row_codec.specs.Parsing.{Parsed, ◌>>=◌, both_at, seen_at, byte_at, text, text_at}
use Rattle.row_codec.specs.Fields.{n4, n4_at, n8, n8_at, flag, flag_at}

-- ---- a file number: major n4, minor n4, ino n8

abbrev pub file : FileId → List ℕ
file f = n4 f.device.major ++ (n4 f.device.minor ++ n8 f.ino)

pub record FitsFile (f : FileId) : Type 0 where
  pub major : f.device.major < 2 ^ 32
  pub minor : f.device.minor < 2 ^ 32
  pub ino : f.ino < 2 ^ 64

abbrev pub file_of : ℕ × (ℕ × ℕ) → FileId
file_of p = record { device = record { major = p.0; minor = p.1.0 }; ino = p.1.1 }

abbrev pub file_at : List ℕ → Parsed FileId
file_at = seen_at (λ p. Some (file_of p)) (both_at n4_at (both_at n4_at n8_at))

-- ---- a key

abbrev pub key : Key → List ℕ
key (Process pid life) = 1 ∷ (n4 pid ++ n8 life)
key (Inode f born) = 2 ∷ (file f ++ n8 born)
key (Path path) = 3 ∷ text path
key (Address bytes) = 4 ∷ text bytes
key (Made act) = 5 ∷ n8 act
key (Lost pid life fd) = 6 ∷ (n4 pid ++ (n8 life ++ n4 fd))

abbrev pub FitsKey : Key → Type 0
FitsKey (Process pid life) = (pid < 2 ^ 32) × (life < 2 ^ 64)
FitsKey (Inode f born) = FitsFile f × (born < 2 ^ 64)
FitsKey (Path path) = length path < 2 ^ 32
FitsKey (Address bytes) = length bytes < 2 ^ 32
FitsKey (Made act) = act < 2 ^ 64
FitsKey (Lost pid life fd) = (pid < 2 ^ 32) × ((life < 2 ^ 64) × (fd < 2 ^ 32))

abbrev pub process_at : List ℕ → Parsed Key
process_at = seen_at (λ p. Some (Process p.0 p.1)) (both_at n4_at n8_at)

abbrev pub inode_at : List ℕ → Parsed Key
inode_at = seen_at (λ p. Some (Inode p.0 p.1)) (both_at file_at n8_at)

abbrev pub path_at : List ℕ → Parsed Key
path_at = seen_at (λ p. Some (Path p)) text_at

abbrev pub address_at : List ℕ → Parsed Key
address_at = seen_at (λ p. Some (Address p)) text_at

abbrev pub made_at : List ℕ → Parsed Key
made_at = seen_at (λ act. Some (Made act)) n8_at

abbrev pub lost_at : List ℕ → Parsed Key
lost_at = seen_at (λ p. Some (Lost p.0 p.1.0 p.1.1)) (both_at n4_at (both_at n8_at n4_at))

abbrev pub key_fields_at : ℕ → List ℕ → Parsed Key
key_fields_at zero bytes = None
key_fields_at (suc zero) bytes = process_at bytes
key_fields_at (suc (suc zero)) bytes = inode_at bytes
key_fields_at (suc (suc (suc zero))) bytes = path_at bytes
key_fields_at (suc (suc (suc (suc zero)))) bytes = address_at bytes
key_fields_at (suc (suc (suc (suc (suc zero))))) bytes = made_at bytes
key_fields_at (suc (suc (suc (suc (suc (suc zero)))))) bytes = lost_at bytes
key_fields_at (suc (suc (suc (suc (suc (suc (suc n))))))) bytes = None

unfoldable pub key_at : List ℕ → Parsed Key
key_at bytes = byte_at bytes >>= λ kind. key_fields_at kind.0 kind.1

-- ---- an object: a file by a key of kind Inode, Path or Lost, a pipe, or a socket

abbrev pub IsFileKey : Key → Type 0
IsFileKey (Process pid life) = ⊥
IsFileKey (Inode f born) = ⊤
IsFileKey (Path path) = ⊤
IsFileKey (Address bytes) = ⊥
IsFileKey (Made act) = ⊥
IsFileKey (Lost pid life fd) = ⊤

abbrev pub held_file_of : Key → Option Object
held_file_of (Process pid life) = None
held_file_of (Inode f born) = Some (File (Inode f born))
held_file_of (Path path) = Some (File (Path path))
held_file_of (Address bytes) = None
held_file_of (Made act) = None
held_file_of (Lost pid life fd) = Some (File (Lost pid life fd))

abbrev pub object : Object → List ℕ
object (File k) = 1 ∷ key k
object (Pipe act) = 2 ∷ n8 act
object (Sock act) = 3 ∷ n8 act

abbrev pub FitsObject : Object → Type 0
FitsObject (File k) = FitsKey k × IsFileKey k
FitsObject (Pipe act) = act < 2 ^ 64
FitsObject (Sock act) = act < 2 ^ 64

abbrev pub held_file_at : List ℕ → Parsed Object
held_file_at = seen_at held_file_of key_at

abbrev pub pipe_at : List ℕ → Parsed Object
pipe_at = seen_at (λ act. Some (Pipe act)) n8_at

abbrev pub sock_at : List ℕ → Parsed Object
sock_at = seen_at (λ act. Some (Sock act)) n8_at

abbrev pub object_fields_at : ℕ → List ℕ → Parsed Object
object_fields_at zero bytes = None
object_fields_at (suc zero) bytes = held_file_at bytes
object_fields_at (suc (suc zero)) bytes = pipe_at bytes
object_fields_at (suc (suc (suc zero))) bytes = sock_at bytes
object_fields_at (suc (suc (suc (suc n)))) bytes = None

abbrev pub object_at : List ℕ → Parsed Object
object_at bytes = byte_at bytes >>= λ kind. object_fields_at kind.0 kind.1

-- ---- what a descriptor holds: cloexec flag, object

abbrev pub held : Held → List ℕ
held h = flag h.cloexec ++ object h.object

abbrev pub FitsHeld : Held → Type 0
FitsHeld h = FitsObject h.object

abbrev pub held_of : Bool × Object → Held
held_of p = record { object = p.1; cloexec = p.0 }

abbrev pub held_at : List ℕ → Parsed Held
held_at = seen_at (λ p. Some (held_of p)) (both_at flag_at object_at)
