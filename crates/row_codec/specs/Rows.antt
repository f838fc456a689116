-- The rows of a store: a byte for the tag, then the fields of the row.
use Rattle.std.specs.Prelude.{◌≡◌, ℕ, zero, suc, ◌<◌, ◌≤◌, ◌^◌, List, [], ◌∷◌, ◌++◌, length, take, Option, Some, None, ⊤}
use Rattle.flow_base.specs.declared.types.Key.{Key}
use Rattle.flow_base.specs.declared.types.Key.TheVariants.{Process, Inode, Path, Address as AddressKey, Made, Lost}
use Rattle.acts.specs.declared.held.Object.{Object}
use Rattle.acts.specs.declared.held.Object.TheVariants.{File, Pipe, Sock}
use Rattle.row_codec.specs.declared.rows.StoreRow.{StoreRow}
use Rattle.row_codec.specs.declared.state.StateRow.{StateRow}
use Rattle.row_codec.specs.declared.rows.StoreRow.TheVariants.{Entity, Kept, Extend, Name, Life, Held, Address, Born, Waiting, State}
use Rattle.row_codec.specs.Parsing.{Parsed, ◌>>=◌, both_at, seen_at, byte_at, text, text_at, option, FitsOption, option_at}
use Rattle.row_codec.specs.Fields as fields
use Rattle.row_codec.specs.Fields.{n4, n4_at, n8, n8_at, flag, flag_at, kept, FitsLink, FitsKept, kept_at, extend, FitsExtend, extend_at}
use Rattle.row_codec.specs.Keys.{key, FitsKey, IsFileKey, key_at, held, FitsHeld, held_at, file, FitsFile, file_at}
use Rattle.row_codec.specs.State.{state, FitsState, IsUnset, IsTail, state_at}
use Rattle.row_codec.specs.Tables.{life, FitsLife, life_at, lines, FitsLines, lines_at, FitsText}

-- the one spelling of a row
abbrev pub row : StoreRow → List ℕ
row (Entity k) = 1 ∷ key k
row (Kept r) = 2 ∷ kept r
row (Extend e) = 3 ∷ extend e
row (Name k name) = 4 ∷ (key k ++ text name)
row (Life pid l) = 5 ∷ (n4 pid ++ life l)
row (Held pid fd h) = 6 ∷ (n4 pid ++ (n4 fd ++ option held h))
row (Address act bytes) = 7 ∷ (n8 act ++ text bytes)
row (Born f born) = 8 ∷ (file f ++ n8 born)
row (Waiting ms serial closed texts) = 9 ∷ (n8 ms ++ (n4 serial ++ (flag closed ++ lines texts)))
row (State s) = 10 ∷ state s

-- the rows that have a spelling: every number is within its width
abbrev pub Fits : StoreRow → Type 0
Fits (Entity k) = FitsKey k
Fits (Kept r) = FitsKept r
Fits (Extend e) = FitsExtend e
Fits (Name k name) = FitsKey k × FitsText name
Fits (Life pid l) = (pid < 2 ^ 32) × FitsLife l
Fits (Held pid fd h) = (pid < 2 ^ 32) × ((fd < 2 ^ 32) × FitsOption FitsHeld h)
Fits (Address act bytes) = (act < 2 ^ 64) × FitsText bytes
Fits (Born f born) = FitsFile f × (born < 2 ^ 64)
Fits (Waiting ms serial closed texts) = (ms < 2 ^ 64) × ((serial < 2 ^ 32) × (⊤ × FitsLines texts))
Fits (State s) = FitsState s

-- these bytes are the spelling of the row
pub record IsSpelling (r : StoreRow) (bytes : List ℕ) : Type 0 where
  pub fits : Fits r
  pub is : bytes ≡ row r

-- the first n bytes, which are all there, are the spelling of the row
pub record Begins (r : StoreRow) (n : ℕ) (bytes : List ℕ) : Type 0 where
  pub spelling : IsSpelling r (take n bytes)
  pub within : n ≤ length bytes

abbrev pub entity_at : List ℕ → Parsed StoreRow
entity_at = seen_at (λ k. Some (Entity k)) key_at

abbrev pub kept_row_at : List ℕ → Parsed StoreRow
kept_row_at = seen_at (λ r. Some (Kept r)) kept_at

abbrev pub extend_row_at : List ℕ → Parsed StoreRow
extend_row_at = seen_at (λ e. Some (Extend e)) extend_at

abbrev pub name_at : List ℕ → Parsed StoreRow
name_at = seen_at (λ p. Some (Name p.0 p.1)) (both_at key_at text_at)

abbrev pub life_row_at : List ℕ → Parsed StoreRow
life_row_at = seen_at (λ p. Some (Life p.0 p.1)) (both_at n4_at life_at)

abbrev pub held_row_at : List ℕ → Parsed StoreRow
held_row_at = seen_at (λ p. Some (Held p.0 p.1.0 p.1.1)) (both_at n4_at (both_at n4_at (option_at held_at)))

abbrev pub address_row_at : List ℕ → Parsed StoreRow
address_row_at = seen_at (λ p. Some (Address p.0 p.1)) (both_at n8_at text_at)

abbrev pub born_at : List ℕ → Parsed StoreRow
born_at = seen_at (λ p. Some (Born p.0 p.1)) (both_at file_at n8_at)

abbrev pub waiting_at : List ℕ → Parsed StoreRow
waiting_at = seen_at (λ p. Some (Waiting p.0 p.1.0 p.1.1.0 p.1.1.1)) (both_at n8_at (both_at n4_at (both_at flag_at lines_at)))

abbrev pub state_row_at : List ℕ → Parsed StoreRow
state_row_at = seen_at (λ s. Some (State s)) state_at

abbrev pub row_fields_at : ℕ → List ℕ → Parsed StoreRow
row_fields_at zero bytes = None
row_fields_at (suc zero) bytes = entity_at bytes
row_fields_at (suc (suc zero)) bytes = kept_row_at bytes
row_fields_at (suc (suc (suc zero))) bytes = extend_row_at bytes
row_fields_at (suc (suc (suc (suc zero)))) bytes = name_at bytes
row_fields_at (suc (suc (suc (suc (suc zero))))) bytes = life_row_at bytes
row_fields_at (suc (suc (suc (suc (suc (suc zero)))))) bytes = held_row_at bytes
row_fields_at (suc (suc (suc (suc (suc (suc (suc zero))))))) bytes = address_row_at bytes
row_fields_at (suc (suc (suc (suc (suc (suc (suc (suc zero)))))))) bytes = born_at bytes
row_fields_at (suc (suc (suc (suc (suc (suc (suc (suc (suc zero))))))))) bytes = waiting_at bytes
row_fields_at (suc (suc (suc (suc (suc (suc (suc (suc (suc (suc zero)))))))))) bytes = state_row_at bytes
row_fields_at (suc (suc (suc (suc (suc (suc (suc (suc (suc (suc (suc n))))))))))) bytes = None

abbrev pub row_at : List ℕ → Parsed StoreRow
row_at bytes = byte_at bytes >>= λ tag. row_fields_at tag.0 tag.1

-- ---- which rows of the code can be spelled; there, numbers are within their widths by their types

-- a key whose text has a length of 4 bytes
abbrev pub IsShortKey : Key → Type 0
IsShortKey (Process pid life) = ⊤
IsShortKey (Inode f born) = ⊤
IsShortKey (Path path) = FitsText path
IsShortKey (AddressKey bytes) = FitsText bytes
IsShortKey (Made act) = ⊤
IsShortKey (Lost pid life fd) = ⊤

-- an object that a descriptor may hold: of keys only those of files
abbrev pub CanBeHeld : Object → Type 0
CanBeHeld (File k) = IsShortKey k × IsFileKey k
CanBeHeld (Pipe act) = ⊤
CanBeHeld (Sock act) = ⊤

-- 0 for each number whose flag is 0, no tail if long is set, and lengths of 4 bytes
pub record CanBeState (s : StateRow) : Type 0 where
  pub unseen : IsUnset s.seen s.greatest
  pub unreleased_ms : IsUnset s.released s.released_ms
  pub unreleased_serial : IsUnset s.released s.released_serial
  pub none : IsTail s.long s.tail
  pub tail : FitsText s.tail
  pub bad : length s.bad < 2 ^ 32

-- lengths are below 2^32, links below 2^64 - 1, a held key is of a file, and a State keeps its rules
abbrev pub CanBeSpelled : StoreRow → Type 0
CanBeSpelled (Entity k) = IsShortKey k
CanBeSpelled (Kept r) = FitsLink r.before_to × FitsLink r.before_from
CanBeSpelled (Extend e) = ⊤
CanBeSpelled (Name k name) = IsShortKey k × FitsText name
CanBeSpelled (Life pid l) = ⊤
CanBeSpelled (Held pid fd h) = FitsOption (λ h. CanBeHeld h.object) h
CanBeSpelled (Address act bytes) = FitsText bytes
CanBeSpelled (Born f born) = ⊤
CanBeSpelled (Waiting ms serial closed texts) = FitsLines texts
CanBeSpelled (State s) = CanBeState s
