-- The order of the rows in a batch.
use Rattle.std.specs.Prelude.{◌≡◌, ◌⊎◌, ℕ, ◌+◌, ◌<◌, ◌≤◌, List, [], ◌∷◌, length, slice_index_or, ⊤}
use Rattle.flow_base.specs.declared.types.FileId.{FileId}
use Rattle.row_codec.specs.declared.rows.StoreRow.{StoreRow}
use Rattle.row_codec.specs.declared.rows.StoreRow.TheVariants.{Entity, Kept, Extend, Name, Life, Held, Address, Born, Waiting, State}

-- the tag of a row
abbrev pub tag : StoreRow → ℕ
tag (Entity k) = 1
tag (Kept r) = 2
tag (Extend e) = 3
tag (Name k n) = 4
tag (Life p l) = 5
tag (Held p f h) = 6
tag (Address a b) = 7
tag (Born f b) = 8
tag (Waiting m s c l) = 9
tag (State s) = 10

-- a file number comes before another one, by device and then by inode
abbrev pub IsBefore : FileId → FileId → Type 0
IsBefore f g = (f.device.major < g.device.major) ⊎ ((f.device.major ≡ g.device.major) × ((f.device.minor < g.device.minor) ⊎ ((f.device.minor ≡ g.device.minor) × (f.ino < g.ino))))

-- A row may follow another one. Tags don't fall; two rows of one tag ascend if this is asked of the tag; no State follows a State.
abbrev pub MayFollow : StoreRow → StoreRow → Type 0
MayFollow (Extend a) (Extend b) = a.row < b.row
MayFollow (Life p l) (Life q m) = p < q
MayFollow (Held p f h) (Held q g k) = (p < q) ⊎ ((p ≡ q) × (f < g))
MayFollow (Address a b) (Address c d) = a < c
MayFollow (Born f b) (Born g c) = IsBefore f g
MayFollow (Waiting m s c l) (Waiting n t d k) = (m < n) ⊎ ((m ≡ n) × (s < t))
MayFollow (State s) (State t) = ⊥
MayFollow a b = tag a ≤ tag b

-- each row may follow the one before it
abbrev pub AreOrdered : List StoreRow → Type 0
AreOrdered rows = (i : ℕ) (d : StoreRow) → i + 1 < length rows → MayFollow (slice_index_or rows i d) (slice_index_or rows (i + 1) d)

-- a row is a State
abbrev pub IsState : StoreRow → Type 0
IsState row = tag row ≡ 10

-- the last row is a State
abbrev pub EndInState : List StoreRow → Type 0
EndInState rows = (i : ℕ) × (i + 1 ≡ length rows) × ((d : StoreRow) → IsState (slice_index_or rows i d))
