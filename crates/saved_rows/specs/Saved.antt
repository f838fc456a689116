-- Rows that a disk has, and where each of them stands.
use Rattle.std.specs.Prelude.{◌≡◌, ℕ, ◌+◌, ◌<◌, ◌≤◌, ◌^◌, ⊤, List, [], ◌∷◌, length, slice_index_or, Option, Some, None, nat_eq, Result, Ok, Err}
use Rattle.std.specs.Map.{lookup}
use Rattle.block_cache.specs.Cached.{Cached, range}
use Rattle.reach_rows.specs.declared.rows.Row.{Row}
use Rattle.reach_rows.specs.declared.rows.RowFault.{RowFault}
use Rattle.reach_rows.specs.declared.rows.RowFault.TheVariants.{StoreFault, BadStore}
use Rattle.row_codec.specs.declared.rows.KeptRow.{KeptRow}
use Rattle.row_codec.specs.declared.rows.StoreRow.{StoreRow}
use Rattle.row_codec.specs.declared.rows.StoreRow.TheVariants.{Kept, Extend}
use Rattle.row_codec.specs.Rows.{Fits, row as spelling}
use Rattle.saved_rows.specs.declared.runs.Run.{Run}
use Rattle.saved_rows.specs.Runs.{IsRunOf, place_in}

-- how many bytes an Extend row has
abbrev pub EXTEND : ℕ
EXTEND = 30

-- the runs of Kept rows, how many rows there are, the place of the last Extend row of each row that has one, the cache of the
-- disk's blocks, and room for this many more runs and for this many more extended rows
pub record Saved : Type 0 where
  pub runs : List Run
  pub count : ℕ
  pub ends : List (ℕ × ℕ)
  pub cache : Cached
  pub runs_room : ℕ
  pub ends_room : ℕ

-- the same with another firm place
abbrev pub with_firm : ℕ → Saved → Saved
with_firm firm saved = record saved { cache = record { blocks = saved.cache.blocks; firm = firm } }

-- the place of a row's last Extend row, if it has one
abbrev pub end_of : List (ℕ × ℕ) → ℕ → Option ℕ
end_of ends index = lookup (nat_eq index) ends

-- each such place is of 64 bits, with the Extend row that stands there
abbrev pub AreEnds : ℕ → List (ℕ × ℕ) → Type 0
AreEnds count ends = (index at : ℕ) → end_of ends index ≡ Some at → at + EXTEND < 2 ^ 64

-- the bytes have the spelling of a row at a place, and it ends before the place `firm`
pub record IsSpelledAt (bytes : List ℕ) (firm at : ℕ) (r : StoreRow) : Type 0 where
  pub fits : Fits r
  pub is : range at (length (spelling r)) bytes ≡ spelling r
  pub firmly : at + length (spelling r) ≤ firm

-- a row as its Kept row
abbrev pub kept_row : Row → KeptRow
kept_row r = record { from = r.from; to = r.to; mark = r.first; before_to = r.before_to; before_from = r.before_from }

abbrev pub as_kept : Row → StoreRow
as_kept r = Kept (kept_row r)

-- a row's last flow as an Extend row
abbrev pub as_extend : ℕ → Row → StoreRow
as_extend index r = Extend (record { row = index; mark = r.last })

-- a row that ends with the flow with which it begins
abbrev pub IsSingle : Row → Type 0
IsSingle r = r.last ≡ r.first

-- a row's last flow is that of its last Extend row, or it is its first one
abbrev pub HasLast : List ℕ → (firm index : ℕ) → Row → Option ℕ → Type 0
HasLast bytes firm index r None = IsSingle r
HasLast bytes firm index r (Some at) = IsSpelledAt bytes firm at (as_extend index r)

-- the bytes have these rows, each at its place
pub record HasRows (bytes : List ℕ) (saved : Saved) (R : List Row) : Type 0 where
  pub all : saved.count ≡ length R
  pub kept : (index k : ℕ) (d : Row) (e : Run) → index < length R → IsRunOf saved.runs index k
      → IsSpelledAt bytes saved.cache.firm (place_in (slice_index_or saved.runs k e) index) (as_kept (slice_index_or R index d))
  pub last : (index : ℕ) (d : Row) → index < length R → HasLast bytes saved.cache.firm index (slice_index_or R index d) (end_of saved.ends index)
  pub listed : (index : ℕ) → length R ≤ index → end_of saved.ends index ≡ None

-- these rows stand in the bytes one after the other from a place on, and end before the place `firm`
abbrev pub AreSpelledFrom : List ℕ → (firm at : ℕ) → List StoreRow → Type 0
AreSpelledFrom bytes firm at [] = ⊤
AreSpelledFrom bytes firm at (r ∷ rows) = IsSpelledAt bytes firm at r × AreSpelledFrom bytes firm (at + length (spelling r)) rows

-- nothing but the room may differ
pub record SameRows (old new : Saved) : Type 0 where
  pub runs : new.runs ≡ old.runs
  pub count : new.count ≡ old.count
  pub ends : new.ends ≡ old.ends
  pub cache : new.cache ≡ old.cache

-- a reading gave this, or a call on the disk failed
abbrev pub Gives : {T : Type 0} → Result T RowFault → T → Type 0
Gives (Ok x) t = x ≡ t
Gives (Err StoreFault) t = ⊤
Gives (Err (BadStore place)) t = ⊥
