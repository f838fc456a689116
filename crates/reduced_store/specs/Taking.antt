-- Rows of a batch by their kind, and what is taken in of them.
use Rattle.std.specs.Prelude.{◌≡◌, List, [], ◌∷◌, ◌++◌, map}
use Rattle.std.specs.List.{flat_map}
use Rattle.flow_base.specs.declared.types.Flow.{Flow}
use Rattle.reach_model.specs.Rows.{Row, row_of}
use Rattle.row_codec.specs.declared.rows.ExtendRow.{ExtendRow}
use Rattle.row_codec.specs.declared.rows.KeptRow.{KeptRow}
use Rattle.row_codec.specs.declared.rows.StoreRow.{StoreRow}
use Rattle.row_codec.specs.declared.rows.StoreRow.TheVariants.{Entity, Kept, Extend, Name, Life, Held as AHeld, Address, Born, Waiting, State}
use Rattle.row_codec.specs.Rows.{row as spelling}
use Rattle.store_check.specs.Store.{flow_of, keys}
use Rattle.reduced_store.specs.Filling.{IsNext, row_of_spelled}
use Rattle.reduced_store.specs.Held.{Held}
use Rattle.reduced_store.specs.Placing.{SamePlaces}
use Rattle.reduced_store.specs.declared.taking.Around.{Around}
use Rattle.std.specs.Prelude.{⊤}

-- the Kept rows
abbrev pub kept_in : StoreRow → List KeptRow
kept_in (Entity k) = []
kept_in (Kept r) = r ∷ []
kept_in (Extend e) = []
kept_in (Name k t) = []
kept_in (Life p l) = []
kept_in (AHeld p f h) = []
kept_in (Address a b) = []
kept_in (Born f b) = []
kept_in (Waiting m s c l) = []
kept_in (State s) = []

abbrev pub kepts : List StoreRow → List KeptRow
kepts rows = flat_map kept_in rows

-- the Extend rows
abbrev pub extend_in : StoreRow → List ExtendRow
extend_in (Entity k) = []
extend_in (Kept r) = []
extend_in (Extend e) = e ∷ []
extend_in (Name k t) = []
extend_in (Life p l) = []
extend_in (AHeld p f h) = []
extend_in (Address a b) = []
extend_in (Born f b) = []
extend_in (Waiting m s c l) = []
extend_in (State s) = []

abbrev pub extends : List StoreRow → List ExtendRow
extends rows = flat_map extend_in rows

-- the row of a Kept row, as laws speak of it
abbrev pub single : KeptRow → Row
single r = row_of (flow_of r)

-- a Kept row comes next after these flows, and of other rows nothing is asked
abbrev pub MayCome : List Flow → StoreRow → Type 0
MayCome K (Entity k) = ⊤
MayCome K (Kept r) = IsNext K r
MayCome K (Extend e) = ⊤
MayCome K (Name k t) = ⊤
MayCome K (Life p l) = ⊤
MayCome K (AHeld p f h) = ⊤
MayCome K (Address a b) = ⊤
MayCome K (Born f b) = ⊤
MayCome K (Waiting m s c l) = ⊤
MayCome K (State s) = ⊤

-- The Kept rows among these rows were appended. Beside them the spellings of the Entity rows were gathered, and the Extend rows.
pub record HasTaken (old new : Held) (before after : Around) (taken : List StoreRow) : Type 0 where
  pub rows : new.rows ≡ old.rows ++ map single (kepts taken)
  pub lawful : new.lawful ≡ old.lawful
  pub places : SamePlaces old.placed new.placed
  pub recent : new.placed.recent ≡ old.placed.recent ++ map row_of_spelled (kepts taken)
  pub renewed : new.placed.renewed ≡ old.placed.renewed
  pub entities : after.entities ≡ before.entities ++ flat_map spelling (map Entity (keys taken))
  pub extended : after.extends ≡ before.extends ++ extends taken
