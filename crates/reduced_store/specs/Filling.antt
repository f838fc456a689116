-- Kept rows that are filled from the rows of a store.
use Rattle.std.specs.Prelude.{◌≢◌, ℕ, ◌<◌, ◌≤◌, List, [], ◌∷◌, length, slice_index_or, ⊤}
use Rattle.std.specs.List.{All}
use Rattle.flow_base.specs.declared.types.Flow.{Flow}
use Rattle.reach_model.specs.Flows.{source, target, time, place}
use Rattle.reach_model.specs.Numbers.{IsNumbered, known}
use Rattle.reach_model.specs.Rows.{Row, SamePair, firsts, lasts}
use Rattle.reach_rows.specs.Kept.{GoesOn}
use Rattle.reach_rows.specs.InMemory.{HasLinks}
use Rattle.reach_rows.specs.declared.rows.Row.{Row as KeptRow}
use Rattle.row_codec.specs.declared.rows.KeptRow.{KeptRow as SpelledRow}
use Rattle.flow_base.specs.declared.types.Stamp.{Stamp}
use Rattle.row_codec.specs.declared.rows.StoreRow.{StoreRow}
use Rattle.row_codec.specs.declared.rows.StoreRow.TheVariants.{Entity, Kept, Extend, Name, Life, Held, Address, Born, Waiting, State}
use Rattle.store_check.specs.Store.{keys, flow_of, grown, rows_of}

-- the row that a Kept row says, which ends with the flow with which it begins
abbrev pub row_of_spelled : SpelledRow → KeptRow
row_of_spelled r = record { from = r.from; to = r.to; first = r.mark; last = r.mark; before_to = r.before_to; before_from = r.before_from }

-- what flows ask of a Kept row: it goes on with their numbering, and has its links
pub record IsNext (K : List Flow) (r : SpelledRow) : Type 0 where
  pub numbered : GoesOn (known K) (flow_of r)
  pub links : HasLinks K (row_of_spelled r)

-- what the kept rows R ask of a row of the store: a Kept row comes next, and an Extend row names one of them
abbrev pub GoesOnWith : List Row → StoreRow → Type 0
GoesOnWith R (Entity k) = ⊤
GoesOnWith R (Kept r) = IsNext (firsts R) r
GoesOnWith R (Extend e) = e.row < length R
GoesOnWith R (Name k t) = ⊤
GoesOnWith R (Life p l) = ⊤
GoesOnWith R (Held p f h) = ⊤
GoesOnWith R (Address a b) = ⊤
GoesOnWith R (Born f b) = ⊤
GoesOnWith R (Waiting m s c l) = ⊤
GoesOnWith R (State s) = ⊤

-- each row meets what is asked by the kept rows that those before it leave
abbrev pub AllGoOn : List Row → List StoreRow → Type 0
AllGoOn R [] = ⊤
AllGoOn R (row ∷ rest) = GoesOnWith R row × AllGoOn (grown R row) rest

-- a row whose flows have one pair of ends, which differ, the last one no earlier than the first
pub record IsRun (r : Row) : Type 0 where
  pub pair : SamePair r.last r.first
  pub differ : source r.first ≢ target r.first
  pub ordered : place r.first ≤ place r.last

-- The conditions on a store give each law of rows but one: two rows may have one last place.
pub record AreInOrder (R : List Row) : Type 0 where
  pub each : All IsRun R
  pub ascend : (i j : ℕ) (d : Flow) → i < j → j < length (firsts R) → place (slice_index_or (firsts R) i d) < place (slice_index_or (firsts R) j d)
  pub times : (i j : ℕ) (d : Flow) → i ≤ j → j < length (firsts R) → time (slice_index_or (firsts R) i d) ≤ time (slice_index_or (firsts R) j d)
  pub numbered : IsNumbered (firsts R)

-- no two rows have one last place
abbrev pub AreApart : List Row → Type 0
AreApart R = (i j : ℕ) (d : Flow) → i < j → j < length (lasts R) → place (slice_index_or (lasts R) i d) ≢ place (slice_index_or (lasts R) j d)

-- the place of a stamp
abbrev pub place_of : Stamp → ℕ
place_of at = at.place

-- the kept rows of these rows of a store are in order, and no more objects are known than may be
pub record AreSound (entities : ℕ) (before : List StoreRow) : Type 0 where
  pub order : AreInOrder (rows_of before)
  pub few : length (keys before) ≤ entities
