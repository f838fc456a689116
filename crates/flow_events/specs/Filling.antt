-- Tables that are filled from the rows of a store.
use Rattle.std.specs.Prelude.{◌≡◌, ◌≤◌, ◌++◌, ◌∷◌, ℕ, List, [], length, fold, Option, None, Some, unwrap_or}
use Rattle.flow_base.specs.declared.types.FileId.{FileId}
use Rattle.flow_base.specs.declared.types.Key.{Key}
use Rattle.flow_base.specs.declared.limits.Limits.{Limits}
use Rattle.flow_base.specs.contracts.types.KeyPartialEq.TheImpl.{ghosts}
use Rattle.acts.specs.Births.{born}
use Rattle.acts.specs.Flows.{acts_of, objects, flows}
use Rattle.acts.specs.Holding.{holds}
use Rattle.acts.specs.Holding as acts
use Rattle.acts.specs.Keys.{put_new}
use Rattle.acts.specs.Standing.{standing}
use Rattle.proc_table.specs.Table.{standing_of}
use Rattle.entity_names.specs.Known.{NamesAs}
use Rattle.row_codec.specs.declared.state.StateRow.{StateRow}
use Rattle.row_codec.specs.declared.rows.StoreRow.{StoreRow}
use Rattle.store_check.specs.Store.{keys, key_in, life_of}
use Rattle.stored.specs.Batch.{names_at}
use Rattle.stored.specs.Filling.{HasLives, HasHeld, HasAddresses}
use Rattle.stored.specs.Moment.{Moment}
use Rattle.stored.specs.Words.{pairs_in, texts_of, held_of, address_of, born_of, state_of}
use Rattle.flow_events.specs.Births.{Table as Births, born_at}
use Rattle.flow_events.specs.declared.filled.Filled.{Filled}
use Rattle.flow_events.specs.declared.tables.Tables.{Tables}
use Rattle.flow_events.specs.Standing.{StandsFor}

-- the flows that a State says, none without one
abbrev pub flows_in : Option StateRow → ℕ
flows_in None = 0
flows_in (Some state) = state.flows

-- the acts that a State says, none without one
abbrev pub acts_in : Option StateRow → ℕ
acts_in None = 0
acts_in (Some state) = state.acts

-- the rows say what the tables have after the moment's acts, and how many flows and acts there were
pub record SayTables (text : List ℕ → List ℕ) (most : ℕ) (rows : List StoreRow) (m : Moment) : Type 0 where
  pub objects_are : keys rows ≡ objects (acts_of m.taken)
  pub names_are : (k : Key) → texts_of k (pairs_in rows) ≡ names_at text most m.taken k
  pub lives_are : (p : ℕ) → standing_of (life_of p rows) ≡ standing (acts_of m.taken) p
  pub held_are : (p n : ℕ) → held_of p n rows ≡ holds (acts_of m.taken) p n
  pub addresses_are : (s : ℕ) → address_of s rows ≡ acts.address_of (acts_of m.taken) s
  pub births_are : (f : FileId) → unwrap_or (born_of f rows) 0 ≡ born (acts_of m.taken) f
  pub flows_are : flows_in (state_of rows) ≡ length (flows m.taken)
  pub acts_are : acts_in (state_of rows) ≡ length m.taken

-- the table of births has the last Born row of each file number
pub record HasBirths (table : Births) (rows : List StoreRow) : Type 0 where
  pub each : (f : FileId) → born_at table f ≡ unwrap_or (born_of f rows) 0

-- these keys, each of which is appended if it is new
abbrev pub listed : List Key → List Key
listed keys = fold (put_new ghosts.eq) [] keys

-- these keys with that of a row, if it has one
abbrev pub keys_with : List Key → StoreRow → List Key
keys_with seen row = fold (put_new ghosts.eq) seen (key_in row)

-- there may be as many objects as there are with that of a row
abbrev pub ObjectFits : Filled → StoreRow → Type 0
ObjectFits filled row = length (keys_with filled.entities.keys row) ≤ filled.entities.limit

-- what is filled has what the rows say
pub record HasRows (filled : Filled) (rows : List StoreRow) : Type 0 where
  pub lives : HasLives filled.procs rows
  pub held : HasHeld filled.fds rows
  pub addresses : HasAddresses filled.fds rows
  pub births : HasBirths filled.births rows
  pub names : NamesAs filled.entities (pairs_in rows)
  pub keys_are : filled.entities.keys ≡ listed (keys rows)
  pub flows : filled.flows ≡ flows_in (state_of rows)
  pub acts : filled.acts ≡ acts_in (state_of rows)

-- as many objects and names fit as the limits say
pub record IsWithin (limits : Limits) (filled : Filled) : Type 0 where
  pub objects : filled.entities.limit ≡ limits.entities
  pub names : filled.entities.most_names ≡ limits.names

-- the row is taken: what had the rows before it has it too
abbrev pub Takes : Filled → Filled → StoreRow → Type 0
Takes old new row = (rows : List StoreRow) → HasRows old rows → HasRows new (rows ++ row ∷ [])

-- the tables stand for the acts of each moment whose tables the rows say
abbrev pub AreRestored : Limits → List StoreRow → Tables → Type 0
AreRestored limits rows tables = (text : List ℕ → List ℕ) (m : Moment) → SayTables text limits.names rows m → StandsFor text tables m.taken

-- the tables have the objects that the rows say, and as many flows and acts
pub record HasCountsOf (rows : List StoreRow) (tables : Tables) : Type 0 where
  pub keys_are : tables.entities.keys ≡ listed (keys rows)
  pub flows_are : tables.flows ≡ flows_in (state_of rows)
  pub acts_are : tables.acts ≡ acts_in (state_of rows)
