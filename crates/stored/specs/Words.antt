-- What the rows of a store say besides what its conditions ask.
use Rattle.std.specs.Prelude.{ℕ, Bool, false, ◌==◌, ◌&&◌, List, [], ◌∷◌, Option, Some, None, fold, if◌then◌else◌}
use Rattle.std.specs.List.{flat_map}
use Rattle.flow_base.specs.declared.types.FileId.{FileId}
use Rattle.flow_base.specs.declared.types.Key.{Key}
use Rattle.flow_base.specs.contracts.types.KeyPartialEq.TheImpl.{ghosts}
use Rattle.flow_base.specs.contracts.types.FileIdPartialEq.TheImpl.{ghosts as files}
use Rattle.audit_lex.specs.declared.header.EventKey.{EventKey}
use Rattle.proc_table.specs.declared.life.Life.{Life as ALife}
use Rattle.acts.specs.declared.held.Held.{Held as AHeld}
use Rattle.acts.specs.Holding.{is_at}
use Rattle.row_codec.specs.declared.state.StateRow.{StateRow}
use Rattle.row_codec.specs.declared.rows.StoreRow.{StoreRow}
use Rattle.row_codec.specs.declared.rows.StoreRow.TheVariants.{Name, Life, Held, Address, Born, Waiting, State}
use Rattle.store_check.specs.Store.{last_found}

-- all rows of some batches, oldest first
abbrev pub all_of : List (List StoreRow) → List StoreRow
all_of batches = flat_map (λ b. b) batches

-- ---- names

-- the name that a row gives, with its key
abbrev pub name_in : StoreRow → List (Key × List ℕ)
name_in (Name key t) = (key, t) ∷ []
name_in row = []

-- the names that rows give, each with its key
abbrev pub pairs_in : List StoreRow → List (Key × List ℕ)
pairs_in rows = flat_map name_in rows

-- the text of a pair, if its key is this one
abbrev pub text_if : Key → Key × List ℕ → List (List ℕ)
text_if k pair = if ghosts.eq pair.0 k then pair.1 ∷ [] else []

-- the texts that stand beside a key
abbrev pub texts_of : Key → List (Key × List ℕ) → List (List ℕ)
texts_of k pairs = flat_map (text_if k) pairs

-- ---- descriptors

-- the last life of a pid, and what one of its descriptors holds
pub record Holding : Type 0 where
  pub life : Option ALife
  pub held : Option AHeld

-- a Life row goes on with the life before it, and the life before it is live
abbrev pub goes_on : Option ALife → ALife → Bool
goes_on None now = false
goes_on (Some before) now = now.live && before.life == now.life

-- A Life row that isn't live, or has another life than before, empties the descriptors of its pid.
abbrev pub holding_with : ℕ → ℕ → Holding → StoreRow → Holding
holding_with p n h (Life q l) = if q == p then record { life = Some l; held = if goes_on h.life l then h.held else None } else h
holding_with p n h (Held q m held) = if is_at q m p n then record { life = h.life; held = held } else h
holding_with p n h row = h

-- before all rows
abbrev pub nothing_held : Holding
nothing_held = record { life = None; held = None }

-- what descriptor n of p holds by the rows
abbrev pub held_of : ℕ → ℕ → List StoreRow → Option AHeld
held_of p n rows = (fold (holding_with p n) nothing_held rows).held

-- ---- addresses and births

-- the address in an Address row of a socket
abbrev pub address_in : ℕ → StoreRow → Option (List ℕ)
address_in s (Address act bytes) = if act == s then Some bytes else None
address_in s row = None

-- the last address of a socket
abbrev pub address_of : ℕ → List StoreRow → Option (List ℕ)
address_of s rows = last_found (address_in s) rows

-- the births in a Born row of a file number
abbrev pub born_in : FileId → StoreRow → Option ℕ
born_in f (Born g born) = if files.eq f g then Some born else None
born_in f row = None

-- how often a file number was born by its last row
abbrev pub born_of : FileId → List StoreRow → Option ℕ
born_of f rows = last_found (born_in f) rows

-- ---- what waits, and the state

-- a group by its key: whether it is closed, and its lines
pub record Group : Type 0 where
  pub closed : Bool
  pub lines : List (List ℕ)

-- the group in a Waiting row, with its key
abbrev pub group_in : StoreRow → List (EventKey × Group)
group_in (Waiting ms serial closed lines) = (record { ms = ms; serial = serial }, record { closed = closed; lines = lines }) ∷ []
group_in row = []

-- the groups in rows
abbrev pub groups_of : List StoreRow → List (EventKey × Group)
groups_of rows = flat_map group_in rows

-- the State in a State row
abbrev pub state_in : StoreRow → Option StateRow
state_in (State s) = Some s
state_in row = None

-- the last State
abbrev pub state_of : List StoreRow → Option StateRow
state_of rows = last_found state_in rows
