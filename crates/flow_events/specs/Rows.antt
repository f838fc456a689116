-- The table rows of a commit: what changed since the mark. Every list of acts is ordered newest first.
use Rattle.std.specs.Prelude.{◌≡◌, ◌==◌, ◌<◌, ◌++◌, ℕ, Bool, false, List, map, drop, length, Option, Some, None, is_some, not, ◌||◌, if◌then◌else◌}
use Rattle.std.specs.List.{Contains}
use Rattle.std.specs.List.Sorted.{IsStrictlySortedBy}
use Rattle.std.specs.Map.{lookup, keys_of}
use Rattle.std.specs.declared.cmp.Ordering.{Ordering}
use Rattle.std.specs.Ordering.{nat_cmp, is_eq, ordering_then}
use Rattle.flow_base.specs.declared.types.FileId.{FileId}
use Rattle.flow_base.specs.declared.types.Key.{Key}
use Rattle.flow_base.specs.contracts.types.FileIdPartialEq.TheImpl.{ghosts as files}
use Rattle.audit_lex.specs.declared.header.EventKey.{EventKey}
use Rattle.acts.specs.Admitted.{Admitted}
use Rattle.acts.specs.declared.act.Taken.{Taken}
use Rattle.acts.specs.declared.held.Held.{Held}
use Rattle.acts.specs.Flows.{acts_of, objects}
use Rattle.acts.specs.Holding.{is_at}
use Rattle.proc_table.specs.declared.life.Life.{Life}
use Rattle.proc_table.specs.Table.{Table as Procs, at}
use Rattle.fd_table.specs.Table.{Table as Fds, held_at, address_at}
use Rattle.entity_names.specs.Known.{Known, AreNew, pairs_of}
use Rattle.std.specs.Option.{option_map}
use Rattle.flow_events.specs.declared.rows.Collected.{Collected}
use Rattle.row_codec.specs.declared.rows.KeptRow.{KeptRow}
use Rattle.row_codec.specs.declared.rows.ExtendRow.{ExtendRow}
use Rattle.row_codec.specs.declared.rows.StoreRow.{StoreRow}
use Rattle.row_codec.specs.declared.rows.StoreRow.TheVariants.{Entity}
use Rattle.row_codec.specs.declared.state.StateRow.{StateRow}
use Rattle.store_check.specs.Order.{IsBefore}
use Rattle.store_check.specs.Store.{newer}
use Rattle.stored.specs.Words.{Group, texts_of}
use Rattle.stored.specs.Batch.{Batch, Ascends, AreTablesOf, IsSlotBefore, said, name_row, life_row, held_row, address_row, born_row, names_at}
use Rattle.flow_events.specs.Births.{Table as Births, born_at}
use Rattle.flow_events.specs.declared.rows.TableRows.{TableRows}
use Rattle.flow_events.specs.declared.tables.Tables.{Tables}
use Rattle.flow_events.specs.Remembering.{StandsSince}
use Rattle.flow_events.specs.Since.{Memory, pid_in, has_file, has_socket, has_slot, is_since, is_touched}

-- the rows by kind, except those of flows, of what waits and of the state
pub record Parts : Type 0 where
  pub entities : List Key
  pub names : List (Key × List ℕ)
  pub lives : List (ℕ × Life)
  pub held : List ((ℕ × ℕ) × Option Held)
  pub addresses : List (ℕ × List ℕ)
  pub births : List (FileId × ℕ)

-- the rows after those of flows, in their order
abbrev pub laid_behind : Parts → List StoreRow
laid_behind parts = map name_row parts.names ++ (map life_row parts.lives ++ (map held_row parts.held ++ (map address_row parts.addresses ++ map born_row parts.births)))

-- the rows are these parts
pub record AreParts (rows : TableRows) (parts : Parts) : Type 0 where
  pub entities : rows.entities ≡ map Entity parts.entities
  pub others : rows.others ≡ laid_behind parts

-- ---- what the rows say

-- these pairs ascend by key, and say of each key what `word` says of it
pub record Say {K V : Type 0} (Before : K → K → Type 0) (test : K → K → Bool) (word : K → Option V) (pairs : List (K × V)) : Type 0 where
  pub ascend : Ascends (λ x y. Before x.0 y.0) pairs
  pub said_is : (k : K) → said (test k) pairs ≡ word k
  pub each : (k : K) (v : V) → Contains pairs (k, v) → word k ≡ Some v

-- of a pid that was named, its last life, if it has one
abbrev pub life_word : Memory → Procs → ℕ → Option Life
life_word memory procs p = if is_some (pid_in memory p) then at procs p else None

-- of a file number that was born, its births
abbrev pub births_word : Memory → Births → FileId → Option ℕ
births_word memory births f = if has_file memory f then Some (born_at births f) else None

-- of a socket that got another address, its address
abbrev pub address_word : Memory → Fds → ℕ → Option (List ℕ)
address_word memory fds s = if has_socket memory s then address_at fds s else None

-- the life goes on
abbrev pub is_live : Option Life → Bool
is_live None = false
is_live (Some life) = life.live

-- the last life of a pid goes on since the mark
abbrev pub goes_on : Memory → ℕ → Option Life → Bool
goes_on memory p None = false
goes_on memory p (Some life) = is_since (pid_in memory p) life

-- what a descriptor holds is written if the life is new, and of a life that goes on if the descriptor was touched
abbrev pub is_written : Memory → Option Life → ℕ × ℕ → Bool
is_written memory life q = not (goes_on memory q.0 life) || is_touched memory q

-- what is held, if it is written; or that nothing is, of a descriptor that was touched while it held something
abbrev pub slot_word : Bool → Bool → Option Held → Option (Option Held)
slot_word touched written None = if touched then Some None else None
slot_word touched written (Some held) = if written then Some (Some held) else None

-- this of each descriptor of a pid with this life
abbrev pub word_in : Memory → Fds → Option Life → ℕ × ℕ → Option (Option Held)
word_in memory fds life q = slot_word (has_slot memory.slots q.0 q.1) (is_written memory life q) (held_at fds q.0 q.1)

-- this of each descriptor of a pid that was named and is live
abbrev pub held_word : Memory → Procs → Fds → ℕ × ℕ → Option (Option Held)
held_word memory procs fds q = if is_live (life_word memory procs q.0) then word_in memory fds (life_word memory procs q.0) q else None

-- Life rows
abbrev pub SayLives : (ℕ → Option Life) → List (ℕ × Life) → Type 0
SayLives word pairs = Say (λ p q. p < q) (λ p q. q == p) word pairs

-- Held rows
abbrev pub SayHeld : (ℕ × ℕ → Option (Option Held)) → List ((ℕ × ℕ) × Option Held) → Type 0
SayHeld word pairs = Say IsSlotBefore (λ p q. is_at q.0 q.1 p.0 p.1) word pairs

-- Address rows
abbrev pub SayAddresses : (ℕ → Option (List ℕ)) → List (ℕ × List ℕ) → Type 0
SayAddresses word pairs = Say (λ s t. s < t) (λ s t. t == s) word pairs

-- Born rows
abbrev pub SayBirths : (FileId → Option ℕ) → List (FileId × ℕ) → Type 0
SayBirths word pairs = Say IsBefore (λ f g. files.eq f g) word pairs

-- the parts say what is remembered
pub record SayRemembered (memory : Memory) (procs : Procs) (fds : Fds) (counts : Births) (table : Known) (parts : Parts) : Type 0 where
  pub entities : parts.entities ≡ drop memory.known table.keys
  pub names : AreNew table parts.names
  pub lives : SayLives (life_word memory procs) parts.lives
  pub held : SayHeld (held_word memory procs fds) parts.held
  pub addresses : SayAddresses (address_word memory fds) parts.addresses
  pub births : SayBirths (births_word memory counts) parts.births

-- the rows say what is remembered
pub record TellRemembered (memory : Memory) (procs : Procs) (fds : Fds) (counts : Births) (table : Known) (rows : TableRows) : Type 0 where
  pub parts : Parts
  pub parts_are : AreParts rows parts
  pub say : SayRemembered memory procs fds counts table parts

-- ---- what a commit asks of them

-- a batch with these parts, and with any rows of flows, of what waits and of the state
abbrev pub batch_of : Parts → List KeptRow → List ExtendRow → List (EventKey × Group) → StateRow → Batch
batch_of parts kept extends waiting state = record {
  entities = parts.entities;
  kept = kept;
  extends = extends;
  names = parts.names;
  lives = parts.lives;
  held = parts.held;
  addresses = parts.addresses;
  births = parts.births;
  waiting = waiting;
  state = state;
}

-- the rows lead from what the acts before say to what those with the acts since say, and stand only if they are called for
pub record AreTableRows (text : List ℕ → List ℕ) (most : ℕ) (before now : List Taken) (rows : TableRows) : Type 0 where
  pub parts : Parts
  pub parts_are : AreParts rows parts
  pub entities : parts.entities ≡ drop (length (objects (acts_of before))) (objects (acts_of (now ++ before)))
  pub names : (k : Key) → texts_of k parts.names ≡ drop (length (names_at text most before k)) (names_at text most (now ++ before) k)
  pub tables : (kept : List KeptRow) (extends : List ExtendRow) (waiting : List (EventKey × Group)) (state : StateRow) → AreTablesOf (acts_of now) (acts_of before) (batch_of parts kept extends waiting state)
  pub lives_ascend : Ascends (λ x y. x.0 < y.0) parts.lives
  pub held_ascend : Ascends (λ x y. IsSlotBefore x.0 y.0) parts.held
  pub addresses_ascend : Ascends (λ x y. x.0 < y.0) parts.addresses
  pub births_ascend : Ascends (λ x y. IsBefore x.0 y.0) parts.births

-- whatever acts the tables stand for and remember, the rows are those of a commit
abbrev pub AreRowsSince : Tables → TableRows → Type 0
AreRowsSince tables rows =
    (text : List ℕ → List ℕ) (before now : List Taken) → StandsSince text tables before now → Admitted (acts_of (now ++ before)) → AreTableRows text tables.entities.most_names before now rows

-- ---- how they are collected

-- the value for a key among pairs that are sorted
abbrev pub found : {K V : Type 0} → (K → K → Ordering) → List (K × V) → K → Option V
found cmp pairs k = lookup (λ q. is_eq (cmp k q)) pairs

-- a value is put at a key, if there is one
pub record Puts {K V : Type 0} (cmp : K → K → Ordering) (old new : List (K × V)) (key : K) (value : Option V) : Type 0 where
  pub found_is : (k : K) → found cmp new k ≡ newer (found cmp old k) (if is_eq (cmp key k) then value else None)
  pub sorted : IsStrictlySortedBy cmp (keys_of old) → IsStrictlySortedBy cmp (keys_of new)

-- each key gets the value that `word` says of it, if it says one
pub record PutsEach {K V : Type 0} (cmp : K → K → Ordering) (old new : List (K × V)) (word : K → Option V) : Type 0 where
  pub found_is : (k : K) → found cmp new k ≡ newer (found cmp old k) (word k)
  pub sorted : IsStrictlySortedBy cmp (keys_of old) → IsStrictlySortedBy cmp (keys_of new)

-- two numbers, by the first and then by the second
abbrev pub slot_cmp : ℕ × ℕ → ℕ × ℕ → Ordering
slot_cmp a b = ordering_then (nat_cmp a.0 b.0) (nat_cmp a.1 b.1)

-- the pid is live by these lives
abbrev pub live_in : List (ℕ × Life) → ℕ → Bool
live_in lives p = is_live (found nat_cmp lives p)

-- nothing, if the pid is live
abbrev pub lost_word : List (ℕ × Life) → ℕ × ℕ → Option (Option Held)
lost_word lives q = if live_in lives q.0 then Some None else None

-- a value, if a test is passed
abbrev pub only_if : {V : Type 0} → Bool → Option V → Option V
only_if test value = if test then value else None

-- what is held, if anything is
abbrev pub kept_word : Fds → ℕ × ℕ → Option (Option Held)
kept_word fds q = option_map (λ held. Some held) (held_at fds q.0 q.1)

-- this, if the descriptor was touched or all are written
abbrev pub touched_word : Bool → Memory → Fds → ℕ × ℕ → Option (Option Held)
touched_word all memory fds q = only_if (all || is_touched memory q) (kept_word fds q)

-- what is held, if it is written and the pid is live
abbrev pub live_word : Memory → List (ℕ × Life) → Fds → ℕ × ℕ → Option (Option Held)
live_word memory lives fds q = if live_in lives q.0 then only_if (is_written memory (found nat_cmp lives q.0) q) (kept_word fds q) else None

-- what is collected, by kind
abbrev pub parts_of : Collected → Parts
parts_of all = record {
  entities = all.keys;
  names = pairs_of all.names;
  lives = all.lives.entries;
  held = all.held.entries;
  addresses = all.addresses.entries;
  births = all.births.entries;
}
