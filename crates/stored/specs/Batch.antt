-- The batch of a commit: which rows it has, from one moment of a history to a later one.
use Rattle.std.specs.Prelude.{◌≡◌, ◌≢◌, ◌⊎◌, ◌≤◌, ◌<◌, ℕ, suc, Bool, true, false, ◌==◌, ◌+◌, ◌||◌, ◌&&◌, List, [], ◌∷◌, ◌++◌, length, map, take, drop, fold, Option, Some, None, is_some, unwrap_or, if◌then◌else◌, ⊤}
use Rattle.std.specs.List.{Contains, AllByRecursion}
use Rattle.std.specs.Map.{lookup}
use Rattle.flow_base.specs.declared.types.FileId.{FileId}
use Rattle.flow_base.specs.declared.types.Flow.{Flow}
use Rattle.flow_base.specs.declared.types.Key.{Key}
use Rattle.flow_base.specs.contracts.types.FileIdPartialEq.TheImpl.{ghosts as files}
use Rattle.audit_lex.specs.declared.header.EventKey.{EventKey}
use Rattle.audit_record.specs.declared.types.Record.{Record}
use Rattle.record_join.specs.Keys.{is_key}
use Rattle.record_join.specs.Events.{Joining}
use Rattle.record_join.specs.StandsFor.{group_at}
use Rattle.record_join.specs.declared.group.Group.{Group as AGroup}
use Rattle.acts.specs.declared.act.Act.{Act}
use Rattle.acts.specs.declared.act.Act.TheVariants.{See, Fork, End, Exec, Set, SetBoth, Copy, Close, Mark, Address as AnAddress, Birth, Move}
use Rattle.acts.specs.declared.act.Taken.{Taken}
use Rattle.acts.specs.declared.act.Opens.TheVariants.{Socket as ASocket}
use Rattle.acts.specs.declared.held.Held.{Held as AHeld}
use Rattle.acts.specs.Births.{born, is_birth_of}
use Rattle.acts.specs.Flows.{acts_of, flows, objects}
use Rattle.acts.specs.Holding.{holds, is_at, address_of, act_number, addressed}
use Rattle.acts.specs.Keys.{all_given, names_of}
use Rattle.acts.specs.Lives.{live, beginnings}
use Rattle.acts.specs.Standing.{standing}
use Rattle.proc_table.specs.declared.life.Life.{Life as ALife}
use Rattle.proc_table.specs.Table.{standing_of}
use Rattle.reach_model.specs.declared.modes.Mode.{Mode}
use Rattle.reach_model.specs.Flows.{source, target}
use Rattle.reach_model.specs.Rows.{Row, Keeps, firsts, row_of}
use Rattle.reach_rows.specs.declared.rows.Mark.{Mark as AMark}
use Rattle.row_codec.specs.declared.rows.KeptRow.{KeptRow}
use Rattle.row_codec.specs.declared.rows.ExtendRow.{ExtendRow}
use Rattle.row_codec.specs.declared.state.StateRow.{StateRow}
use Rattle.row_codec.specs.declared.rows.StoreRow.{StoreRow}
use Rattle.row_codec.specs.declared.rows.StoreRow.TheVariants.{Entity, Kept, Extend, Name, Life, Held, Address, Born, Waiting, State}
use Rattle.store_check.specs.Order.{IsBefore}
use Rattle.store_check.specs.Store.{last_index, newer}
use Rattle.stored.specs.Words.{texts_of, Group}
use Rattle.stored.specs.Moment.{Moment, state_at}

-- ---- the parts of a batch, and their order

-- the rows of a batch by kind
pub record Batch : Type 0 where
  pub entities : List Key
  pub kept : List KeptRow
  pub extends : List ExtendRow
  pub names : List (Key × List ℕ)
  pub lives : List (ℕ × ALife)
  pub held : List ((ℕ × ℕ) × Option AHeld)
  pub addresses : List (ℕ × List ℕ)
  pub births : List (FileId × ℕ)
  pub waiting : List (EventKey × Group)
  pub state : StateRow

-- a name of an object as a row
abbrev pub name_row : Key × List ℕ → StoreRow
name_row e = Name e.0 e.1

-- the life of a pid as a row
abbrev pub life_row : ℕ × ALife → StoreRow
life_row e = Life e.0 e.1

-- what a descriptor holds as a row
abbrev pub held_row : (ℕ × ℕ) × Option AHeld → StoreRow
held_row e = Held e.0.0 e.0.1 e.1

-- the address of a socket as a row
abbrev pub address_row : ℕ × List ℕ → StoreRow
address_row e = Address e.0 e.1

-- the births of a file number as a row
abbrev pub born_row : FileId × ℕ → StoreRow
born_row e = Born e.0 e.1

-- a group that waits as a row
abbrev pub waiting_row : EventKey × Group → StoreRow
waiting_row e = Waiting e.0.ms e.0.serial e.1.closed e.1.lines

-- the rows of the parts up to the lives
abbrev pub front : Batch → List StoreRow
front b = map Entity b.entities ++ (map Kept b.kept ++ (map Extend b.extends ++ (map name_row b.names ++ map life_row b.lives)))

-- those of the parts after the lives, the State last
abbrev pub back : Batch → List StoreRow
back b = map held_row b.held ++ (map address_row b.addresses ++ (map born_row b.births ++ (map waiting_row b.waiting ++ State b.state ∷ [])))

-- the rows of a batch, in their order
abbrev pub laid : Batch → List StoreRow
laid b = front b ++ back b

-- each is Less than all after it
abbrev pub Ascends : {A : Type 0} → (A → A → Type 0) → List A → Type 0
Ascends Less [] = ⊤
Ascends Less (x ∷ xs) = AllByRecursion (Less x) xs × Ascends Less xs

-- the last value for a key that passes
abbrev pub said : {K V : Type 0} → (K → Bool) → List (K × V) → Option V
said test xs = fold (λ found e. newer found (if test e.0 then Some e.1 else None)) None xs

-- ---- flows and rows

-- what a row keeps of a flow besides its ends
abbrev pub mark_of : Flow → AMark
mark_of f = record { at = f.at; how = f.how; serial = f.serial }

-- the Kept row of a flow that follows these flows: its links are the last of them with its target and with its source
abbrev pub kept_row : List Flow → Flow → KeptRow
kept_row K f = record {
  from = f.from;
  to = f.to;
  mark = mark_of f;
  before_to = last_index (λ g. target g == target f) K;
  before_from = last_index (λ g. source g == source f) K;
}

-- the Kept rows of new rows that follow these flows
abbrev pub kept_from : List Flow → List Row → List KeptRow
kept_from K [] = []
kept_from K (r ∷ R) = kept_row K r.first ∷ kept_from (K ++ r.first ∷ []) R

-- a row as its Kept row alone says it
abbrev pub fresh : Row → Row
fresh r = row_of r.first

-- an Extend row for each row, from this index on, whose last flow has another place than on the disk
abbrev pub extends_from : ℕ → List Row → List Row → List ExtendRow
extends_from i [] now = []
extends_from i (q ∷ Q) [] = []
extends_from i (q ∷ Q) (r ∷ R) = (if q.last.at.place == r.last.at.place then [] else record { row = i; mark = mark_of r.last } ∷ []) ++ extends_from (suc i) Q R

-- the rows that the mode keeps of the earlier flows and of those of now, and the Kept and Extend rows that lead from the
-- former to the latter
pub record AreRowsOf (mode : Mode) (earlier now : List Flow) (b : Batch) : Type 0 where
  pub before : List Row
  pub after : List Row
  pub kept_before : Keeps mode earlier before
  pub kept_now : Keeps mode now after
  pub kept : b.kept ≡ kept_from (firsts before) (drop (length before) after)
  pub extends : b.extends ≡ extends_from 0 (before ++ map fresh (drop (length before) after)) after

-- ---- what a row of a table says

-- if no row says a value, it is as before; if one does, the value is what it says
abbrev pub Tells : {V W : Type 0} → (Option V → W) → Option V → W → W → Type 0
Tells read None before now = now ≡ before
Tells read (Some v) before now = read (Some v) ≡ now

-- a row stands only if its value changed or an act named what it is about
abbrev pub IsCalledFor : {W : Type 0} → W → W → Bool → Type 0
IsCalledFor before now named = (now ≢ before) ⊎ (named ≡ true)

-- an act names this pid
abbrev pub names_pid : Act → ℕ → Bool
names_pid (See pid ppid exe) p = pid == p || ppid == p
names_pid (Fork pid child) p = pid == p || child == p
names_pid (End pid) p = pid == p
names_pid (Exec pid) p = pid == p
names_pid (Set pid fd what cloexec) p = pid == p
names_pid (SetBoth pid first second cloexec) p = pid == p
names_pid (Copy pid from to cloexec) p = pid == p
names_pid (Close pid fd) p = pid == p
names_pid (Mark pid fd cloexec) p = pid == p
names_pid (AnAddress pid fd bytes) p = pid == p
names_pid (Birth file) p = false
names_pid (Move pid inward how what) p = pid == p

-- an act makes this socket, or has an address for it
abbrev pub names_socket : List Act → Act → ℕ → Bool
names_socket before (Set pid fd (ASocket address listener) cloexec) s = act_number before == s
names_socket before (AnAddress pid fd bytes) s = addressed before pid fd == s
names_socket before other s = false

-- one of the acts since then names it, each act asked with those before it
abbrev pub since_names : {A : Type 0} → (List Act → Act → A → Bool) → List Act → List Act → A → Bool
since_names test [] before x = false
since_names test (act ∷ since) before x = test (since ++ before) act x || since_names test since before x

-- a descriptor was held at some moment from the last commit on
abbrev pub WasHeld : List Act → List Act → ℕ → ℕ → Type 0
WasHeld since before p n = (k : ℕ) × (k ≤ length since) × (is_some (holds (drop k since ++ before) p n) ≡ true)

-- the descriptors of a pid stay by its Life row, if there is one
abbrev pub stays : List Act → ℕ → Option ALife → Bool
stays before p None = true
stays before p (Some l) = l.live && beginnings before p == l.life + 1

-- what is held without a Held row
abbrev pub left_held : List Act → ℕ → ℕ → Option ALife → Option AHeld
left_held before p n l = if stays before p l then holds before p n else None

-- a Held row says what is held
abbrev pub HeldAs : Option (Option AHeld) → Option AHeld → Option AHeld → Type 0
HeldAs None left now = now ≡ left
HeldAs (Some h) left now = h ≡ now

-- ---- the tables

-- the table rows lead from what holds before some acts to what holds after them, and stand only if they are called for
pub record AreTablesOf (since before : List Act) (b : Batch) : Type 0 where
  pub lives : (p : ℕ) → Tells standing_of (said (λ q. q == p) b.lives) (standing before p) (standing (since ++ before) p)
  pub lives_called : (p : ℕ) (l : ALife) → Contains b.lives (p, l) → IsCalledFor (standing before p) (standing (since ++ before) p) (since_names (λ B. names_pid) since before p)
  pub held : (p n : ℕ) → HeldAs (said (λ q. is_at q.0 q.1 p n) b.held) (left_held before p n (said (λ q. q == p) b.lives)) (holds (since ++ before) p n)
  pub held_live : (p n : ℕ) (h : Option AHeld) → Contains b.held ((p, n), h) → live (since ++ before) p ≡ true
  pub held_was : (p n : ℕ) (h : Option AHeld) → Contains b.held ((p, n), h) → WasHeld since before p n
  pub held_called : (p n : ℕ) (h : Option AHeld) → Contains b.held ((p, n), h) → IsCalledFor (left_held before p n (said (λ q. q == p) b.lives)) (holds (since ++ before) p n) (since_names (λ B. names_pid) since before p)
  pub addresses : (s : ℕ) → Tells (λ o. o) (said (λ a. a == s) b.addresses) (address_of before s) (address_of (since ++ before) s)
  pub addresses_called : (s : ℕ) (a : List ℕ) → Contains b.addresses (s, a) → IsCalledFor (address_of before s) (address_of (since ++ before) s) (since_names names_socket since before s)
  pub births : (f : FileId) → Tells (λ o. unwrap_or o 0) (said (λ g. files.eq f g) b.births) (born before f) (born (since ++ before) f)
  pub births_called : (f : FileId) (n : ℕ) → Contains b.births (f, n) → IsCalledFor (born before f) (born (since ++ before) f) (since_names (λ B. is_birth_of) since before f)

-- ---- what waits

-- a group as its lines
abbrev pub lines_of_group : Option AGroup → Option Group
lines_of_group None = None
lines_of_group (Some g) = Some (record { closed = g.closed; lines = map (λ (r : Record). r.line) g.records })

-- the groups are all that wait
abbrev pub AreWaiting : Joining → List (EventKey × Group) → Type 0
AreWaiting s groups = (key : EventKey) → lookup (is_key key) groups ≡ lines_of_group (group_at s key)

-- by time, then by serial
abbrev pub IsKeyBefore : EventKey → EventKey → Type 0
IsKeyBefore a b = (a.ms < b.ms) ⊎ ((a.ms ≡ b.ms) × (a.serial < b.serial))

-- by pid, then by descriptor
abbrev pub IsSlotBefore : ℕ × ℕ → ℕ × ℕ → Type 0
IsSlotBefore a b = (a.0 < b.0) ⊎ ((a.0 ≡ b.0) × (a.1 < b.1))

-- rows of one tag ascend, if the store's conditions ask it of the tag
pub record Ascend (b : Batch) : Type 0 where
  pub extends : Ascends (λ x y. x.row < y.row) b.extends
  pub lives : Ascends (λ x y. x.0 < y.0) b.lives
  pub held : Ascends (λ x y. IsSlotBefore x.0 y.0) b.held
  pub addresses : Ascends (λ x y. x.0 < y.0) b.addresses
  pub births : Ascends (λ x y. IsBefore x.0 y.0) b.births
  pub waiting : Ascends (λ x y. IsKeyBefore x.0 y.0) b.waiting

-- ---- a commit

-- the first names of a key, at most `most`
abbrev pub names_at : (List ℕ → List ℕ) → ℕ → List Taken → Key → List (List ℕ)
names_at text most taken k = take most (names_of k (all_given text (acts_of taken)))

-- The rows of the commit of a moment that follows one at an earlier moment.
pub record IsCommitOf (text : List ℕ → List ℕ) (most : ℕ) (mode : Mode) (m0 m : Moment) (rows : List StoreRow) : Type 0 where
  pub batch : Batch
  pub laid_are : rows ≡ laid batch
  pub ascend : Ascend batch
  pub since : List Taken
  pub goes_on : m.taken ≡ since ++ m0.taken
  pub entities : batch.entities ≡ drop (length (objects (acts_of m0.taken))) (objects (acts_of m.taken))
  pub rows_are : AreRowsOf mode (flows m0.taken) (flows m.taken) batch
  pub names : (k : Key) → texts_of k batch.names ≡ drop (length (names_at text most m0.taken k)) (names_at text most m.taken k)
  pub tables : AreTablesOf (acts_of since) (acts_of m0.taken) batch
  pub waiting : AreWaiting m.join batch.waiting
  pub state : batch.state ≡ state_at m
