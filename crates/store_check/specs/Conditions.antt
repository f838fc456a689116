-- When a batch continues a store. What is asked of a row is said of it and of all rows of the store before it, those of its
-- own batch among them; only the order within a batch is of neighbours.
use Rattle.std.specs.Prelude.{◌≡◌, ◌≢◌, ◌⊎◌, ℕ, suc, ◌+◌, ◌^◌, ◌<◌, ◌≤◌, ◌==◌, max, Bool, true, false, List, [], ◌∷◌, ◌++◌, length, Option, Some, None, slice_get, slice_index_or, ⊤}
use Rattle.std.specs.List.{Contains}
use Rattle.std.specs.Prelude.{All}
use Rattle.flow_base.specs.declared.types.Bad.{Bad}
use Rattle.flow_base.specs.declared.types.Flow.{Flow}
use Rattle.flow_base.specs.declared.types.Key.{Key}
use Rattle.flow_base.specs.declared.limits.Limits.{Limits}
use Rattle.flow_base.specs.declared.types.Stamp.{Stamp}
use Rattle.reach_model.specs.declared.modes.Mode.{Mode}
use Rattle.reach_model.specs.declared.modes.Mode.TheVariants.{Continuous}
use Rattle.reach_model.specs.Flows.{source, target}
use Rattle.reach_model.specs.Numbers.{known}
use Rattle.reach_model.specs.Rows.{Row, firsts}
use Rattle.row_codec.specs.declared.rows.KeptRow.{KeptRow}
use Rattle.row_codec.specs.declared.rows.ExtendRow.{ExtendRow}
use Rattle.proc_table.specs.declared.life.Life.{Life as ALife}
use Rattle.row_codec.specs.declared.state.StateRow.{StateRow}
use Rattle.row_codec.specs.declared.rows.StoreRow.{StoreRow}
use Rattle.row_codec.specs.declared.rows.StoreRow.TheVariants.{Entity, Kept, Extend, Name, Life, Held, Address, Born, Waiting, State}
use Rattle.store_check.specs.Order.{AreOrdered, EndInState}
use Rattle.store_check.specs.Store.{keys, rows_of, last_index, life_of, place_in, time_in, act_in, number_in, EachIn}

-- how many objects a store may have, how many lines a waiting group, how many bytes a tail, and how many malformed lines a
-- State may list
pub record Bounds : Type 0 where
  pub entities : ℕ
  pub records : ℕ
  pub line : ℕ
  pub shown : ℕ

-- the bounds that the limits give
abbrev pub bounds_of : Limits → Bounds
bounds_of limits = record { entities = limits.entities; records = limits.records; line = limits.line; shown = limits.shown }

-- a greater place and no smaller time
pub record IsLater (before now : Stamp) : Type 0 where
  pub place : before.place < now.place
  pub time : before.ms ≤ now.ms

-- An Entity row has a key that is new, and there is room for it.
pub record IsNextEntity (limit : ℕ) (before : List StoreRow) (k : Key) : Type 0 where
  pub new : ¬ Contains (keys before) k
  pub room : length (keys before) < limit

-- Two different ends below the number of objects. Objects are numbered as Kept rows name them, the source first: each end is
-- below the number of those named so far, or it is the next one.
pub record HasEnds (objects seen : ℕ) (r : KeptRow) : Type 0 where
  pub differ : r.from.0 ≢ r.to.0
  pub from : r.from.0 < objects
  pub to : r.to.0 < objects
  pub from_numbered : r.from.0 ≤ seen
  pub to_numbered : r.to.0 ≤ max seen (suc r.from.0)

-- A Kept row has such ends, comes later than all Kept rows before it, and links to the last of them with its target and
-- with its source.
pub record IsNextKept (before : List StoreRow) (r : KeptRow) : Type 0 where
  pub ends : HasEnds (length (keys before)) (known (firsts (rows_of before))) r
  pub later : (f : Flow) → Contains (firsts (rows_of before)) f → IsLater f.at r.mark.at
  pub before_to : r.before_to ≡ last_index (λ f. target f == r.to.0) (firsts (rows_of before))
  pub before_from : r.before_from ≡ last_index (λ f. source f == r.from.0) (firsts (rows_of before))

-- An Extend row stands in continuous mode alone, names a row that is there, and is later than that row's last flow.
pub record IsNextExtend (mode : Mode) (before : List StoreRow) (e : ExtendRow) : Type 0 where
  pub continuous : mode ≡ Continuous
  pub there : e.row < length (rows_of before)
  pub later : (r : Row) → slice_get (rows_of before) e.row ≡ Some r → IsLater r.last.at e.mark.at

-- At a batch's end each object stands at an end of a Kept row.
abbrev pub AllAppear : List StoreRow → Type 0
AllAppear before = known (firsts (rows_of before)) ≡ length (keys before)

-- A Held row is of a pid whose last life is live.
abbrev pub IsLive : Option ALife → Type 0
IsLive None = ⊥
IsLive (Some l) = l.live ≡ true

-- A Waiting row has at least 1 line and at most `records`.
pub record HasLines (records : ℕ) (lines : List (List ℕ)) : Type 0 where
  pub some : 1 ≤ length lines
  pub most : length lines ≤ records

-- 1 if a line has begun that hasn't ended
abbrev pub begun : Bool → List ℕ → ℕ
begun true tail = 1
begun false [] = 0
begun false (b ∷ tail) = 1

-- Lines is the sum of the classes. Each line that ended or began took a byte. No number is above 2^60, and acts isn't above 2^62.
pub record HasCounts (s : StateRow) : Type 0 where
  pub classes : s.lines ≡ s.used + s.other + s.blank + s.malformed
  pub bytes : s.lines + begun s.long s.tail ≤ s.taken
  pub taken : s.taken ≤ 2 ^ 60
  pub part : s.part ≤ 2 ^ 60
  pub excess : s.excess ≤ 2 ^ 60
  pub events : s.events ≤ 2 ^ 60
  pub late : s.late ≤ 2 ^ 60
  pub unmapped : s.unmapped ≤ 2 ^ 60
  pub flows : s.flows ≤ 2 ^ 60
  pub greatest : s.greatest ≤ 2 ^ 60
  pub released : s.released_ms ≤ 2 ^ 60
  pub effective : s.effective ≤ 2 ^ 60
  pub acts : s.acts ≤ 2 ^ 62

-- The tail has at most `line` bytes and no line feed, and a line that is too long has none.
pub record HasTail (line : ℕ) (s : StateRow) : Type 0 where
  pub short : length s.tail ≤ line
  pub no_feed : ¬ Contains s.tail 10
  pub none : s.long ≡ true → s.tail ≡ []

-- a malformed line has the number of a line, from 1 on
abbrev pub IsLine : ℕ → Bad → Type 0
IsLine lines b = (1 ≤ b.line) × (b.line ≤ lines)

-- the numbers of malformed lines ascend
abbrev pub Ascend : List Bad → Type 0
Ascend bad = (i : ℕ) (d : Bad) → i + 1 < length bad → (slice_index_or bad i d).line < (slice_index_or bad (i + 1) d).line

-- At most `shown` malformed lines are listed, ascending, each with the number of a line.
pub record HasListed (shown : ℕ) (s : StateRow) : Type 0 where
  pub few : length s.bad ≤ shown
  pub ascend : Ascend s.bad
  pub lines : All (IsLine s.lines) s.bad

-- A State's flows are above every place in the store, its acts above every act number and no less than the number of any life
-- or birth, and no mark is later than its effective time.
pub record IsNextState (bounds : Bounds) (before : List StoreRow) (s : StateRow) : Type 0 where
  pub appear : AllAppear before
  pub places : EachIn place_in (λ place. place < s.flows) before
  pub times : EachIn time_in (λ ms. ms ≤ s.effective) before
  pub acts : EachIn act_in (λ act. act < s.acts) before
  pub numbers : EachIn number_in (λ n. n ≤ s.acts) before
  pub counts : HasCounts s
  pub tail : HasTail bounds.line s
  pub listed : HasListed bounds.shown s

-- what is asked of a row and all rows of the store before it
abbrev pub MayStand : Bounds → Mode → List StoreRow → StoreRow → Type 0
MayStand bounds mode before (Entity k) = IsNextEntity bounds.entities before k
MayStand bounds mode before (Kept r) = IsNextKept before r
MayStand bounds mode before (Extend e) = IsNextExtend mode before e
MayStand bounds mode before (Name k t) = ⊤
MayStand bounds mode before (Life p l) = ⊤
MayStand bounds mode before (Held p f h) = IsLive (life_of p before)
MayStand bounds mode before (Address a b) = ⊤
MayStand bounds mode before (Born f b) = ⊤
MayStand bounds mode before (Waiting m s c l) = HasLines bounds.records l
MayStand bounds mode before (State s) = IsNextState bounds before s

-- each row of a batch stands as P asks, after the rows before it
abbrev pub EachAfter : (List StoreRow → StoreRow → Type 0) → List StoreRow → List StoreRow → Type 0
EachAfter P before [] = ⊤
EachAfter P before (row ∷ rest) = P before row × EachAfter P (before ++ row ∷ []) rest

-- A batch continues a store with these rows: its rows are ordered, the last one is its State, and each may stand after all rows
-- before it.
pub record Continues (bounds : Bounds) (mode : Mode) (before batch : List StoreRow) : Type 0 where
  pub ordered : AreOrdered batch
  pub ended : EndInState batch
  pub stand : EachAfter (MayStand bounds mode) before batch
