-- The checker's tables, the rows that they stand for, and the conditions in the words of the tables.
use Rattle.std.specs.Prelude.{◌≡◌, ◌≢◌, ◌⊎◌, ℕ, suc, ◌<◌, ◌≤◌, ◌==◌, max, nat_eq, List, [], ◌∷◌, length, map, Option, Some, None, slice_get, slice_set, ⊤, Bool, true, false, ◌++◌, if◌then◌else◌}
use Rattle.std.specs.List.{Contains, list_any}
use Rattle.std.specs.Map.{lookup}
use Rattle.flow_base.specs.declared.types.Flow.{Flow}
use Rattle.flow_base.specs.declared.types.Key.{Key}
use Rattle.flow_base.specs.declared.types.Stamp.{Stamp}
use Rattle.flow_base.specs.contracts.types.KeyPartialEq.TheImpl.{ghosts}
use Rattle.reach_model.specs.declared.modes.Mode.{Mode}
use Rattle.reach_model.specs.declared.modes.Mode.TheVariants.{Continuous}
use Rattle.reach_model.specs.Flows.{source, target}
use Rattle.reach_model.specs.Numbers.{known}
use Rattle.reach_model.specs.Rows.{Row, firsts}
use Rattle.row_codec.specs.declared.rows.KeptRow.{KeptRow}
use Rattle.row_codec.specs.declared.rows.ExtendRow.{ExtendRow}
use Rattle.proc_table.specs.declared.life.Life.{Life as ALife}
use Rattle.row_codec.specs.declared.state.StateRow.{StateRow}
use Rattle.row_codec.specs.declared.rows.StoreRow.{StoreRow}
use Rattle.row_codec.specs.declared.rows.StoreRow.TheVariants.{Entity, Kept, Extend, Name, Life, Held, Address, Born, Waiting, State}
use Rattle.store_check.specs.Store.{keys, rows_of, last_index, life_of, place_in, time_in, act_in, number_in, greater, greatest}
use Rattle.store_check.specs.Conditions.{Bounds, IsLater, HasEnds, IsLive, HasLines, HasCounts, HasTail, HasListed, MayStand, EachAfter}

-- the bounds and the mode; the keys; how many objects the Kept rows name; the stamp of the last Kept row; the index of the last
-- Kept row with each target (`into`) and with each source (`out`); the stamp of each kept row's last flow; the last life of
-- each pid; and the greatest place, time, act number, and number of a life or birth
pub record Tables : Type 0 where
  pub bounds : Bounds
  pub mode : Mode
  pub keys : List Key
  pub seen : ℕ
  pub top : Option Stamp
  pub into : List (ℕ × ℕ)
  pub out : List (ℕ × ℕ)
  pub lasts : List Stamp
  pub lives : List (ℕ × ALife)
  pub place : Option ℕ
  pub time : Option ℕ
  pub act : Option ℕ
  pub number : Option ℕ

-- the last of these flows has this stamp, and is later than all before it
abbrev pub IsTop : Option Stamp → List Flow → Type 0
IsTop None F = F ≡ []
IsTop (Some top) F = ((f : Flow) → Contains F f → (f.at.place ≤ top.place) × (f.at.ms ≤ top.ms)) × ((f : Flow) × Contains F f × (f.at ≡ top))

-- the tables say what these rows say
pub record StandsFor (t : Tables) (before : List StoreRow) : Type 0 where
  pub keys : t.keys ≡ keys before
  pub seen : t.seen ≡ known (firsts (rows_of before))
  pub top : IsTop t.top (firsts (rows_of before))
  pub into : (x : ℕ) → lookup (nat_eq x) t.into ≡ last_index (λ f. target f == x) (firsts (rows_of before))
  pub out : (x : ℕ) → lookup (nat_eq x) t.out ≡ last_index (λ f. source f == x) (firsts (rows_of before))
  pub lasts : t.lasts ≡ map (λ r. r.last.at) (rows_of before)
  pub lives : (p : ℕ) → lookup (nat_eq p) t.lives ≡ life_of p before
  pub place : t.place ≡ greatest place_in before
  pub time : t.time ≡ greatest time_in before
  pub act : t.act ≡ greatest act_in before
  pub number : t.number ≡ greatest number_in before

-- ---- the conditions in the words of the tables

-- by the tables an Entity row may stand next
pub record EntityFits (t : Tables) (k : Key) : Type 0 where
  pub new : list_any (ghosts.eq k) t.keys ≡ false
  pub room : length t.keys < t.bounds.entities

-- a stamp is later than the last Kept row, if there is one
abbrev pub IsAfterTop : Option Stamp → Stamp → Type 0
IsAfterTop None at = ⊤
IsAfterTop (Some top) at = IsLater top at

-- by the tables a Kept row may stand next
pub record KeptFits (t : Tables) (r : KeptRow) : Type 0 where
  pub ends : HasEnds (length t.keys) t.seen r
  pub later : IsAfterTop t.top r.mark.at
  pub before_to : r.before_to ≡ lookup (nat_eq r.to.0) t.into
  pub before_from : r.before_from ≡ lookup (nat_eq r.from.0) t.out

-- there is such a row, and a stamp is later than its last flow
abbrev pub IsAfterLast : Option Stamp → Stamp → Type 0
IsAfterLast None at = ⊥
IsAfterLast (Some last) at = IsLater last at

-- by the tables an Extend row may stand next
pub record ExtendFits (t : Tables) (e : ExtendRow) : Type 0 where
  pub continuous : t.mode ≡ Continuous
  pub later : IsAfterLast (slice_get t.lasts e.row) e.mark.at

-- the tables with one more Kept row
pub record HasKept (old : Tables) (r : KeptRow) (new : Tables) : Type 0 where
  pub seen : new.seen ≡ max old.seen (max (suc r.from.0) (suc r.to.0))
  pub top : new.top ≡ Some r.mark.at
  pub into : (x : ℕ) → lookup (nat_eq x) new.into ≡ (if r.to.0 == x then Some (length old.lasts) else lookup (nat_eq x) old.into)
  pub out : (x : ℕ) → lookup (nat_eq x) new.out ≡ (if r.from.0 == x then Some (length old.lasts) else lookup (nat_eq x) old.out)
  pub lasts : new.lasts ≡ old.lasts ++ r.mark.at ∷ []
  pub rest : new ≡ record old { seen = new.seen; top = new.top; into = new.into; out = new.out; lasts = new.lasts }

-- the tables with one more life
pub record HasLife (old : Tables) (pid : ℕ) (l : ALife) (new : Tables) : Type 0 where
  pub lives : (p : ℕ) → lookup (nat_eq p) new.lives ≡ (if pid == p then Some l else lookup (nat_eq p) old.lives)
  pub rest : new ≡ record old { lives = new.lives }

-- the tables with the greatest numbers of one more row
abbrev pub counted : Tables → StoreRow → Tables
counted t row = record t { place = greater t.place (place_in row); time = greater t.time (time_in row); act = greater t.act (act_in row); number = greater t.number (number_in row) }

-- a number that may be there is below a bound
abbrev pub IsBelow : Option ℕ → ℕ → Type 0
IsBelow None bound = ⊤
IsBelow (Some n) bound = n < bound

-- a number that may be there isn't above a bound
abbrev pub IsWithin : Option ℕ → ℕ → Type 0
IsWithin None bound = ⊤
IsWithin (Some n) bound = n ≤ bound

-- by the tables a State row may stand next
pub record StateFits (t : Tables) (s : StateRow) : Type 0 where
  pub appear : t.seen ≡ length t.keys
  pub places : IsBelow t.place s.flows
  pub times : IsWithin t.time s.effective
  pub acts : IsBelow t.act s.acts
  pub numbers : IsWithin t.number s.acts
  pub counts : HasCounts s
  pub tail : HasTail t.bounds.line s
  pub listed : HasListed t.bounds.shown s

-- by the tables this row may stand next
abbrev pub Fits : Tables → StoreRow → Type 0
Fits t (Entity k) = EntityFits t k
Fits t (Kept r) = KeptFits t r
Fits t (Extend e) = ExtendFits t e
Fits t (Name k n) = ⊤
Fits t (Life p l) = ⊤
Fits t (Held p f h) = IsLive (lookup (nat_eq p) t.lives)
Fits t (Address a b) = ⊤
Fits t (Born f b) = ⊤
Fits t (Waiting m s c l) = HasLines t.bounds.records l
Fits t (State s) = StateFits t s

-- the tables stand for these rows now; the bounds and the mode are as before
pub record Goes (old : Tables) (rows : List StoreRow) (new : Tables) : Type 0 where
  pub stands : StandsFor new rows
  pub bounds : new.bounds ≡ old.bounds
  pub mode : new.mode ≡ old.mode

-- the tables with one more row, except for the greatest numbers
abbrev pub HasRow : Tables → StoreRow → Tables → Type 0
HasRow old (Entity k) new = new ≡ record old { keys = old.keys ++ k ∷ [] }
HasRow old (Kept r) new = HasKept old r new
HasRow old (Extend e) new = new ≡ record old { lasts = slice_set old.lasts e.row e.mark.at }
HasRow old (Life p l) new = HasLife old p l new
HasRow old row new = new ≡ old

-- whether a row may stand, and then the tables with it
abbrev pub Stepped : Bool → Tables → List StoreRow → StoreRow → Tables → Type 0
Stepped true old before row new = MayStand old.bounds old.mode before row × Goes old (before ++ row ∷ []) new
Stepped false old before row new = ¬ MayStand old.bounds old.mode before row

-- whether each row of a batch may stand, and then the tables with them
abbrev pub Taken : Bool → Tables → List StoreRow → List StoreRow → Tables → Type 0
Taken true old before rows new = EachAfter (MayStand old.bounds old.mode) before rows × Goes old (before ++ rows) new
Taken false old before rows new = ¬ EachAfter (MayStand old.bounds old.mode) before rows
