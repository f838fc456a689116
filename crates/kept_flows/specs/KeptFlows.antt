-- Flows as the rows that a mode keeps of them.
use Rattle.std.specs.Prelude.{◌≡◌, ◌↔◌, ℕ, ◌<◌, ◌^◌, List, ◌++◌, length, Option, Some, IfSome, Result}
use Rattle.flow_base.specs.declared.types.Flow.{Flow}
use Rattle.reach_model.specs.declared.modes.Mode.{Mode}
use Rattle.reach_model.specs.Flows.{IsLawful}
use Rattle.reach_model.specs.Numbers.{IsNumbered, known}
use Rattle.reach_model.specs.Rows.{Row, Keeps, firsts, lasts}
use Rattle.query_walk.specs.declared.fault.WalkFault.{WalkFault}
use Rattle.query_walk.specs.Fault.{IsWalk}
use Rattle.query_walk.specs.Walks.{AreEndsBelow}

-- a mode, the rows that are kept if they are observable, and how many rows and objects there are
pub record KeptFlows : Type 0 where
  pub mode : Mode
  pub told : Option (List Row)
  pub count : ℕ
  pub objects : ℕ

-- kept flows together with the rows `keep` that keep them, whose faults a clause can speak of
pub record OverRows (K : Type 0) : Type 0 where
  pub kept : KeptFlows
  pub keep : K

-- a mode with the rows that it keeps, as a value
abbrev pub kept_by : Mode → Option (List Row) → (count objects : ℕ) → KeptFlows
kept_by mode told count objects =
    record { mode = mode; told = told; count = count; objects = objects }

-- the rows of a keep, with the mode that keeps them
abbrev pub kept_of : {K : Type 0} → Mode → (rows : K → Option (List Row)) → (count known : K → ℕ)
    → K → KeptFlows
kept_of mode rows count objects keep = kept_by mode (rows keep) (count keep) (objects keep)

-- the rows are told, and they are those that the mode keeps of the flows F
pub record StandsFor (kept : KeptFlows) (F : List Flow) : Type 0 where
  pub rows : List Row
  pub told : kept.told ≡ Some rows
  pub lawful : IsLawful F
  pub keeps : Keeps kept.mode F rows
  pub counted : length rows ≡ kept.count
  pub objects_known : known F ≡ kept.objects

-- more flows come next after F: all of them together are lawful and number the objects, and neither they nor the objects are
-- too many to be counted
pub record ComeNext (F more : List Flow) : Type 0 where
  pub lawful : IsLawful (F ++ more)
  pub numbered : IsNumbered (F ++ more)
  pub few_objects : known (F ++ more) < 2 ^ 32
  pub few_flows : length (F ++ more) < 2 ^ 63

-- what stood for some flows stands for those and then for more
abbrev pub TakesIn : KeptFlows → List Flow → KeptFlows → Type 0
TakesIn old more new = (F : List Flow) → StandsFor old F → ComeNext F more → StandsFor new (F ++ more)

-- the rows failed no read: their count of faults is as before, and so is whether they are spent
abbrev pub SameFaults : {K : Type 0} → (faults : K → ℕ) → (spent : K → Type 0) → (old new : K) → Type 0
SameFaults faults spent old new = (faults new ≡ faults old) × (spent old ↔ spent new)

-- A question over rows. Their count of faults doesn't fall, and spent rows stay spent. A store fault comes only if the count
-- rose or the rows are spent, and a bad store only if the rows aren't observable.
abbrev pub HasCauses : {K T : Type 0} → (faults : K → ℕ) → (spent : K → Type 0) → (old new : OverRows K) → Result T WalkFault → Type 0
HasCauses faults spent old new result = IsWalk old.kept.told (faults old.keep) (faults new.keep) (spent old.keep) (spent new.keep) result

-- the rows R are observable: there are this many of them, with this many objects
pub record AreTold (told : Option (List Row)) (count objects : ℕ) (R : List Row) : Type 0 where
  pub rows : told ≡ Some R
  pub counted : length R ≡ count
  pub objects_known : known (firsts R) ≡ objects

-- this many rows, whose last flows lie between this many objects
pub record AreCounted (R : List Row) (count objects : ℕ) : Type 0 where
  pub counted : length R ≡ count
  pub ends : AreEndsBelow objects (lasts R)

-- The tables of a mode are tied to rows, whatever these are: they hold as many rows as there are. If the rows are told, the
-- tables are theirs.
pub record AreTied (stands holds : List Row → Type 0) (told : Option (List Row)) (count objects : ℕ) : Type 0 where
  pub rows : List Row
  pub counted : AreCounted rows count objects
  pub held : holds rows
  pub theirs : IfSome told (λ R. AreTold told count objects R × stands R × holds R)

-- the same of the tables of a reducer and the rows of a keep
abbrev pub AreTiedTo : {M K : Type 0} → (stands holds : M → List Row → Type 0)
    → (rows : K → Option (List Row)) → (count known : K → ℕ) → M → K → Type 0
AreTiedTo stands holds rows count objects reducer keep =
    AreTied (stands reducer) (holds reducer) (rows keep) (count keep) (objects keep)
