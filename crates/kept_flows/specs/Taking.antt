-- How flows go into the tables and the rows of a mode.
use Rattle.std.specs.Prelude.{◌≡◌, ℕ, ◌<◌, ◌≤◌, ◌+◌, ◌^◌, max, List, [], ◌∷◌, ◌++◌, length, slice_index_or, Option, Some, ◌⊎◌}
use Rattle.std.specs.List.{Contains}
use Rattle.std.specs.Option.{option_map}
use Rattle.flow_base.specs.declared.types.Flow.{Flow}
use Rattle.reach_model.specs.Flows.{IsLawful, place, time}
use Rattle.reach_model.specs.Numbers.{IsNumbered, beyond}
use Rattle.reach_model.specs.Rows.{Row, firsts, lasts, rows_after}
use Rattle.reach_model.specs.declared.modes.Verdict.{Verdict}
use Rattle.reach_model.specs.declared.modes.Verdict.TheVariants.{Drop, Add, Extend}
use Rattle.reach_rows.specs.Kept.{ComesAfter, GoesOn, GoOn}
use Rattle.reach_rows.specs.Verdicts.{FitsRows}
use Rattle.kept_flows.specs.KeptFlows.{KeptFlows, StandsFor, AreCounted}

-- f comes next after the flows F
pub record IsNextOf (F : List Flow) (f : Flow) : Type 0 where
  pub lawful : IsLawful (F ++ f ∷ [])
  pub numbered : IsNumbered (F ++ f ∷ [])
  pub few_objects : beyond f < 2 ^ 32

-- there is room for this many flows, or for more
abbrev pub HasRoomFor : (room : ℕ → Type 0) → ℕ → Type 0
HasRoomFor room n = (m : ℕ) × (n ≤ m) × room m

-- where there was room for n flows and one more, there is room for n
abbrev pub UsesRoom : (old new : ℕ → Type 0) → Type 0
UsesRoom old new = (n : ℕ) → HasRoomFor old (n + 1) → HasRoomFor new n

-- each of these flows comes after all flows of the rows R, and after those of these flows before it
pub record AllComeAfter (R : List Row) (more : List Flow) : Type 0 where
  pub rows : (f : Flow) → Contains more f → ComesAfter R f
  pub places : (j k : ℕ) (d : Flow) → j < k → k < length more → place (slice_index_or more j d) < place (slice_index_or more k d)
  pub times : (j k : ℕ) (d : Flow) → j ≤ k → k < length more → time (slice_index_or more j d) ≤ time (slice_index_or more k d)

-- More flows may be taken in, whether the kept flows stand for any flows or not: they go on with the numbering of the objects,
-- are so few that a row for each can be counted, and come after the rows if these are told.
pub record MayTakeIn (kept : KeptFlows) (more : List Flow) : Type 0 where
  pub numbered : GoOn kept.objects more
  pub few_flows : kept.count + length more < 2 ^ 63
  pub later : (R : List Row) → kept.told ≡ Some R → AllComeAfter R more

-- the same of one flow
pub record MayTake (kept : KeptFlows) (f : Flow) : Type 0 where
  pub goes_on : GoesOn kept.objects f
  pub few : kept.count < 2 ^ 63
  pub later : (R : List Row) → kept.told ≡ Some R → ComesAfter R f

-- what stood for some flows stands for those and then for f
abbrev pub Takes : KeptFlows → Flow → KeptFlows → Type 0
Takes old f new = (F : List Flow) → StandsFor old F → IsNextOf F f → StandsFor new (F ++ f ∷ [])

-- f is the first or the last flow of one of the rows R
abbrev pub IsFlowOf : List Row → Flow → Type 0
IsFlowOf R f = Contains (firsts R) f ⊎ Contains (lasts R) f

-- If the new rows are told, so were the old ones, and each flow of the new rows is one of the old rows or one of more flows. So
-- whatever holds of all flows of the old rows and of more flows holds of all flows of the new rows.
abbrev pub BringsOnly : (old : Option (List Row)) → List Flow → (new : Option (List Row)) → Type 0
BringsOnly old more new = (S : List Row) → new ≡ Some S
    → (R : List Row) × (old ≡ Some R) × ((f : Flow) → IsFlowOf S f → IsFlowOf R f ⊎ Contains more f)

-- The verdict on f fits rows of which there are as many, with as many objects. If the rows are told, it fits these, and f comes
-- after them.
pub record MayPut {K : Type 0} (rows : K → Option (List Row)) (count known : K → ℕ)
    (keep : K) (f : Flow) (verdict : Verdict) : Type 0 where
  pub some : (R : List Row) × AreCounted R (count keep) (known keep) × FitsRows R f verdict
  pub told : (R : List Row) → rows keep ≡ Some R → ComesAfter R f × FitsRows R f verdict

-- how many rows there are after a verdict
abbrev pub count_after : ℕ → Verdict → ℕ
count_after count Drop = count
count_after count Add = count + 1
count_after count (Extend i) = count

-- the rows change as the verdict on f says, and know the objects of f
pub record Puts {K : Type 0} (rows : K → Option (List Row)) (count known : K → ℕ)
    (old : K) (f : Flow) (verdict : Verdict) (new : K) : Type 0 where
  pub rows_are : rows new ≡ option_map (λ R. rows_after R f verdict) (rows old)
  pub count_is : count new ≡ count_after (count old) verdict
  pub known_is : known new ≡ max (known old) (beyond f)

-- the rows change as some verdict on f says
abbrev pub PutsSomehow : {K : Type 0} → (rows : K → Option (List Row)) → (count known : K → ℕ)
    → K → Flow → K → Type 0
PutsSomehow rows count objects old f new = (verdict : Verdict) × Puts rows count objects old f verdict new
