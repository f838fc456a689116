-- The rows that each mode keeps, built flow by flow from the verdict on each.
use Rattle.std.specs.Prelude.{◌≡◌, ◌≢◌, ℕ, ◌<◌, List, [], ◌∷◌, ◌++◌, length, map, slice_index_or, slice_set, ⊤}
use Rattle.std.specs.List.{Contains}
use Rattle.flow_base.specs.declared.types.Flow.{Flow}
use Rattle.reach_model.specs.declared.modes.Mode.{Mode}
use Rattle.reach_model.specs.declared.modes.Mode.TheVariants.{Plain, Continuous, Full, Source}
use Rattle.reach_model.specs.declared.modes.Verdict.{Verdict}
use Rattle.reach_model.specs.declared.modes.Verdict.TheVariants.{Drop, Add, Extend}
use Rattle.reach_model.specs.Flows.{source, target, place}
use Rattle.reach_model.specs.Paths.{Reaches}
use Rattle.reach_model.specs.Sources.{IsSource}

-- a row stands for the flows of one pair from its first to its last
pub record Row : Type 0 where
  pub first : Flow
  pub last : Flow

-- the first flows of the rows: what a question backward goes over
abbrev pub firsts : List Row → List Flow
firsts R = map (λ r. r.first) R

-- their last flows: what a question forward goes over
abbrev pub lasts : List Row → List Flow
lasts R = map (λ r. r.last) R

-- two flows with the same source and the same target
abbrev pub SamePair : Flow → Flow → Type 0
SamePair g f = (source g ≡ source f) × (target g ≡ target f)

-- Continuous. After F, f carries on from g: g is the last flow of F between the same two objects, and no flow of F after g
-- enters the source of f or leaves its target
pub record CarriesOn (F : List Flow) (g f : Flow) : Type 0 where
  pub there : Contains F g
  pub pair : SamePair g f
  pub nothing_between : (h : Flow) → Contains F h → place g < place h → (target h ≢ source f) × (source h ≢ target f)
  pub no_later : (h : Flow) → Contains F h → place g < place h → ¬ SamePair h f

-- Full. Among the kept flows, one from the source of f to its target has no later kept flow into that source
pub record IsLinked (R : List Row) (f : Flow) : Type 0 where
  pub by : Flow
  pub kept : Contains (firsts R) by
  pub pair : SamePair by f
  pub no_inflow_since : (h : Flow) → Contains (firsts R) h → target h ≡ source f → place h < place by

-- Source. x is a source by the flows up to and with f, and a path by the flows before f leads from it to v
abbrev pub IsSourceOf : List Flow → Flow → ℕ → ℕ → Type 0
IsSourceOf F f v x = IsSource (F ++ f ∷ []) x × Reaches (Contains F) 0 x v

-- The verdict of a mode on f after the flows F, of which it kept R. Plain adds every flow. Continuous extends the row whose
-- last flow f carries on from, and else adds. Full drops f if it is linked. Source drops f if each source of its
-- source is one of its target already.
abbrev pub IsVerdict : Mode → List Flow → List Row → Flow → Verdict → Type 0
IsVerdict Plain F R f Drop = ⊥
IsVerdict Plain F R f Add = ⊤
IsVerdict Plain F R f (Extend i) = ⊥
IsVerdict Continuous F R f Drop = ⊥
IsVerdict Continuous F R f Add = (g : Flow) → ¬ CarriesOn F g f
IsVerdict Continuous F R f (Extend i) = (i < length R) × ((d : Row) → CarriesOn F (slice_index_or R i d).last f)
IsVerdict Full F R f Drop = IsLinked R f
IsVerdict Full F R f Add = ¬ IsLinked R f
IsVerdict Full F R f (Extend i) = ⊥
IsVerdict Source F R f Drop = (x : ℕ) → IsSourceOf F f (source f) x → IsSourceOf F f (target f) x
IsVerdict Source F R f Add = (x : ℕ) × IsSourceOf F f (source f) x × ¬ IsSourceOf F f (target f) x
IsVerdict Source F R f (Extend i) = ⊥

-- the row of a flow that is added
abbrev pub row_of : Flow → Row
row_of f = record { first = f; last = f }

-- the rows after a verdict on f
abbrev pub rows_after : List Row → Flow → Verdict → List Row
rows_after R f Drop = R
rows_after R f Add = R ++ row_of f ∷ []
rows_after R f (Extend i) = slice_set R i (record (slice_index_or R i (row_of f)) { last = f })

-- a mode keeps no rows of no flows, and of F and then f what its verdict on f makes of the rows that it keeps of F
pub data Keeps (mode : Mode) : List Flow → List Row → Type 0 where
  none : Keeps mode [] []
  more : {F : List Flow} {R : List Row} (f : Flow) (d : Verdict) → Keeps mode F R → IsVerdict mode F R f d → Keeps mode (F ++ f ∷ []) (rows_after R f d)
