-- What the laws of the modes say.
use Rattle.std.specs.Prelude.{◌≡◌, ℕ, ◌<◌, ◌≤◌, List, map, Option, ◌↔◌, ◌⊎◌, length, slice_index_or}
use Rattle.std.specs.List.{Contains}
use Rattle.flow_base.specs.declared.types.Flow.{Flow}
use Rattle.reach_model.specs.declared.modes.Mode.{Mode}
use Rattle.reach_model.specs.declared.modes.Mode.TheVariants.{Plain, Continuous, Full, Source}
use Rattle.reach_model.specs.Flows.{source, target, place}
use Rattle.reach_model.specs.Paths.{Path, Reaches, Back, Fore, last_place}
use Rattle.reach_model.specs.Sources.{IsStartAllowed, IsSource, first_at}
use Rattle.reach_model.specs.Rows.{Row, SamePair, firsts, lasts}

-- every question: backward a row counts as its first flow, forward as its last
pub record AnswersAll (F : List Flow) (R : List Row) : Type 0 where
  pub back : (v : ℕ) (until : Option ℕ) (u : ℕ) → Back (firsts R) v until u ↔ Back F v until u
  pub fore : (u : ℕ) (since : Option ℕ) (v : ℕ) → Fore (lasts R) u since v ↔ Fore F u since v

-- backward always, forward if the start is no later than the object's first flow
pub record AnswersFromFirst (F : List Flow) (R : List Row) : Type 0 where
  pub back : (v : ℕ) (until : Option ℕ) (u : ℕ) → Back (firsts R) v until u ↔ Back F v until u
  pub fore : (u : ℕ) (since : Option ℕ) → IsStartAllowed F u since → (v : ℕ) → Fore (lasts R) u since v ↔ Fore F u since v

-- the same from sources alone
pub record AnswersForSources (F : List Flow) (R : List Row) : Type 0 where
  pub back : (v : ℕ) (until : Option ℕ) (x : ℕ) → IsSource F x → Back (firsts R) v until x ↔ Back F v until x
  pub fore : (x : ℕ) (since : Option ℕ) → IsSource F x → IsStartAllowed F x since → (v : ℕ) → Fore (lasts R) x since v ↔ Fore F x since v

-- each path has a kept one through the same objects that ends no later
abbrev pub KeepsEachPath : List Flow → List Row → Type 0
KeepsEachPath F R = (u v : ℕ) (p : List Flow) → Path (Contains F) 0 u v p → (q : List Flow) × Path (Contains (firsts R)) 0 u v q × (map target q ≡ map target p) × (last_place q ≤ last_place p)

-- each path by kept flows is a path by the flows of F
abbrev pub KeepsNothingElse : List Flow → List Row → Type 0
KeepsNothingElse F R = (u v : ℕ) (p : List Flow) → Path (Contains (firsts R)) 0 u v p → Path (Contains F) 0 u v p

-- the first flow of each object is the first flow of a row
abbrev pub KeepsFirstFlows : List Flow → List Row → Type 0
KeepsFirstFlows F R = (x : ℕ) → first_at (firsts R) x ≡ first_at F x

-- Continuous: between the last flow of a row and the first flow of a later row of its pair stands a flow of F into the source
-- or out of the target
pub record IsParted (F : List Flow) (r s : Row) : Type 0 where
  pub before : place r.last < place s.first
  pub by : Flow
  pub there : Contains F by
  pub after : place r.last < place by
  pub ahead : place by < place s.first
  pub apart : (target by ≡ source s.first) ⊎ (source by ≡ target s.first)

-- so no two rows could have been one
abbrev pub PartsRows : List Flow → List Row → Type 0
PartsRows F R = (r s : Row) → Contains R r → Contains R s → SamePair r.first s.first → place r.first < place s.first → IsParted F r s

-- Full: between two kept flows of one pair stands a kept flow into their source
abbrev pub PartsFlows : List Row → Type 0
PartsFlows R = (g f : Flow) → Contains (firsts R) g → Contains (firsts R) f → SamePair g f → place g < place f
    → (h : Flow) × Contains (firsts R) h × (target h ≡ source f) × (place g < place h) × (place h < place f)

-- Source: each kept flow gave its target a source that did not reach it before
abbrev pub BringsSources : List Flow → List Row → Type 0
BringsSources F R = (f : Flow) → Contains (firsts R) f
    → (x : ℕ) × IsSource F x × Reaches (λ g. Contains F g × (place g < place f)) 0 x (source f) × ¬ Reaches (λ g. Contains F g × (place g < place f)) 0 x (target f)

-- the first flows of the rows ascend
abbrev pub AscendsByFirst : List Row → Type 0
AscendsByFirst R = (i j : ℕ) (d : Flow) → i < j → j < length (firsts R) → place (slice_index_or (firsts R) i d) < place (slice_index_or (firsts R) j d)

-- which questions the rows of a mode answer as the flows do
abbrev pub Answers : Mode → List Flow → List Row → Type 0
Answers Plain F R = AnswersAll F R
Answers Continuous F R = AnswersAll F R
Answers Full F R = AnswersFromFirst F R
Answers Source F R = AnswersForSources F R
