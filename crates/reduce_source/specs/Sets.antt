-- What the sets of sources say of the kept flows.
use Rattle.std.specs.Prelude.{◌≡◌, ◌≢◌, ℕ, ◌+◌, ◌*◌, ◌<◌, ◌≤◌, ◌^◌, ◌↔◌, List, length, slice_index_or, Some, None}
use Rattle.std.specs.List.{Contains}
use Rattle.flow_base.specs.declared.types.Flow.{Flow}
use Rattle.reach_model.specs.Flows.{source, target}
use Rattle.reach_model.specs.Sources.{first_at, IsSource}
use Rattle.reach_model.specs.SourceSets.{HasSource}
use Rattle.reduce_source.specs.Pools.{Fits}
use Rattle.reduce_source.specs.Shelves.{HasNumber, IsWide}
use Rattle.reduce_source.specs.declared.standing.Standing.{Standing}
use Rattle.reduce_source.specs.declared.standing.Standing.TheVariants.{Unknown, Entered, Source}
use Rattle.reduce_source.specs.declared.sets.SourceSets.{SourceSets}

-- an object past the end has no flow
abbrev pub standing_at : List Standing → ℕ → Standing
standing_at standings x = slice_index_or standings x Unknown

-- a standing that was given stays
abbrev pub first_given : Standing → Standing → Standing
first_given Unknown new = new
first_given Entered new = Entered
first_given (Source n) new = Source n

-- a new source takes the next number
abbrev pub count_after : Standing → ℕ → ℕ
count_after Unknown count = count + 1
count_after Entered count = count
count_after (Source n) count = count

-- what the first flow of x among the flows K says of x
abbrev pub IsStanding : List Flow → ℕ → Standing → Type 0
IsStanding K x Unknown = first_at K x ≡ None
IsStanding K x Entered = (f : Flow) × (first_at K x ≡ Some f) × (source f ≢ x)
IsStanding K x (Source n) = IsSource K x

-- the standing of x
abbrev pub standing_of : SourceSets → ℕ → Standing
standing_of s x = standing_at s.standings.items x

-- x is the source with the number n
abbrev pub IsNumber : SourceSets → ℕ → ℕ → Type 0
IsNumber s x n = standing_of s x ≡ Source n

-- the tables are those of the kept flows K: they know the sources of K, each by a number of its
-- own, the set of an object has the numbers of its sources, and no object is past the ids
pub record StandsFor (s : SourceSets) (K : List Flow) : Type 0 where
  pub standings : (x : ℕ) → IsStanding K x (standing_of s x)
  pub below : (x n : ℕ) → IsNumber s x n → n < s.count
  pub apart : (x y n : ℕ) → IsNumber s x n → IsNumber s y n → x ≡ y
  pub sets : (v n : ℕ) → HasNumber s.shared v n ↔ ((x : ℕ) × IsNumber s x n × HasSource K v x)
  pub places : length s.standings.items ≤ 2 ^ 32

-- room for these flows: a place for each of their ends, a number for a source each, and pages and
-- blocks for a union each
pub record HasRoom (s : SourceSets) (flows : List Flow) : Type 0 where
  pub ends : (f : Flow) → Contains flows f → (source f < length s.standings.items) × (target f < length s.standings.items)
  pub objects : length s.standings.items ≤ length s.shared.sets.items
  pub wide : (f : Flow) → Contains flows f → IsWide s.shared f
  pub numbers : s.count + length flows ≤ 8192 * s.shared.width
  pub counted : s.count + length flows < 2 ^ 32
  pub fits : Fits (length flows * (s.shared.width + 1)) s.shared.pools

-- f goes from u to v
abbrev pub IsBetween : Flow → ℕ → ℕ → Type 0
IsBetween f u v = (source f ≡ u) × (target f ≡ v)
