-- What the tables of source mode say of the rows.
use Rattle.std.specs.Prelude.{◌≡◌, ◌≢◌, ℕ, List, Some}
use Rattle.flow_base.specs.declared.types.Flow.{Flow}
use Rattle.reach_model.specs.Rows.{Row, firsts}
use Rattle.reach_model.specs.Sources.{first_at}
use Rattle.reach_model.specs.SourceSets.{HasSource}
use Rattle.reach_rows.specs.Verdicts.{HasEnd}
use Rattle.reduce_source.specs.Sets.{StandsFor as HasSets, standing_of}
use Rattle.reduce_source.specs.declared.standing.Standing.TheVariants.{Unknown}
use Rattle.reduce_source.specs.declared.sources.Sources.{Sources}

-- the tables were given the rows R, whatever their times: they know no object but those that some
-- row has at an end
abbrev pub Holds : Sources → List Row → Type 0
Holds s R = (x : ℕ) → standing_of s.sets x ≢ Unknown → HasEnd R x

-- some source reaches each object that has a flow
abbrev pub AreReached : List Flow → Type 0
AreReached K = (v : ℕ) (f : Flow) → first_at K v ≡ Some f → (x : ℕ) × HasSource K v x

-- the tables are those of the rows R, each of which came after the earlier ones: the sets are those
-- of their first flows
pub record StandsFor (s : Sources) (R : List Row) : Type 0 where
  pub sets : HasSets s.sets (firsts R)
  pub reached : AreReached (firsts R)
