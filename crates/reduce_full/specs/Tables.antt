-- What the tables of full mode say of the rows.
use Rattle.std.specs.Prelude.{List}
use Rattle.std.specs.List.{Contains}
use Rattle.reach_model.specs.Laws.{AscendsByFirst}
use Rattle.reach_model.specs.Rows.{Row, SamePair, firsts}
use Rattle.version_graph.specs.Links.{EndsDiffer}
use Rattle.version_graph.specs.Tables.{StandsFor as HasVersions}
use Rattle.reduce_full.specs.declared.full.Full.{Full}

-- the tables were given the rows R, whatever their times: the versions are those of the first flows in the order of the rows
pub record Holds (s : Full) (R : List Row) : Type 0 where
  pub versions : HasVersions s.versions (firsts R)
  pub pairs : (r : Row) → Contains R r → SamePair r.last r.first

-- the tables are those of the rows R, each of which came after the earlier ones
pub record StandsFor (s : Full) (R : List Row) : Type 0 where
  pub held : Holds s R
  pub ascends : AscendsByFirst R
  pub ends : EndsDiffer R
