use Rattle.reach_model.proofs.SourceSets.{sources_after, source_of}
use Rattle.reach_model.proofs.laws.sources_follow_from_earlier_ones.Goals as goal

pub returns-clause-after : goal.returns-clause-after
returns-clause-after c = λ K f later differ. sources_after K f later differ

pub returns-clause-asked : goal.returns-clause-asked
returns-clause-asked c = λ K f later differ. source_of K f later differ
