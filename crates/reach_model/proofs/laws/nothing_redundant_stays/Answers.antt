use Rattle.reach_model.proofs.laws.nothing_redundant_stays.Goals as goal
use Rattle.reach_model.proofs.VersionFacts.{full_leaves_once}
use Rattle.reach_model.proofs.SourceCount.{source_each}
use Rattle.reach_model.proofs.Redundant.{continuous_parts, full_parts, source_brings}

pub returns-clause-continuous : goal.returns-clause-continuous
returns-clause-continuous c = λ F R l k. continuous_parts l k

pub returns-clause-full : goal.returns-clause-full
returns-clause-full c = λ F R l k. full_parts l k

pub returns-clause-source : goal.returns-clause-source
returns-clause-source c = λ F R l k. source_brings l k

pub returns-clause-full_versions : goal.returns-clause-full_versions
returns-clause-full_versions c = λ F R l k. full_leaves_once l k

pub returns-clause-source_each : goal.returns-clause-source_each
returns-clause-source_each c = λ F R l k. source_each l k
