use Rattle.reduce_source.proofs.SetLemmas.{within_sets, missing_source}
use Rattle.reduce_source.proofs.sets.SourceSets.covers.Goals as goal

pub returns-clause-yes : goal.returns-clause-yes
returns-clause-yes c = λ K s t. within_sets c.args.self.now K s c.args.small.0 c.args.large.0 (c.is_within.ensures.yes t)

pub returns-clause-no : goal.returns-clause-no
returns-clause-no c = λ K s t. let r = c.is_within.ensures.no t in missing_source c.args.self.now K s c.args.small.0 c.args.large.0 r.0 r.1 r.2
