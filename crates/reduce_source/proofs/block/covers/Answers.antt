use Rattle.reduce_source.proofs.Bits.{none_missing, one_missing}
use Rattle.reduce_source.proofs.block.covers.Goals as goal

pub returns-clause-yes : goal.returns-clause-yes
returns-clause-yes c = λ t. none_missing c.args.small c.args.large c.ranges.large.fits t

pub returns-clause-no : goal.returns-clause-no
returns-clause-no c = λ f. one_missing c.args.small c.args.large c.ranges.small.fits c.ranges.large.fits f
