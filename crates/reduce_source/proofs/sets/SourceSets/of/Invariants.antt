use Rattle.reduce_source.proofs.Listing.{AreListedBelow}
use Rattle.reduce_source.proofs.sets.SourceSets.of.Given as goal

-- the sources below `place` are listed
abbrev pub invariant-loop-place : goal.invariant-loop-place
invariant-loop-place l = AreListedBelow l.fn.self l.fn.id.0 l.place l.sources
