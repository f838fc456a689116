use Rattle.std.proofs.Common.{ℕ, ◌+◌, ◌<◌, slice_index_or}
use Rattle.flow_base.specs.declared.types.Stamp.{Stamp}
use Rattle.reduced_store.specs.Filling.{place_of}
use Rattle.reduced_store.proofs.apart.ascend.Given as goal

-- the places below i ascend
abbrev pub invariant-loop-i : goal.invariant-loop-i
invariant-loop-i l = (k : ℕ) (d : Stamp) → k + 1 < l.i → place_of (slice_index_or l.lasts k d) < place_of (slice_index_or l.lasts (k + 1) d)
