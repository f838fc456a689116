use Rattle.std.proofs.Common.{◌≡◌, take}
use Rattle.std.specs.List.{flat_map}
use Rattle.entity_names.specs.Known.{new_pairs, pairs_of}
use Rattle.entity_names.proofs.saving.names_from.Given as goal

-- the new names of the entries so far
abbrev pub invariant-loop-place : goal.invariant-loop-place
invariant-loop-place l = pairs_of l.found ≡ flat_map new_pairs (take l.place l.names.entries)
