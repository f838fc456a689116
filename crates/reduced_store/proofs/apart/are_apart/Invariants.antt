use Rattle.std.proofs.Common.{map, nat_eq, ◌≡◌, take}
use Rattle.std.specs.List.{IsDistinct}
use Rattle.reduced_store.specs.Filling.{place_of}
use Rattle.reduced_store.proofs.apart.are_apart.Given as goal

-- the places of the stamps so far, which are distinct
abbrev pub invariant-loop-last : goal.invariant-loop-last
invariant-loop-last l = (l.places.keys ≡ map place_of (take l.last-index l.lasts)) × IsDistinct nat_eq (map place_of (take l.last-index l.lasts))
