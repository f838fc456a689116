use Rattle.std.proofs.Common.{◌≡◌, take}
use Rattle.std.specs.List.{fold}
use Rattle.order_kin.specs.declared.brood.Found.TheVariants as found
use Rattle.order_kin.specs.Broods.{with_kid}
use Rattle.order_kin.proofs.brood.Brood.only_kid.Given as goal

-- the only one of the children so far
abbrev pub invariant-loop-kid : goal.invariant-loop-kid
invariant-loop-kid l = l.found ≡ fold (with_kid l.ms l.next) found.Nobody (take l.kid-index l.kid-items)
