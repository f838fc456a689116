use Rattle.std.proofs.Common.{◌≡◌, ◌≤◌, ◌^◌, take}
use Rattle.reach_model.specs.Numbers.{known}
use Rattle.reduce_source.proofs.sets.known_of.Given as goal

-- the flows so far know so many objects, none past the ids
abbrev pub invariant-loop-flow : goal.invariant-loop-flow
invariant-loop-flow l = record {
  known : l.count ≡ known (take l.flow-index l.flows);
  most : l.count ≤ 2 ^ 32;
}
