use Rattle.std.proofs.Common.{◌≡◌, ◌≤◌, take}
use Rattle.acts.specs.Births.{born}
use Rattle.acts.specs.LookBack.{so_far}
use Rattle.acts.proofs.look_back.keys.born.Given as goal

-- so far it is the answer for the acts so far
abbrev pub invariant-loop-one : goal.invariant-loop-one
invariant-loop-one l = record {
  counts : l.born ≡ born (so_far (take l.one-index l.taken)) l.id;
  few : l.born ≤ l.one-index;
}
