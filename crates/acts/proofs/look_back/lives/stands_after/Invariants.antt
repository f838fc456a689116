use Rattle.std.proofs.Common.{◌≡◌, ◌≤◌, take}
use Rattle.acts.specs.Standing.{standing}
use Rattle.acts.specs.LookBack.{so_far}
use Rattle.acts.proofs.look_back.lives.stands_after.Given as goal

-- so far it is the answer for the acts so far
abbrev pub invariant-loop-i : goal.invariant-loop-i
invariant-loop-i l = record {
  stands : l.state ≡ standing (so_far (take l.i l.taken)) l.pid;
  few : l.state.beginnings ≤ l.i;
}
