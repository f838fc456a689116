use Rattle.std.proofs.Common.{◌≡◌, take}
use Rattle.acts.specs.Lives.{live}
use Rattle.acts.specs.LookBack.{so_far}
use Rattle.acts.proofs.look_back.lives.is_live.Given as goal

-- so far it is the answer for the acts so far
abbrev pub invariant-loop-one : goal.invariant-loop-one
invariant-loop-one l = l.is_live ≡ live (so_far (take l.one-index l.taken)) l.pid
