use Rattle.std.proofs.Common.{◌≡◌, map, take}
use Rattle.fd_table.proofs.entries.descriptors.Given as goal

-- the descriptors so far
abbrev pub invariant-loop-entry : goal.invariant-loop-entry
invariant-loop-entry l = l.fds ≡ map (λ e. e.fd) (take l.entry-index l.entries)
