use Rattle.std.proofs.Common.{◌≡◌, take}
use Rattle.ingest.proofs.replies.copy_names.Given as goal

-- the names so far
abbrev pub invariant-loop-name : goal.invariant-loop-name
invariant-loop-name l = l.made ≡ take l.name-index l.names
