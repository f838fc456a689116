use Rattle.std.proofs.Common.{◌++◌}
use Rattle.flow_events.proofs.acting.thing_key.Goals as goal

pub returns-in-Fd : goal.returns-in-Fd
returns-in-Fd c = λ procs before now born acting. rw c.in-Fd.is (c.held_key.ensures procs (now ++ before) acting)
