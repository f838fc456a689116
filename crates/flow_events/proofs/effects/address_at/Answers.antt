use Rattle.std.proofs.Common.{◌==◌, sym, Some, if◌then◌else◌}
use Rattle.acts.specs.Holding.{address_of}
use Rattle.flow_events.proofs.effects.address_at.Goals as goal

pub returns : goal.returns
returns c = λ procs acts acting number s.
    let socket = sym (c.socket_or.ensures procs acts acting number) in
    let bytes = sym c.in_ok-copy.ensures in
    (λ i. if s == socket i then Some (bytes i) else address_of acts s)
