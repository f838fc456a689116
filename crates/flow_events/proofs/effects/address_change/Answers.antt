use Rattle.std.proofs.Common.{◌∙◌, sym, length}
use Rattle.acts.specs.Holding.{holds}
use Rattle.flow_events.proofs.Sockets.{socket_stays, socket_comes}
use Rattle.flow_events.proofs.effects.address_change.Goals as goal

pub returns-in-Some : goal.returns-in-Some
returns-in-Some c = λ procs acts acting number bytes p n.
    socket_stays (holds acts) c.args.acting.now.pid c.args.fd p n (length acts) _ (sym (c.socket_at.ensures procs acts acting) ∙ c.in-Some.is)

pub returns-in-None : goal.returns-in-None
returns-in-None c = λ procs acts acting number bytes p n.
    socket_comes (holds acts) c.args.acting.now.pid c.args.fd p n (length acts) c.args.number (sym (c.socket_at.ensures procs acts acting) ∙ c.in-None.is) number
