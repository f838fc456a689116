use Rattle.std.proofs.Common.{◌∙◌, sym, ap}
use Rattle.acts.specs.Holding.{address_of}
use Rattle.flow_events.specs.Acting.{address_through}
use Rattle.flow_events.proofs.effects.heard.Goals as goal

pub returns-in-Some : goal.returns-in-Some
returns-in-Some c = λ procs acts acting.
    c.address.ensures.stands acts acting.addresses_are ∙ ap (address_through (address_of acts)) (sym c.in-Some.is ∙ c.socket_at.ensures procs acts acting)

pub returns-in-None : goal.returns-in-None
returns-in-None c = λ procs acts acting. ap (address_through (address_of acts)) (sym c.in-None.is ∙ c.socket_at.ensures procs acts acting)
