use Rattle.std.proofs.Common.{◌∙◌, sym, ap, length}
use Rattle.acts.specs.Holding.{named_or}
use Rattle.flow_events.proofs.effects.socket_or.Goals as goal

pub returns-in-Some : goal.returns-in-Some
returns-in-Some c = λ procs acts acting number. ap (named_or (length acts)) (sym c.in-Some.is ∙ c.socket_at.ensures procs acts acting)

pub returns-in-None : goal.returns-in-None
returns-in-None c = λ procs acts acting number. number ∙ ap (named_or (length acts)) (sym c.in-None.is ∙ c.socket_at.ensures procs acts acting)
