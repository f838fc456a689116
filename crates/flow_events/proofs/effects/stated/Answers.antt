use Rattle.flow_events.proofs.effects.stated.Goals as goal

pub returns-in-None-Some : goal.returns-in-None-Some
returns-in-None-Some c = λ procs acts acting. rw (c.in-None-Some.is-0, c.in-None-Some.is-1) (c.heard.ensures procs acts acting)
