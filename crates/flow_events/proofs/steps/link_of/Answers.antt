use Rattle.std.proofs.Common.{◌≡◌, ◌++◌, ◌∙◌, subst, sym, Some}
use Rattle.flow_base.specs.declared.types.Key.TheVariants.{Process}
use Rattle.acts.specs.Flows.{between}
use Rattle.call_acts.specs.Events.{IsOf}
use Rattle.flow_events.proofs.Ends.{no_process}
use Rattle.flow_events.proofs.steps.link_of.Goals as goal

pub returns-in_ok-thing-in-Move-clause-link : goal.returns-in_ok-thing-in-Move-clause-link
returns-in_ok-thing-in-Move-clause-link c = λ few before now born acting.
    let of : c.in-Move.pid ≡ c.args.acting.now.pid = subst (λ act. IsOf c.args.acting.now.pid act) c.in-Move.is c.requires.of in
    let thing = c.in_ok-thing-in-Move.ensures c.args.procs.now before now born acting in
    let life = sym acting.life_is in
    let kind = no_process c.in_ok-thing-in-Move.thing (now ++ before) c.args.acting.now.pid c.in-Move.what thing in
    rw (c.in-Move.is, of) (c.between.ensures.link kind ∙ (λ i. Some (between c.in-Move.inward (thing i) (Process c.args.acting.now.pid (life i)) c.in-Move.how)))
