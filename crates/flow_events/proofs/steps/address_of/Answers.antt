use Rattle.std.proofs.Common.{◌≡◌, ◌∙◌, ◌∷◌, ℕ, subst, sym}
use Rattle.std.specs.Prelude.{IfOk}
use Rattle.acts.specs.declared.act.Act.TheVariants.{Set}
use Rattle.acts.specs.Holding.{address_of}
use Rattle.call_acts.specs.Events.{IsOf}
use Rattle.flow_events.specs.Standing.{readdressed}
use Rattle.flow_events.proofs.steps.address_of.Goals as goal

pub returns-in-Socket : goal.returns-in-Socket
returns-in-Socket c = λ procs acts acting number.
    let of : c.in-Set.pid ≡ c.args.acting.now.pid = subst (λ act. IsOf c.args.acting.now.pid act) c.in-Set.is c.requires.of in
    let what = c.in-Socket.is in
    let is = c.in-Set.is ∙ (λ i. Set (of i) c.in-Set.fd (what i) c.in-Set.cloexec) in
    subst (λ act. IfOk c.socket_address.result (λ new. (s : ℕ) → address_of (act ∷ acts) s ≡ readdressed new (address_of acts) s)) (sym is)
    (c.socket_address.ensures procs acts acting number c.in-Set.fd c.in-Set.cloexec)

pub returns-in-Address : goal.returns-in-Address
returns-in-Address c = λ procs acts acting number.
    let of : c.in-Address.pid ≡ c.args.acting.now.pid = subst (λ act. IsOf c.args.acting.now.pid act) c.in-Address.is c.requires.of in
    rw (c.in-Address.is, of) (c.address_at.ensures procs acts acting number)
