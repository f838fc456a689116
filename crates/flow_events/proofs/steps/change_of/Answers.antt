use Rattle.std.proofs.Common.{◌≡◌, ◌++◌, subst}
use Rattle.call_acts.specs.Events.{IsOf}
use Rattle.flow_events.proofs.steps.change_of.Goals as goal

pub returns-in-Copy : goal.returns-in-Copy
returns-in-Copy c = λ before now born acting number.
    let of : c.in-Copy.pid ≡ c.args.acting.now.pid = subst (λ act. IsOf c.args.acting.now.pid act) c.in-Copy.is c.requires.of in
    rw (c.in-Copy.is, of) (c.copy_change.ensures c.args.procs.now (now ++ before) acting)

pub returns-in-Address : goal.returns-in-Address
returns-in-Address c = λ before now born acting number.
    let of : c.in-Address.pid ≡ c.args.acting.now.pid = subst (λ act. IsOf c.args.acting.now.pid act) c.in-Address.is c.requires.of in
    rw (c.in-Address.is, of) (c.address_change.ensures c.args.procs.now (now ++ before) acting number c.in-Address.bytes)

pub returns-in-Fork : goal.returns-in-Fork
returns-in-Fork c = λ before now born acting number.
    let of : c.in-Fork.pid ≡ c.args.acting.now.pid = subst (λ act. IsOf c.args.acting.now.pid act) c.in-Fork.is c.requires.of in
    rw (c.in-Fork.is, of) (c.fork_change.ensures c.args.fds.now (now ++ before) acting)
