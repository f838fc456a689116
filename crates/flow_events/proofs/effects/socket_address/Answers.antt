use Rattle.std.proofs.Common.{◌==◌, ◌≤◌, ◌∙◌, sym, ap, Some, length, if◌then◌else◌, arith}
use Rattle.std.specs.Prelude.{option_copied}
use Rattle.acts.specs.Holding.{holds, address_of}
use Rattle.flow_events.specs.Acting.{stated}
use Rattle.flow_events.proofs.Sockets.{set_addresses, unaddressed}
use Rattle.flow_events.proofs.effects.socket_address.Goals as goal

pub returns-in_ok-copy-in-Some : goal.returns-in_ok-copy-in-Some
returns-in_ok-copy-in-Some c = λ procs acts acting number fd cloexec s.
    let none = c.sockets_are_of_acts.ensures.addressed acts (length acts) (let e : length acts ≤ length acts = omega arith in e) in
    let bytes = sym (c.stated.ensures procs acts acting) ∙ ap option_copied c.in-Some.is ∙ ap Some (sym c.in_ok-copy-in-Some.ensures) in
    let socket = sym number in
    set_addresses acts c.args.acting.now.pid fd c.args.address.now c.args.listener cloexec s none
    ∙ (λ i. if s == socket i then bytes i else address_of acts s)

pub returns-in-None : goal.returns-in-None
returns-in-None c = λ procs acts acting number fd cloexec s.
    let none = c.sockets_are_of_acts.ensures.addressed acts (length acts) (let e : length acts ≤ length acts = omega arith in e) in
    set_addresses acts c.args.acting.now.pid fd c.args.address.now c.args.listener cloexec s none
    ∙ unaddressed (stated (address_of acts) (holds acts c.args.acting.now.pid) c.args.address.now c.args.listener) (address_of acts) s (length acts)
    (sym (c.stated.ensures procs acts acting) ∙ ap option_copied c.in-None.is) none
