use Rattle.std.proofs.Common.{◌≡◌, ◌∙◌, List, Option, Some, None, sym, ap, subst}
use Rattle.std.specs.Prelude.{option_copied, unwrap_or, IfOk}
use Rattle.flow_base.specs.declared.types.Key.{Key}
use Rattle.flow_base.specs.declared.types.Key.TheVariants.{Lost}
use Rattle.acts.specs.declared.act.Act.{Act}
use Rattle.acts.specs.declared.held.Held.{Held}
use Rattle.acts.specs.declared.held.Object.{Object}
use Rattle.acts.specs.Lives.{life_of}
use Rattle.acts.specs.Keys.{held_key, object_key}
use Rattle.fd_table.specs.Table.{held_at, object_in}
use Rattle.flow_events.proofs.acting.held_key.Goals as goal

-- the key of what is held is that of its object
key_is : (acts : List Act) (lost : Key) (held : Option Held) (object : Object) → object_in held ≡ Some object → held_key acts lost held ≡ object_key acts object
key_is acts lost None object is = cc
key_is acts lost (Some held) object is = ap (object_key acts) (ap (λ o. unwrap_or o object) is)

pub returns-in-Some : goal.returns-in-Some
returns-in-Some c = λ procs acts acting.
    let pid = c.args.acting.now.pid in
    let held = held_at c.args.fds.now c.args.acting.now.holder c.args.fd in
    let is : object_in held ≡ Some c.in-Some.object.now = sym c.held.ensures.value ∙ ap option_copied c.in-Some.is in
    let lost : Key = Lost pid (life_of acts pid) c.args.fd in
    subst (λ key. IfOk c.object_key.result (λ made. made ≡ key)) (sym (ap (held_key acts lost) (acting.held_are c.args.fd) ∙ key_is acts lost held c.in-Some.object.now is)) (c.object_key.ensures acts acting.addresses_are)
