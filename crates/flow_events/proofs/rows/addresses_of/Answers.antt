use Rattle.std.proofs.Common.{◌≤◌, ◌∙◌, ℕ, List, length, ap, nat_eq, None, arith}
use Rattle.std.specs.Prelude.{if◌then◌else◌}
use Rattle.std.specs.List.{list_any}
use Rattle.std.proofs.lemmas.List.{take_all}
use Rattle.fd_table.specs.Table.{address_at}
use Rattle.flow_events.proofs.Sayings.{numbers_say}
use Rattle.flow_events.specs.Rows.{address_word}
use Rattle.flow_events.proofs.rows.addresses_of.Goals as goal

pub returns : goal.returns
returns c =
    let list = c.sockets-socket-items.result.now in
    let past : length list ≤ c.loop-socket.socket-index = (let t = c.loop-socket-test.false in let e = c.loop-socket.auto.socket-index-end in omega (arith, t, e)) in
    numbers_say c.loop-socket.addresses.entries (address_word c.args.since.now c.args.fds.now) c.loop-socket.invariant.sorted
    (λ s. c.loop-socket.invariant.found_is s
    ∙ ap (λ (l : List ℕ). if list_any (nat_eq s) l then address_at c.args.fds.now s else None) (take_all c.loop-socket.socket-index list past ∙ c.sockets-socket-items.ensures))
