use Rattle.std.proofs.Common.{rules, ◌≡◌, true}
use Rattle.std.specs.Prelude.{is_some}
use Rattle.fd_table.specs.Table.{held_at}
use Rattle.flow_events.proofs.Noting.{put_adds_ever, some_object}
use Rattle.flow_events.proofs.slots.Slots.note.Goals as goal

pub returns-clause-adds : goal.returns-clause-adds
returns-clause-adds c =
    let some : is_some (held_at c.args.fds.now c.args.pid c.args.fd) ≡ true = let o = some_object (held_at c.args.fds.now c.args.pid c.args.fd) in search (rules, o) in
    put_adds_ever c.put.result c.args.fds.now c.args.self.now c.put.new.self c.args.pid c.args.fd some c.put.ensures.ok c.put.ensures.err
