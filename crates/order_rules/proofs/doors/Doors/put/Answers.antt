use Rattle.order_rules.proofs.DoorLemmas.{door_put, door_left}
use Rattle.order_rules.proofs.doors.Doors.put.Goals as goal

pub returns-then-is_empty-clause-waits : goal.returns-then-is_empty-clause-waits
returns-then-is_empty-clause-waits c = λ other. door_left c.args.self.now _ c.remove.new.self.entries c.args.place other c.args.door c.self.view_is
    (c.is_empty.ensures c.if-is_empty.true) (c.remove.ensures.updates.0 other)

pub returns-clause-waits : goal.returns-clause-waits
returns-clause-waits c = λ other. door_put c.args.self.now _ c.insert.new.self.entries c.args.place other c.args.door c.self.view_is
    (c.in_ok-insert.ensures.updates.0 other)
