use Rattle.order_rules.proofs.DoorLemmas.{door_taken}
use Rattle.order_rules.proofs.doors.Doors.take.Goals as goal

pub returns-clause-others : goal.returns-clause-others
returns-clause-others c = door_taken c.args.self.now _ c.remove.new.self.entries c.args.place.now c.self.view_is c.remove.ensures.updates.2
