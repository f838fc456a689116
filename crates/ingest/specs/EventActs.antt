-- What an event did, as acts in their order.
use Rattle.std.specs.Prelude.{Bool, List}
use Rattle.flow_base.specs.declared.limits.Limits.{Limits}
use Rattle.record_join.specs.declared.event.Event.{Event}
use Rattle.acts.specs.declared.act.Act.{Act}
use Rattle.call_acts.specs.Acts.{event_acts}
use Rattle.call_acts.specs.Acts as table

-- the acts of an event, oldest first
abbrev pub acts_of_event : Limits → Event → List Act
acts_of_event limits event = event_acts limits.path event.records

-- an event of a call that isn't mapped
abbrev pub is_unmapped : Event → Bool
is_unmapped event = table.is_unmapped event.records
