-- From a history to events, acts, flows and objects.
use Rattle.std.specs.Prelude.{ℕ, List, [], ◌∷◌, ◌++◌, length, drop, map, reverse}
use Rattle.std.specs.List.{flat_map}
use Rattle.std.specs.Option.{option_to_list}
use Rattle.flow_base.specs.declared.limits.Limits.{Limits}
use Rattle.flow_base.specs.declared.types.Flow.{Flow}
use Rattle.flow_base.specs.declared.types.Key.{Key}
use Rattle.audit_lex.specs.History.{History, Step, Byte, Settle, lines_of}
use Rattle.record_join.specs.Events.{Joining}
use Rattle.record_join.specs.History.{Step as Told, Came, Settle as Settles, start, events, state}
use Rattle.record_join.specs.declared.event.Event.{Event}
use Rattle.acts.specs.declared.act.Act.{Act}
use Rattle.acts.specs.declared.act.Taken.{Taken}
use Rattle.acts.specs.Flows.{acts_of, flows, objects}
use Rattle.ingest.specs.LineRecords.{record_of}
use Rattle.ingest.specs.EventActs.{acts_of_event}

-- ---- what joining is told

-- the lines that a longer history has more than this one
abbrev pub lines_since : History → History → List (List ℕ)
lines_since before after = drop (length (lines_of before)) (lines_of after)

-- a used line tells its record, and another line nothing
abbrev pub line_tells : Limits → List ℕ → List Told
line_tells limits line = map Came (option_to_list (record_of limits.line line))

-- lines tell this one after the other
abbrev pub lines_tell : Limits → List (List ℕ) → List Told
lines_tell limits lines = flat_map (line_tells limits) lines

-- a settle tells itself
abbrev pub settle_tells : Step → List Told
settle_tells (Byte b) = []
settle_tells Settle = Settles ∷ []

-- one more step tells the record of the line that it ends, and then the settle, if it is one
abbrev pub tells_at : Limits → History → Step → List Told
tells_at limits before step = lines_tell limits (lines_since before (before ++ step ∷ [])) ++ settle_tells step

-- what further steps tell after these
abbrev pub tells_after : Limits → History → History → List Told
tells_after limits before [] = []
tells_after limits before (step ∷ more) = tells_at limits before step ++ tells_after limits (before ++ step ∷ []) more

-- what came of a history, oldest first: the records of its used lines, and its settles
abbrev pub told_of : Limits → History → List Told
told_of limits h = tells_after limits [] h

-- ---- events

-- what waits after a history
abbrev pub state_of : Limits → History → Joining
state_of limits h = state limits start (told_of limits h)

-- the events that a history has released, oldest first
abbrev pub events_of : Limits → History → List Event
events_of limits h = events limits start (told_of limits h)

-- the events that one more step releases
abbrev pub released_at : Limits → History → Step → List Event
released_at limits before step = events limits (state_of limits before) (tells_at limits before step)

-- ---- flows

-- an act at this time, of an event with this serial
abbrev pub taken_at : (ms serial : ℕ) → Act → Taken
taken_at ms serial act = record { act = act; ms = ms; serial = serial }

-- the acts of an event, oldest first, each at the event's effective time
abbrev pub taken_by : Limits → Event → List Taken
taken_by limits event = map (taken_at event.ms event.key.serial) (acts_of_event limits event)

-- the acts of events, newest first
abbrev pub taken_in : Limits → List Event → List Taken
taken_in limits events = reverse (flat_map (taken_by limits) events)

-- the flows of events
abbrev pub flows_in : Limits → List Event → List Flow
flows_in limits events = flows (taken_in limits events)

-- the objects that these flows know, by number
abbrev pub objects_in : Limits → List Event → List Key
objects_in limits events = objects (acts_of (taken_in limits events))

-- the flows of a history
abbrev pub flows_of : Limits → History → List Flow
flows_of limits h = flows_in limits (events_of limits h)

-- the objects that are known after a history, by number
abbrev pub objects_of : Limits → History → List Key
objects_of limits h = objects_in limits (events_of limits h)
