-- How the joined parts of an engine go on from whatever they stood for.
use Rattle.std.specs.Prelude.{◌≡◌, ◌≤◌, ◌<◌, ◌+◌, ◌^◌, ◌++◌, ◌∷◌, [], List, Some, length}
use Rattle.flow_base.specs.declared.limits.Limits.{Limits}
use Rattle.audit_record.specs.declared.types.Record.{Record}
use Rattle.record_join.specs.Events.{Joining, enter, settled, next_event, next_left}
use Rattle.record_join.specs.History.{released_after, left_after}
use Rattle.record_join.specs.declared.event.Event.{Event}
use Rattle.ingest.specs.Owing.{IsOwed}
use Rattle.ingest.specs.Parts.{Joined}
use Rattle.ingest.specs.StandsFor.{JoinedStandsFor}
use Rattle.flow_base.specs.declared.faults.Refused.{Refused}

-- one more record has entered
abbrev pub EntersOne : {K : Type 0} → Record → (old new : Joined K) → Type 0
EntersOne item old new = (limits : Limits) (s : Joining) (released : List Event)
    → JoinedStandsFor limits old s released → s.excess < 2 ^ 61
    → JoinedStandsFor limits new (enter limits s item) released

-- all that waits is closed
abbrev pub ClosesAll : {K : Type 0} → (old new : Joined K) → Type 0
ClosesAll old new = (limits : Limits) (s : Joining) (released : List Event)
    → JoinedStandsFor limits old s released → JoinedStandsFor limits new (settled s) released

-- all that is ripe is released
abbrev pub ReleasesAll : {K : Type 0} → (old new : Joined K) → Type 0
ReleasesAll old new = (limits : Limits) (s : Joining) (released : List Event)
    → JoinedStandsFor limits old s released → length released + length s.waiting ≤ 2 ^ 61
    → JoinedStandsFor limits new (left_after limits s) (released ++ released_after limits s)

-- of what is ripe some events are released, and the rest is owed for this cause
abbrev pub OwesRest : {K : Type 0} → (old new : Joined K) → Refused → Type 0
OwesRest old new cause = (limits : Limits) (s : Joining) (released : List Event)
    → JoinedStandsFor limits old s released → length released + length s.waiting ≤ 2 ^ 61
    → IsOwed limits new s released cause

-- the event that comes next is released
abbrev pub ReleasesNext : {K : Type 0} → (old new : Joined K) → Type 0
ReleasesNext old new = (limits : Limits) (s : Joining) (released : List Event) (event : Event)
    → JoinedStandsFor limits old s released → length released < 2 ^ 62
    → next_event limits s ≡ Some event
    → JoinedStandsFor limits new (next_left limits s) (released ++ event ∷ [])

-- they stand for the same
abbrev pub StaysJoined : {K : Type 0} → (old new : Joined K) → Type 0
StaysJoined old new = (limits : Limits) (s : Joining) (released : List Event)
    → JoinedStandsFor limits old s released → JoinedStandsFor limits new s released
