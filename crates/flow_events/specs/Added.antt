-- What an event adds to the objects and flows.
use Rattle.std.specs.Prelude.{◌≡◌, ◌≢◌, ◌<◌, ◌+◌, ◌++◌, ℕ, ⊤, Option, None, Some, Result, Err, List, [], ◌∷◌, length, reverse}
use Rattle.flow_base.specs.declared.types.Key.{Key}
use Rattle.flow_base.specs.declared.types.Flow.{Flow}
use Rattle.flow_base.specs.declared.types.Stamp.{Stamp}
use Rattle.flow_base.specs.declared.limits.Full.{Full}
use Rattle.flow_base.specs.contracts.types.KeyPartialEq.TheImpl.{ghosts}
use Rattle.acts.specs.declared.link.Link.{Link}
use Rattle.acts.specs.Keys.{put_new}
use Rattle.acts.specs.Flows.{number_in, with_ends}
use Rattle.entity_names.specs.Known.{Known, full_at}
use Rattle.flow_base.specs.declared.faults.Refused.{Refused}
use Rattle.flow_base.specs.declared.faults.Refused.TheVariants as fault
use Rattle.flow_events.specs.Entering.{entered}
use Rattle.reach_rows.specs.Kept.{GoOn, known_after}

-- the objects that are new, and the flows, oldest first
pub record Additions : Type 0 where
  pub keys : List Key
  pub flows : List Flow

-- keys that were each new when they came, after those that were known
pub record AreNew (known keys : List Key) : Type 0 where
  pub enter : entered known (reverse keys) ≡ known ++ keys

-- the flow of a link at this place, with this time and serial number
abbrev pub flow_of : List Key → ℕ → ℕ → ℕ → Link → Flow
flow_of seen ms serial place link =
    record {
      from = record { 0 = number_in seen link.from };
      to = record { 0 = number_in seen link.to };
      how = link.how;
      at = record { ms = ms; place = place };
      serial = serial;
    }

-- that flow, if there is a link
abbrev pub flows_if : List Key → ℕ → ℕ → ℕ → Option Link → List Flow
flows_if seen ms serial place None = []
flows_if seen ms serial place (Some link) = flow_of seen ms serial place link ∷ []

-- these objects are more than there may be, and that is what is said
pub record IsPast (most : ℕ) (full : Full) (seen : List Key) : Type 0 where
  pub limit_is : full ≡ full_at most
  pub past : most < length seen

-- if the result is the fault that a limit is passed, this holds of that limit
abbrev pub IfFull : {T : Type 0} → Result T Refused → (Full → Type 0) → Type 0
IfFull result fact = (full : Full) → result ≡ Err (fault.Full full) → fact full

-- if the fault is that a limit is passed, this holds of that limit
abbrev pub IfLimit : Refused → (Full → Type 0) → Type 0
IfLimit why fact = (full : Full) → why ≡ fault.Full full → fact full

-- a link, if there is one, has two ends that differ
abbrev pub HasTwoEnds : Option Link → Type 0
HasTwoEnds None = ⊤
HasTwoEnds (Some link) = link.from ≢ link.to

-- these flows have this time, and stand at this place and those after it, one after the other
abbrev pub StandFrom : ℕ → ℕ → List Flow → Type 0
StandFrom ms place [] = ⊤
StandFrom ms place (f ∷ more) = (f.at ≡ record { ms = ms; place = place }) × StandFrom ms (place + 1) more

-- the flows number the new objects after the known ones, as they come, and stand from this place on
pub record AreNumbered (known : List Key) (ms place : ℕ) (added : Additions) : Type 0 where
  pub go_on : GoOn (length known) added.flows
  pub known_are : known_after (length known) added.flows ≡ length (known ++ added.keys)
  pub stand : StandFrom ms place added.flows

-- the known objects, and then the new ones
abbrev pub objects_in : Known → Additions → List Key
objects_in known added = known.keys ++ added.keys

-- the objects are those before with this key, which is appended if it is new
abbrev pub AddsKey : Known → Additions → Additions → Key → Type 0
AddsKey known old new key = objects_in known new ≡ put_new ghosts.eq (objects_in known old) key

-- the objects are those before with the ends of the link, if there is one
abbrev pub AddsEnds : Known → Additions → Additions → Option Link → Type 0
AddsEnds known old new link = objects_in known new ≡ with_ends (objects_in known old) link

-- the flows are those before, and then that of the link, if there is one
abbrev pub AddsFlow : Known → Additions → Additions → Stamp → ℕ → Option Link → Type 0
AddsFlow known old new at serial link = new.flows ≡ old.flows ++ flows_if (objects_in known new) at.ms serial at.place link

-- if the added keys were each new when they came, those that are added now are too
abbrev pub StayNew : Known → Additions → Additions → Type 0
StayNew known old new = AreNew known.keys old.keys → AreNew known.keys new.keys

-- if the flows were numbered from a place on, and the next one stands at the place after them, they are numbered with it
abbrev pub StayNumbered : Known → Stamp → Additions → Additions → Type 0
StayNumbered known at old new =
    (place : ℕ) → at.place ≡ place + length old.flows → AreNumbered known.keys at.ms place old → AreNumbered known.keys at.ms place new
