-- Which limit stops a history, and where.
use Rattle.std.specs.Prelude.{◌≡◌, ◌≤◌, ◌<◌, ◌⊎◌, ◌+◌, ◌-◌, ⊤, ℕ, List, [], ◌∷◌, ◌++◌, length, take, Option, None, Some}
use Rattle.flow_base.specs.declared.limits.Limits.{Limits}
use Rattle.flow_base.specs.declared.limits.Full.{Full}
use Rattle.flow_base.specs.declared.limits.Limit.TheVariants as limit
use Rattle.audit_lex.specs.History.{History, Step, with_bytes}
use Rattle.record_join.specs.declared.event.Event.{Event}
use Rattle.acts.specs.LookBack.{full_at}
use Rattle.ingest.specs.Counting.{bytes_in}
use Rattle.ingest.specs.Events.{taken_in, flows_of, objects_of, events_of, released_at}
use Rattle.ingest.specs.declared.stop.Stop.{Stop}
use Rattle.flow_base.specs.declared.faults.Refused.{Refused}
use Rattle.flow_base.specs.declared.faults.Refused.TheVariants as why

-- no limit is passed
pub record Fits (limits : Limits) (h : History) : Type 0 where
  pub input : bytes_in h ≤ limits.input
  pub entities : length (objects_of limits h) ≤ limits.entities
  pub flows : length (flows_of limits h) ≤ limits.flows

-- the refusal of a byte past the limit
abbrev pub input_full : Limits → Full
input_full limits = record { limit = limit.Input; number = limits.input }

-- the limit that these events pass, that of objects before that of flows
abbrev pub full_of : Limits → List Event → Option Full
full_of limits events = full_at limits.entities limits.flows (taken_in limits events)

-- after some events, this is the limit that the first of further events passes which passes one
pub record StopsAmong (limits : Limits) (done more : List Event) (full : Full) : Type 0 where
  pub before : List Event
  pub event : Event
  pub after : List Event
  pub parts : more ≡ before ++ event ∷ after
  pub fits : full_of limits (done ++ before) ≡ None
  pub full_is : full_of limits (done ++ before ++ event ∷ []) ≡ Some full

-- one more step passes the limit of bytes, or else releases the event that passes a limit
abbrev pub PassesAt : Limits → History → Step → Full → Type 0
PassesAt limits front step full =
    ((limits.input < bytes_in (front ++ step ∷ [])) × (full ≡ input_full limits))
    ⊎ ((bytes_in (front ++ step ∷ []) ≤ limits.input) × StopsAmong limits (events_of limits front) (released_at limits front step) full)

-- the limit is the first that is passed as the history goes on
pub record Stops (limits : Limits) (h : History) (full : Full) : Type 0 where
  pub front : History
  pub step : Step
  pub back : History
  pub parts : h ≡ front ++ step ∷ back
  pub fits : Fits limits front
  pub passes : PassesAt limits front step full

-- the step past the limit is the byte after those that were done, or the last byte of them
abbrev pub StopsHere : Limits → History → List ℕ → ℕ → Full → Type 0
StopsHere limits h piece done full =
    ((done < length piece) × (bytes_in h + done ≡ limits.input) × Fits limits (with_bytes h (take done piece)) × (full ≡ input_full limits))
    ⊎ ((0 < done) × Fits limits (with_bytes h (take (done - 1) piece)) × Stops limits (with_bytes h (take done piece)) full)

-- want of memory is free; a limit is the one that stops the history in this piece
abbrev pub StopsBy : Limits → History → List ℕ → ℕ → Refused → Type 0
StopsBy limits h piece done why.NoMemory = ⊤
StopsBy limits h piece done (why.Full full) = Stops limits (with_bytes h piece) full × StopsHere limits h piece done full

-- how an engine stops within a piece, having done this many bytes of it
pub record StopsFor (limits : Limits) (h : History) (piece : List ℕ) (stop : Stop) : Type 0 where
  pub within : stop.done ≤ length piece
  pub by : StopsBy limits h piece stop.done stop.why
