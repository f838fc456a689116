-- What an engine stands for that may owe events: if one was refused, it and all that is ripe after it stay in the
-- joiner.
use Rattle.std.specs.Prelude.{◌≡◌, ◌≤◌, ◌<◌, ◌⊎◌, ◌+◌, ◌++◌, ◌∷◌, [], ⊤, ℕ, List, length, take, Some}
use Rattle.flow_base.specs.declared.limits.Limits.{Limits}
use Rattle.flow_base.specs.declared.limits.Full.{Full}
use Rattle.audit_lex.specs.History.{History, Settle, with_bytes}
use Rattle.record_join.specs.Events.{Joining, next_event}
use Rattle.record_join.specs.History.{released_after, left_after}
use Rattle.record_join.specs.declared.event.Event.{Event}
use Rattle.ingest.specs.Clocks.{IsClockOf}
use Rattle.ingest.specs.Counting.{bytes_in}
use Rattle.ingest.specs.Events.{state_of, events_of}
use Rattle.ingest.specs.Parts.{Joined, Engine}
use Rattle.ingest.specs.StandsFor.{ReaderStandsFor, JoinedStandsFor, HasNoTail}
use Rattle.ingest.specs.Stops.{Fits, full_of, input_full}
use Rattle.ingest.specs.declared.stop.Stop.{Stop}
use Rattle.flow_base.specs.declared.faults.Refused.{Refused}
use Rattle.flow_base.specs.declared.faults.Refused.TheVariants as why

-- The events that were followed are the first of the history's, and the joiner releases the others next, before all that
-- waits. Its clock has the greatest time seen of the history. The greatest key released and the effective time in this clock
-- are those of the events that were followed.
pub record MayOwe {K : Type 0} (limits : Limits) (engine : Engine K) (h : History) : Type 0 where
  pub reader : ReaderStandsFor limits engine.reader h
  pub rest : Joining
  pub done : List Event
  pub joined : JoinedStandsFor limits engine.joined rest done
  pub events_are : events_of limits h ≡ done ++ released_after limits rest
  pub left_is : state_of limits h ≡ left_after limits rest
  pub clock : IsClockOf limits engine.joined.join.clock h done
  pub within : bytes_in h ≤ limits.input

-- after the events that were followed, the next one would pass this limit
abbrev pub NextPasses : Limits → Joining → List Event → Full → Type 0
NextPasses limits rest done full = (event : Event) × (next_event limits rest ≡ Some event) × (full_of limits (done ++ event ∷ []) ≡ Some full)

-- why no more events were released: want of memory is free, and a limit is the one that the next event would pass
abbrev pub OwesBy : Limits → Joining → List Event → Refused → Type 0
OwesBy limits rest done why.NoMemory = ⊤
OwesBy limits rest done (why.Full full) = NextPasses limits rest done full

-- of what was ripe some events were followed, and the rest, one event or more, is owed for this cause
pub record IsOwed {K : Type 0} (limits : Limits) (joined : Joined K) (s : Joining) (released : List Event) (cause : Refused) : Type 0 where
  pub rest : Joining
  pub done : List Event
  pub stands : JoinedStandsFor limits joined rest (released ++ done)
  pub done_is : released_after limits s ≡ done ++ released_after limits rest
  pub left_is : left_after limits s ≡ left_after limits rest
  pub some : (event : Event) × (next_event limits rest ≡ Some event)
  pub by : OwesBy limits rest (released ++ done) cause

-- the engine stands for the history, and owes for this cause
pub record OwesFor {K : Type 0} (limits : Limits) (engine : Engine K) (h : History) (cause : Refused) : Type 0 where
  pub stands : MayOwe limits engine h
  pub by : OwesBy limits stands.rest stands.done cause

-- the byte after those that were done would pass the limit of bytes
pub record InputPasses (limits : Limits) (h : History) (piece : List ℕ) (done : ℕ) (full : Full) : Type 0 where
  pub more : done < length piece
  pub all : bytes_in h + done ≡ limits.input
  pub fits : Fits limits (with_bytes h (take done piece))
  pub full_is : full ≡ input_full limits

-- why a piece was not taken to its end
abbrev pub HaltsBy : Limits → History → List ℕ → ℕ → Joining → List Event → Refused → Type 0
HaltsBy limits h piece done rest events why.NoMemory = ⊤
HaltsBy limits h piece done rest events (why.Full full) = InputPasses limits h piece done full ⊎ NextPasses limits rest events full

-- after a stop the engine stands for the history with the bytes of the piece that were done
pub record Halts {K : Type 0} (limits : Limits) (engine : Engine K) (h : History) (piece : List ℕ) (stop : Stop) : Type 0 where
  pub within : stop.done ≤ length piece
  pub stands : MayOwe limits engine (with_bytes h (take stop.done piece))
  pub by : HaltsBy limits h piece stop.done stands.rest stands.done stop.why

-- an event of the history was not followed yet, or a byte of the last line had come
abbrev pub IsUnsettled : {K : Type 0} → Limits → Engine K → History → List Event → Type 0
IsUnsettled limits engine h done = (length done < length (events_of limits h)) ⊎ ¬ HasNoTail engine.reader

-- A settle was refused. Either an event was owed before it, or a byte of the last line had come: then the engine may stand for
-- the history as it was. Or the engine stands for the history with the settle.
abbrev pub HaltsSettling : {K : Type 0} (limits : Limits) (old new : Engine K) (h : History) → MayOwe limits old h → Refused → Type 0
HaltsSettling limits old new h w cause =
    (IsUnsettled limits old h w.done × OwesFor limits new h cause) ⊎ (Fits limits h × OwesFor limits new (h ++ Settle ∷ []) cause)

-- a settle was refused for this cause, whatever history it was
abbrev pub SettleHalts : {K : Type 0} → Engine K → Engine K → Refused → Type 0
SettleHalts old new cause = (limits : Limits) (h : History) (w : MayOwe limits old h) → HaltsSettling limits old new h w cause
