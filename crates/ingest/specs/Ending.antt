-- An engine that has ended the last line of a log, before it closes what waits.
use Rattle.std.specs.Prelude.{◌≡◌, ◌++◌, ◌∷◌, []}
use Rattle.flow_base.specs.declared.limits.Limits.{Limits}
use Rattle.audit_lex.specs.History.{History, Settle}
use Rattle.record_join.specs.Events.{Joining, settled}
use Rattle.record_join.specs.History.{released_after, left_after}
use Rattle.ingest.specs.Events.{events_of, state_of}
use Rattle.ingest.specs.Parts.{Engine}
use Rattle.ingest.specs.StandsFor.{ReaderStandsFor, JoinedStandsFor}

-- the last line has ended, and its record has entered if it has one; once all is closed, what is released then are the
-- events that the settle adds
pub record EndsLast {K : Type 0} (limits : Limits) (engine : Engine K) (h : History) : Type 0 where
  pub reader : ReaderStandsFor limits engine.reader (h ++ Settle ∷ [])
  pub rest : Joining
  pub joined : JoinedStandsFor limits engine.joined rest (events_of limits h)
  pub events_are : events_of limits (h ++ Settle ∷ []) ≡ events_of limits h ++ released_after limits (settled rest)
  pub left_is : state_of limits (h ++ Settle ∷ []) ≡ left_after limits (settled rest)
