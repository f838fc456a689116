-- The clock of the joiner, by the records that came and the events that were followed.
use Rattle.std.specs.Prelude.{◌≡◌, ℕ, List, Option, None, Some, fold}
use Rattle.flow_base.specs.declared.limits.Limits.{Limits}
use Rattle.audit_lex.specs.History.{History}
use Rattle.audit_lex.specs.declared.header.EventKey.{EventKey}
use Rattle.record_join.specs.Events.{seen_time, greater_key}
use Rattle.record_join.specs.History.{Step as Told, Came, Settle as Settles, greatest_time}
use Rattle.record_join.specs.declared.clock.JoinClock.{JoinClock}
use Rattle.record_join.specs.declared.event.Event.{Event}
use Rattle.ingest.specs.Events.{told_of}

-- the greater of a record's time and the greatest before it
abbrev pub seen_then : Option ℕ → Told → Option ℕ
seen_then seen (Came r) = seen_time seen r.key.ms
seen_then seen Settles = seen

-- the greatest time among the records that came
abbrev pub greatest_seen : List Told → Option ℕ
greatest_seen told = fold seen_then None told

-- the greatest key of these events
abbrev pub greatest_key : List Event → Option EventKey
greatest_key events = fold (λ top event. Some (greater_key top event.key)) None events

-- the clock that has released these events has their greatest key, and their greatest time
pub record HasReleased (clock : JoinClock) (events : List Event) : Type 0 where
  pub key : clock.released ≡ greatest_key events
  pub time : clock.effective ≡ greatest_time events

-- The clock has the greatest time seen of the history. The greatest key released and the effective time in it are those of
-- the events that were followed.
pub record IsClockOf (limits : Limits) (clock : JoinClock) (h : History) (done : List Event) : Type 0 where
  pub seen : clock.seen ≡ greatest_seen (told_of limits h)
  pub released : HasReleased clock done
