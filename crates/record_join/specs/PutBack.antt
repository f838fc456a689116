-- A joiner that is made again from the clock and the groups of another.
use Rattle.std.specs.Prelude.{◌≡◌, ℕ, false, List, [], ◌∷◌, ◌++◌, Option, ⊤, if◌then◌else◌}
use Rattle.std.specs.List.{flat_map}
use Rattle.record_join.specs.Keys.{ends_event}
use Rattle.record_join.specs.Events.{Joining, group_of, is_excess, seen_time, enter}
use Rattle.audit_lex.specs.declared.header.EventKey.{EventKey}
use Rattle.audit_record.specs.declared.types.Record.{Record}
use Rattle.audit_record.specs.declared.types.Body.TheVariants.{Eoe}
use Rattle.flow_base.specs.declared.limits.Limits.{Limits}
use Rattle.record_join.specs.declared.clock.JoinClock.{JoinClock}
use Rattle.record_join.specs.declared.group.Group.{Group}

-- no record ends an event, none was in excess after those before it, and the time of each was seen
abbrev pub HeldInTurn : Limits → Option ℕ → List Record → List Record → Type 0
HeldInTurn limits seen before [] = ⊤
HeldInTurn limits seen before (r ∷ records) =
    (ends_event r ≡ false) × (is_excess limits before r ≡ false) × (seen_time seen r.key.ms ≡ seen) × HeldInTurn limits seen (before ++ r ∷ []) records

-- each group holds what a joiner would hold
abbrev pub IsSound : Limits → Joining → Type 0
IsSound limits s = (key : EventKey) → HeldInTurn limits s.clock.seen [] (group_of key s.waiting)

-- nothing waits, at a clock
abbrev pub fresh : JoinClock → Joining
fresh clock = record { waiting = []; closed = []; clock = clock; excess = 0 }

-- the end of a group: its key, and the line of its first record
abbrev pub closing : EventKey → List Record → List Record
closing key [] = []
closing key (r ∷ records) = record { key = key; line = r.line; body = Eoe } ∷ []

-- the records of the groups, and an end after those that are closed
abbrev pub put_back : List (EventKey × Group) → List Record
put_back groups = flat_map (λ e. e.1.records ++ (if e.1.closed then closing e.0 e.1.records else [])) groups

-- these records are taken one after the other, and nothing is released
abbrev pub entered : Limits → Joining → List Record → Joining
entered limits s [] = s
entered limits s (r ∷ records) = entered limits (enter limits s r) records
