-- The events of a list of records, and what they hold.
use Rattle.std.specs.Prelude.{◌≡◌, ◌≢◌, ◌≤◌, ℕ, fold, max, zero, suc, false, List, [], ◌∷◌, ◌++◌, length, map, All, None, if◌then◌else◌}
use Rattle.std.specs.List.{list_any, IsDistinct}
use Rattle.std.specs.List.Sorted.{IsStrictlySortedBy}
use Rattle.std.specs.Option.{option_to_list}
use Rattle.record_join.specs.Keys.{key_cmp, is_key, is_below, ends_event}
use Rattle.record_join.specs.Events.{Joining, group_of, waits, enter, settled, next_event, next_left}
use Rattle.audit_lex.specs.declared.header.EventKey.{EventKey}
use Rattle.audit_record.specs.declared.types.Record.{Record}
use Rattle.flow_base.specs.declared.limits.Limits.{Limits}
use Rattle.record_join.specs.declared.event.Event.{Event}

-- what joining is told: a used record came, or the log settles
pub data Step : Type 0 where
  Came : Record → Step
  Settle : Step

-- nothing came yet
abbrev pub start : Joining
start = record { waiting = []; closed = []; clock = record { seen = None; released = None; effective = 0 }; excess = 0 }

-- the releases while the least group is ripe, at most this many
abbrev pub released : ℕ → Limits → Joining → List Event
released zero limits s = []
released (suc n) limits s = option_to_list (next_event limits s) ++ released n limits (next_left limits s)

-- what is left after at most this many releases
abbrev pub left : ℕ → Limits → Joining → Joining
left zero limits s = s
left (suc n) limits s = left n limits (next_left limits s)

-- a step before its releases
abbrev pub told : Limits → Joining → Step → Joining
told limits s (Came r) = enter limits s r
told limits s Settle = settled s

-- all releases while the least group is ripe: each takes a record, so there are at most as many as records wait
abbrev pub released_after : Limits → Joining → List Event
released_after limits s = released (length s.waiting) limits s

-- what is left after all of them
abbrev pub left_after : Limits → Joining → Joining
left_after limits s = left (length s.waiting) limits s

-- the events of a list of steps: after each step, all that is ripe is released
abbrev pub events : Limits → Joining → List Step → List Event
events limits s [] = []
events limits s (step ∷ steps) = released_after limits (told limits s step) ++ events limits (left_after limits (told limits s step)) steps

-- what is left after a list of steps
abbrev pub state : Limits → Joining → List Step → Joining
state limits s [] = s
state limits s (step ∷ steps) = state limits (left_after limits (told limits s step)) steps

-- the records that came, without those that end an event
abbrev pub kept : List Step → List Record
kept [] = []
kept (Came r ∷ steps) = if ends_event r then kept steps else r ∷ kept steps
kept (Settle ∷ steps) = kept steps

-- the keys of events in their order
abbrev pub keys_of_events : List Event → List EventKey
keys_of_events events = map (λ e. e.key) events

-- all was settled and in order: the last step is a settle, no record was in excess, no event late and no key released twice
pub record IsInOrder (limits : Limits) (steps : List Step) : Type 0 where
  pub settles : (before : List Step) × (steps ≡ before ++ Settle ∷ [])
  pub none_in_excess : (state limits start steps).excess ≡ 0
  pub none_late : All (λ e. e.late ≡ false) (events limits start steps)
  pub none_twice : IsDistinct is_key (keys_of_events (events limits start steps))

-- each event holds the records of its key in the order of arrival, each key with a record has an event, and the keys ascend
pub record HoldsAll (steps : List Step) (events : List Event) : Type 0 where
  pub records : All (λ e. e.records ≡ group_of e.key (kept steps)) events
  pub filled : All (λ e. e.records ≢ []) events
  pub keys : (key : EventKey) → waits key (kept steps) ≡ list_any (is_key key) (keys_of_events events)
  pub ascend : IsStrictlySortedBy key_cmp (keys_of_events events)

-- the greatest time among the keys of these events
abbrev pub greatest_time : List Event → ℕ
greatest_time events = fold (λ t e. max t e.key.ms) 0 events

-- an event's time is the greatest among its own and those of the events before it, it is late if one
-- before it has a greater key, and the times never fall
pub record IsDated (events : List Event) : Type 0 where
  pub times : (before after : List Event) (e : Event) → events ≡ before ++ e ∷ after → e.ms ≡ greatest_time (before ++ e ∷ [])
  pub late : (before after : List Event) (e : Event) → events ≡ before ++ e ∷ after → e.late ≡ list_any (λ b. is_below e.key b.key) before
  pub rise : (before after : List Event) (d e : Event) → events ≡ before ++ d ∷ e ∷ after → d.ms ≤ e.ms
