-- What waits and what is released, as a list of records in the order of arrival says it.
use Rattle.std.specs.Prelude.{◌-◌, ◌&&◌, ◌||◌, ℕ, suc, Bool, false, not, List, [], ◌∷◌, ◌++◌, length, filter, map, sum_by, Option, None, Some, nat_lt, max, if◌then◌else◌}
use Rattle.std.specs.List.{list_any}
use Rattle.std.specs.Set.{distinct_count}
use Rattle.record_join.specs.Keys.{is_key, is_below, ends_event, is_call}
use Rattle.audit_lex.specs.declared.header.EventKey.{EventKey}
use Rattle.audit_record.specs.declared.types.Record.{Record}
use Rattle.flow_base.specs.declared.limits.Limits.{Limits}
use Rattle.record_join.specs.declared.clock.JoinClock.{JoinClock}
use Rattle.record_join.specs.declared.event.Event.{Event}
use Rattle.record_join.specs.declared.event.Taken.{Taken}
use Rattle.record_join.specs.declared.event.Taken.TheVariants.{Held, Closed, Excess}

-- how long a group waits for the records of its key, in milliseconds
abbrev pub PATIENCE : ℕ
PATIENCE = 2000

-- ---- the clock

-- the greatest time seen, once one more has come
abbrev pub seen_time : Option ℕ → ℕ → Option ℕ
seen_time None ms = Some ms
seen_time (Some seen) ms = Some (max seen ms)

-- the clock, once a record of this time has come
abbrev pub saw : JoinClock → ℕ → JoinClock
saw clock ms = record clock { seen = seen_time clock.seen ms }

-- the greater of a key and the greatest one before it
abbrev pub greater_key : Option EventKey → EventKey → EventKey
greater_key None key = key
greater_key (Some released) key = if is_below key released then released else key

-- the effective time of an event that is released now
abbrev pub event_time : JoinClock → EventKey → ℕ
event_time clock key = max clock.effective key.ms

-- the clock, once the event of this key is released
abbrev pub let_go : JoinClock → EventKey → JoinClock
let_go clock key = record clock { released = Some (greater_key clock.released key); effective = event_time clock key }

-- a key is late if one above it was released
abbrev pub is_above : Option EventKey → EventKey → Bool
is_above None key = false
is_above (Some released) key = is_below key released

-- an event of this key is late, if it is released now
abbrev pub is_late : JoinClock → EventKey → Bool
is_late clock key = is_above clock.released key

-- a time is past if a record more than this many milliseconds above it was seen
abbrev pub is_past : Option ℕ → ℕ → Bool
is_past None ms = false
is_past (Some seen) ms = nat_lt PATIENCE (seen - ms)

-- ---- what waits

-- records that wait in the order of arrival, the keys among them whose end has come, the clock, and how many records
-- were in excess
pub record Joining : Type 0 where
  pub waiting : List Record
  pub closed : List EventKey
  pub clock : JoinClock
  pub excess : ℕ

-- the records of a key
abbrev pub group_of : EventKey → List Record → List Record
group_of key records = filter (λ r. is_key key r.key) records

-- a record of this key is among these
abbrev pub waits : EventKey → List Record → Bool
waits key records = list_any (λ r. is_key key r.key) records

-- the key is among these
abbrev pub is_among : EventKey → List EventKey → Bool
is_among key keys = list_any (is_key key) keys

-- the lesser of a key and the least of others
abbrev pub lesser_key : EventKey → Option EventKey → EventKey
lesser_key key None = key
lesser_key key (Some other) = if is_below other key then other else key

-- the least key of these records
abbrev pub least_key : List Record → Option EventKey
least_key [] = None
least_key (r ∷ records) = Some (lesser_key r.key (least_key records))

-- how many keys these records have
abbrev pub count_keys : List Record → ℕ
count_keys records = distinct_count is_key (map (λ r. r.key) records)

-- the bytes of their lines
abbrev pub text_of : List Record → ℕ
text_of records = sum_by (λ r. length r.line) records

-- ---- one more record

-- its group is full, or has its call and this is another
abbrev pub is_excess : Limits → List Record → Record → Bool
is_excess limits group r = not (nat_lt (length group) limits.records) || (is_call r && list_any is_call group)

-- closes a key if it waits
abbrev pub close : Joining → EventKey → Joining
close s key = if waits key s.waiting then record s { closed = key ∷ s.closed } else s

-- puts a record into its group, or drops it
abbrev pub put : Limits → Joining → Record → Joining
put limits s r =
    if is_excess limits (group_of r.key s.waiting) r then record s { excess = suc s.excess }
    else record s { waiting = s.waiting ++ r ∷ [] }

-- the time is seen; an end closes its key, another record goes to its group
abbrev pub enter : Limits → Joining → Record → Joining
enter limits s r =
    let now = record s { clock = saw s.clock r.key.ms } in
    if ends_event r then close now r.key else put limits now r

-- what is answered: an end closes, another record is in excess or held
abbrev pub taken_as : Limits → Joining → Record → Taken
taken_as limits s r =
    if ends_event r then Closed
    else if is_excess limits (group_of r.key s.waiting) r then Excess
    else Held

-- a settle closes every key that waits
abbrev pub settled : Joining → Joining
settled s = record s { closed = map (λ r. r.key) s.waiting }

-- ---- releases

-- the least group is ripe: closed, past, or too much waits
abbrev pub is_ripe_at : Limits → Joining → EventKey → Bool
is_ripe_at limits s key =
    is_among key s.closed || is_past s.clock.seen key.ms
    || nat_lt limits.groups (count_keys s.waiting) || nat_lt limits.text (text_of s.waiting)

-- a key, if the group of it is ripe
abbrev pub only_ripe : Limits → Joining → Option EventKey → Option EventKey
only_ripe limits s None = None
only_ripe limits s (Some key) = if is_ripe_at limits s key then Some key else None

-- the key of the least group, if that is ripe
abbrev pub ripe_key : Limits → Joining → Option EventKey
ripe_key limits s = only_ripe limits s (least_key s.waiting)

-- the event of a key that is released now
abbrev pub event_of : Joining → EventKey → Event
event_of s key = record { key = key; ms = event_time s.clock key; late = is_late s.clock key; records = group_of key s.waiting }

-- what is left once the group of a key is released
abbrev pub without : Joining → EventKey → Joining
without s key = record s {
  waiting = filter (λ r. not (is_key key r.key)) s.waiting;
  closed = filter (λ c. not (is_key key c)) s.closed;
  clock = let_go s.clock key;
}

-- the event of a key, if there is one to release
abbrev pub event_at : Joining → Option EventKey → Option Event
event_at s None = None
event_at s (Some key) = Some (event_of s key)

-- what is left once the group of a key is released, if there is one to release
abbrev pub left_at : Joining → Option EventKey → Joining
left_at s None = s
left_at s (Some key) = without s key

-- the event that is released next; none if the least group isn't ripe
abbrev pub next_event : Limits → Joining → Option Event
next_event limits s = event_at s (ripe_key limits s)

-- what is left then; if the least group isn't ripe, the same
abbrev pub next_left : Limits → Joining → Joining
next_left limits s = left_at s (ripe_key limits s)
