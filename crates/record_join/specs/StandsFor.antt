-- What a joiner keeps, and the lists that it stands for.
use Rattle.std.specs.Prelude.{◌≡◌, ◌++◌, ◌∷◌, [], ◌||◌, ℕ, Bool, true, false, List, Option, None, Some, length, nat_lt, if◌then◌else◌}
use Rattle.std.specs.List.Sorted.{IsStrictlySortedBy}
use Rattle.std.specs.Map.{lookup, keys_of}
use Rattle.record_join.specs.Keys.{is_key, key_cmp}
use Rattle.record_join.specs.Events.{Joining, group_of, waits, is_among, is_past, text_of}
use Rattle.audit_record.specs.declared.types.Record.{Record}
use Rattle.audit_lex.specs.declared.header.EventKey.{EventKey}
use Rattle.flow_base.specs.declared.limits.Limits.{Limits}
use Rattle.record_join.specs.declared.clock.JoinClock.{JoinClock}
use Rattle.record_join.specs.declared.group.Group.{Group}
use Rattle.record_join.specs.declared.event.Event.{Event}
use Rattle.record_join.specs.declared.event.EventView.{EventView}

-- groups by key, the bytes of their lines, the clock, the limits
pub record Joiner : Type 0 where
  pub groups : List (EventKey × Group)
  pub text : ℕ
  pub clock : JoinClock
  pub limits : Limits

-- the group of a key, if it waits
abbrev pub group_at : Joining → EventKey → Option Group
group_at s key =
    if waits key s.waiting then Some (record { closed = is_among key s.closed; records = group_of key s.waiting })
    else None

-- the groups ascend, and are those of the keys that wait; only keys that wait are closed; the sum and the clock are theirs
pub record StandsFor (limits : Limits) (join : Joiner) (s : Joining) : Type 0 where
  pub ascend : IsStrictlySortedBy key_cmp (keys_of join.groups)
  pub each : (key : EventKey) → lookup (is_key key) join.groups ≡ group_at s key
  pub closed_wait : (key : EventKey) → waits key s.waiting ≡ false → is_among key s.closed ≡ false
  pub text : join.text ≡ text_of s.waiting
  pub clock : join.clock ≡ s.clock
  pub limits_are : join.limits ≡ limits

-- whatever limits and lists the joiner stands for, this holds of them
abbrev pub WhereStands : Joiner → (Limits → Joining → Type 0) → Type 0
WhereStands join P = (limits : Limits) (s : Joining) → StandsFor limits join s → P limits s

-- the joiner stands for some lists
pub record Stands (join : Joiner) : Type 0 where
  pub limits : Limits
  pub lists : Joining
  pub stands : StandsFor limits join lists

-- an event that is borrowed
abbrev pub event_seen : EventView → Event
event_seen view = record { key = view.key; ms = view.ms; late = view.late; records = view.records.now }

-- ---- steps of the groups

-- the records of a group, if there is one
abbrev pub records_in : Option Group → List Record
records_in None = []
records_in (Some group) = group.records

-- a group whose end has come
abbrev pub shut : Option Group → Option Group
shut None = None
shut (Some group) = Some (record group { closed = true })

-- a group with one more record
abbrev pub grown : Option Group → Record → Group
grown None r = record { closed = false; records = r ∷ [] }
grown (Some group) r = record group { records = group.records ++ r ∷ [] }

-- a group that is the first is ripe: closed, past, or too much waits
abbrev pub is_ripe_group : Joiner → EventKey → Group → Bool
is_ripe_group join key group =
    group.closed || is_past join.clock.seen key.ms
    || nat_lt join.limits.groups (length join.groups) || nat_lt join.limits.text join.text

-- the first group, if it is ripe
abbrev pub ripe_first : Joiner → List (EventKey × Group) → Option (EventKey × Group)
ripe_first join [] = None
ripe_first join (e ∷ rest) = if is_ripe_group join e.0 e.1 then Some e else None

-- no event can be released
abbrev pub NothingRipe : Joiner → Type 0
NothingRipe join = ripe_first join join.groups ≡ None
