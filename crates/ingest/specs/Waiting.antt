-- The groups that a store's Waiting rows say, and when a joiner may be made of them.
use Rattle.std.specs.Prelude.{◌≡◌, ◌≢◌, ℕ, Bool, true, false, List, [], ◌∷◌, ◌++◌, fold, Some, None, if◌then◌else◌, ⊤}
use Rattle.std.specs.Option.{option_map}
use Rattle.std.specs.List.{AllByRecursion}
use Rattle.flow_base.specs.declared.limits.Limits.{Limits}
use Rattle.audit_lex.specs.declared.header.EventKey.{EventKey}
use Rattle.audit_record.specs.declared.types.Record.{Record}
use Rattle.record_join.specs.Keys.{is_below}
use Rattle.record_join.specs.Events.{Joining, is_among, ripe_key}
use Rattle.record_join.specs.PutBack.{IsSound, fresh}
use Rattle.record_join.specs.StandsFor.{Joiner, StandsFor}
use Rattle.row_codec.specs.declared.rows.StoreRow.{StoreRow}
use Rattle.row_codec.specs.declared.state.StateRow.{StateRow}
use Rattle.stored.specs.Batch.{Ascends, IsKeyBefore}
use Rattle.stored.specs.Reading.{records_of, clock_of}
use Rattle.stored.specs.Words.{Group, groups_of}
use Rattle.stored.specs.Moment.{state_at}
use Rattle.stored.specs.Stored.{ClosesAt}
use Rattle.audit_lex.specs.History.{History}
use Rattle.ingest.specs.Events.{state_of}
use Rattle.ingest.specs.Storing.{moment_of}
use Rattle.ingest.specs.LineRecords.{record_of}

-- ---- what waits by rows

-- what waits, with some records more
abbrev pub with_records : Joining → List Record → Joining
with_records s records = record s { waiting = s.waiting ++ records }

-- what waits, with a group more
abbrev pub with_group : ℕ → Joining → EventKey × Group → Joining
with_group limit s e = record s {
  waiting = s.waiting ++ records_of (record_of limit) e.1.lines;
  closed = if e.1.closed then e.0 ∷ s.closed else s.closed;
}

-- what waits, with these groups more
abbrev pub with_groups : ℕ → Joining → List (EventKey × Group) → Joining
with_groups limit s groups = fold (with_group limit) s groups

-- what waits by the Waiting rows, at the clock of the State
abbrev pub waiting_by : Limits → StateRow → List StoreRow → Joining
waiting_by limits state rows = with_groups limits.line (fresh (clock_of state)) (groups_of rows)

-- ---- when it is sound

-- a line is a used one of this key
abbrev pub IsLineOf : ℕ → EventKey → List ℕ → Type 0
IsLineOf limit key line = option_map (λ r. r.key) (record_of limit line) ≡ Some key

-- a group has a line, and each of its lines is a used one of its key
pub record HasOwnLines (limit : ℕ) (e : EventKey × Group) : Type 0 where
  pub some : e.1.lines ≢ []
  pub own : AllByRecursion (IsLineOf limit e.0) e.1.lines

-- the keys of the Waiting rows ascend
abbrev pub AscendByKey : List StoreRow → Type 0
AscendByKey rows = Ascends (λ x y. IsKeyBefore x.0 y.0) (groups_of rows)

-- Each line of a Waiting row is a used one of the row's key. A joiner would hold the records of each group: none ends its
-- event, none is in excess, two calls among them, and none is later than the greatest time seen. And the least group isn't ripe.
pub record AreSoundWaiting (limits : Limits) (state : StateRow) (rows : List StoreRow) : Type 0 where
  pub lines : AllByRecursion (HasOwnLines limits.line) (groups_of rows)
  pub held : IsSound limits (waiting_by limits state rows)
  pub unripe : ripe_key limits (waiting_by limits state rows) ≡ None

-- whatever history the rows close beside the State, the joiner stands for what waited after it
abbrev pub StandsForClosed : Limits → StateRow → List StoreRow → Joiner → Type 0
StandsForClosed limits state rows join = (h : History) (part : ℕ) → ClosesAt (moment_of limits h part) rows
    → state ≡ state_at (moment_of limits h part) → StandsFor limits join (state_of limits h)

-- ---- one after the other

-- a joiner stands for what waits, and each group of it is sound
pub record IsSoundFor (limits : Limits) (join : Joiner) (s : Joining) : Type 0 where
  pub stands : StandsFor limits join s
  pub sound : IsSound limits s

-- from the first moment to the second no record and no end was lost, and the clock stood still
pub record Leads (s t : Joining) : Type 0 where
  pub more : List Record
  pub waiting : t.waiting ≡ s.waiting ++ more
  pub closed : (key : EventKey) → is_among key s.closed ≡ true → is_among key t.closed ≡ true
  pub clock : t.clock ≡ s.clock

-- the first record has the least key
abbrev pub FirstIsLeast : List Record → Type 0
FirstIsLeast [] = ⊤
FirstIsLeast (r ∷ records) = AllByRecursion (λ x. is_below x.key r.key ≡ false) records

-- nothing that this leads to is sound with its least group unripe
abbrev pub IsHopeless : Limits → Joining → Type 0
IsHopeless limits s = (t : Joining) → Leads s t → FirstIsLeast t.waiting → IsSound limits t → ripe_key limits t ≢ None

-- a joiner of what waits has taken some records in, or they lead to nothing sound
abbrev pub PutRecords : Bool → Limits → List Record → (old new : Joiner) → Type 0
PutRecords true limits records old new = (s : Joining) → IsSoundFor limits old s → IsSoundFor limits new (with_records s records)
PutRecords false limits records old new = (s : Joining) → IsSoundFor limits old s → IsHopeless limits (with_records s records)

-- the same of the records of lines of a key
abbrev pub PutLines : Bool → Limits → EventKey → List (List ℕ) → (old new : Joiner) → Type 0
PutLines true limits key lines old new =
    AllByRecursion (IsLineOf limits.line key) lines × PutRecords true limits (records_of (record_of limits.line) lines) old new
PutLines false limits key lines old new =
    AllByRecursion (IsLineOf limits.line key) lines → PutRecords false limits (records_of (record_of limits.line) lines) old new

-- a joiner of what waits has closed the group of a key, or what it stood for leads to nothing sound
abbrev pub Closes : Bool → Limits → EventKey → Joining → (old new : Joiner) → Type 0
Closes true limits key s old new = IsSoundFor limits old s → IsSoundFor limits new (record s { closed = key ∷ s.closed })
Closes false limits key s old new = IsSoundFor limits old s → IsHopeless limits s

-- the same of groups
abbrev pub PutGroups : Bool → Limits → List (EventKey × Group) → (old new : Joiner) → Type 0
PutGroups true limits groups old new =
    AllByRecursion (HasOwnLines limits.line) groups
    × ((s : Joining) → IsSoundFor limits old s → IsSoundFor limits new (with_groups limits.line s groups))
PutGroups false limits groups old new =
    AllByRecursion (HasOwnLines limits.line) groups
    → (s : Joining) → IsSoundFor limits old s → IsHopeless limits (with_groups limits.line s groups)
