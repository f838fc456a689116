-- What waits, as a commit writes it down.
use Rattle.std.specs.Prelude.{◌≡◌, ◌++◌, ℕ, List, map}
use Rattle.audit_lex.specs.declared.header.EventKey.{EventKey}
use Rattle.audit_record.specs.declared.types.Record.{Record}
use Rattle.record_join.specs.declared.group.Group.{Group}
use Rattle.row_codec.specs.declared.rows.StoreRow.{StoreRow}
use Rattle.record_join.specs.Events.{Joining}
use Rattle.stored.specs.Batch.{Ascends, AreWaiting, IsKeyBefore, waiting_row}
use Rattle.stored.specs.Words.{Group as Lines}

-- the lines of records
abbrev pub lines_in : List Record → List (List ℕ)
lines_in records = map (λ r. r.line) records

-- a group as its lines
abbrev pub group_lines : Group → Lines
group_lines group = record { closed = group.closed; lines = lines_in group.records }

-- groups as their lines
abbrev pub as_lines : List (EventKey × Group) → List (EventKey × Lines)
as_lines groups = map (λ e. (e.0, group_lines e.1)) groups

-- the row of a group
abbrev pub waiting_row_of : EventKey → Group → StoreRow
waiting_row_of key group = waiting_row (key, group_lines group)

-- the Waiting rows of all that waits, in order, come after those that were there
abbrev pub PutsWaiting : Joining → List StoreRow → List StoreRow → Type 0
PutsWaiting s old new =
    (groups : List (EventKey × Lines)) × AreWaiting s groups × Ascends (λ x y. IsKeyBefore x.0 y.0) groups × (new ≡ old ++ map waiting_row groups)
