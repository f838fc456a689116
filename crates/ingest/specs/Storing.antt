-- What a store says of a history.
use Rattle.std.specs.Prelude.{◌≡◌, ◌≤◌, ◌++◌, ℕ, List, []}
use Rattle.flow_base.specs.declared.limits.Limits.{Limits}
use Rattle.audit_lex.specs.History.{History, tail_of, is_long, short_text}
use Rattle.acts.specs.declared.act.Taken.{Taken}
use Rattle.name_text.specs.Addresses.{text_of}
use Rattle.reach_model.specs.declared.modes.Mode.{Mode}
use Rattle.row_codec.specs.declared.rows.StoreRow.{StoreRow}
use Rattle.store_check.specs.Conditions.{bounds_of}
use Rattle.stored.specs.Batch.{IsCommitOf}
use Rattle.stored.specs.Bytes.{IsStoreOf}
use Rattle.stored.specs.Moment.{Moment}
use Rattle.ingest.specs.Counting.{bytes_in, tally_in, counts_in}
use Rattle.ingest.specs.Events.{taken_in, events_of, state_of}
use Rattle.ingest.specs.Stops.{Fits}

-- what stands after a history, with this many bytes of this part of a log
abbrev pub moment_of : Limits → History → ℕ → Moment
moment_of limits h part = record {
  taken = taken_in limits (events_of limits h);
  join = state_of limits h;
  tally = tally_in limits h;
  events = (counts_in (events_of limits h)).events;
  late = (counts_in (events_of limits h)).late;
  unmapped = (counts_in (events_of limits h)).unmapped;
  bytes = bytes_in h;
  part = part;
  long = is_long limits.line (tail_of h);
  tail = short_text limits.line (tail_of h);
}

-- the bytes are a store of this mode that stores what stands after the history
abbrev pub IsStoreFor : Limits → Mode → List ℕ → History → ℕ → Type 0
IsStoreFor limits mode bytes h part =
    IsStoreOf text_of limits.names limits.payload (bounds_of limits) mode bytes (moment_of limits h part)

-- the rows are those of the commit that leads from what stands after one history to what stands after another
abbrev pub IsCommitFor : Limits → Mode → (h0 : History) (p0 : ℕ) (h : History) (p : ℕ) → List StoreRow → Type 0
IsCommitFor limits mode h0 p0 h p rows =
    IsCommitOf text_of limits.names mode (moment_of limits h0 p0) (moment_of limits h p) rows

-- the acts of the later moment are those of the earlier one and some since
abbrev pub HasSince : Moment → Moment → Type 0
HasSince m0 m = (since : List Taken) × (m.taken ≡ since ++ m0.taken)

-- The bytes store this history, of which no limit is passed, with this many of its bytes in this part of a log. Bytes without a batch
-- store the history of nothing.
pub record StoresHistory (limits : Limits) (mode : Mode) (bytes : List ℕ) (h : History) (part : ℕ) : Type 0 where
  pub store : IsStoreFor limits mode bytes h part
  pub fits : Fits limits h
  pub within : part ≤ bytes_in h
  pub begun : store.batches ≡ [] → h ≡ []
