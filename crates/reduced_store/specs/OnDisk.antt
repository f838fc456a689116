-- A store, as contracts see it.
use Rattle.std.proofs.Common.{◌∙◌, refl}
use Rattle.std.specs.Prelude.{◌≡◌, ◌⊎◌, ℕ, ◌<◌, ◌≤◌, List, ◌++◌, length, map, drop, slice_index_or, Option, Some, Result, IsErrOf, ⊤}
use Rattle.std.specs.List.{All, flat_map}
use Rattle.outside.specs.Disk.{DiskState}
use Rattle.outside.specs.Looking.{LooksAt, looks_at_none, looks_at_twice}
use Rattle.reach_model.specs.declared.modes.Mode.{Mode}
use Rattle.reach_model.specs.Rows.{Row, firsts}
use Rattle.reach_rows.specs.declared.rows.Mark.{Mark}
use Rattle.row_codec.specs.declared.rows.StoreRow.{StoreRow}
use Rattle.row_codec.specs.declared.rows.StoreRow.TheVariants.{Kept, Extend}
use Rattle.row_codec.specs.Payload.{header}
use Rattle.row_codec.specs.Rows.{row, Fits}
use Rattle.stored.specs.Batch.{kept_from, extends_from, fresh}
use Rattle.batch_log.specs.Log.{Log, next_gate}
use Rattle.batch_log.specs.declared.log.CommitFault.{CommitFault}
use Rattle.batch_log.specs.declared.log.CommitFault.TheVariants.{NoMemory}
use Rattle.reach_rows.specs.Alike.{GoesAlong}
use Rattle.reduced_store.specs.Held.{Held, HasRoom, told_if}
use Rattle.reduced_store.specs.Placing.{extends_now}
use Rattle.reduced_store.specs.declared.store.Spelled.{Spelled}
use Rattle.reach_rows.specs.Kept.{AreRows, row_of_kept}
use Rattle.reach_rows.specs.declared.rows.Row.{Row as KeptRow}
use Rattle.saved_rows.specs.Joining.{AreOn, Joined, batch_rows, mark_in, with_extends}

-- its disk, the log of the disk's batches, its rows, the rows as the last commit left them, the Kept and the Extend rows of a batch
-- that leads from these to those of now, and room to list this many rows that are extended
pub record OnDisk (D : Type 0) : Type 0 where
  pub disk : D
  pub log : Log
  pub rows : Held
  pub saved : List Row
  pub since : List StoreRow
  pub listing_room : ℕ

-- The rows, if the disk is observable. Those of the last commit are read from it, and of another disk nothing is known.
abbrev pub seen_rows : {D : Type 0} → (D → DiskState) → OnDisk D → Option (List Row)
seen_rows state store = told_if (state store.disk).tells store.rows.rows

-- the same rows, with nothing said of room for a batch
abbrev pub forget_room : Held → Held
forget_room held = record held { placed = record held.placed { saved = record held.placed.saved { runs_room = 0; ends_room = 0 } } }

-- the Kept rows since the last commit, and the Extend rows of rows that were extended since
abbrev pub since_now : Joined → List StoreRow
since_now j = batch_rows j.recent (extends_now j)

-- a row that was extended since the last commit has another last place than it had then or at first
pub record IsLater (R : List KeptRow) (i : ℕ) (mark : Mark) : Type 0 where
  pub within : i < length R
  pub later : (d : KeptRow) → (slice_index_or R i d).last.at.place < mark.at.place

-- What holds of the rows of an observable disk. They are lawful, the disk has those of the last commit, what is firm of its bytes ends
-- at the next batch's gate or before, and the batch that would be committed leads from the last commit to the rows of now.
pub record IsTold (bytes : List ℕ) (log : Log) (held : Held) : Type 0 where
  pub lawful : AreRows held.rows
  pub on : AreOn bytes held.placed
  pub firm : held.placed.saved.cache.firm ≤ next_gate log
  pub later : (i : ℕ) (mark : Mark) → mark_in held.placed.renewed i ≡ Some mark → IsLater (held.placed.kept ++ held.placed.recent) i mark

-- room for this many flows, each of which may add a row or extend one
abbrev pub HasRoomFor : {D : Type 0} → OnDisk D → ℕ → Type 0
HasRoomFor store n = HasRoom store.rows n × (n ≤ store.listing_room)

-- nothing but the rows and the room may differ, and the disk is only looked at
pub record SameBut {D : Type 0} (state : D → DiskState) (faults : D → ℕ) (spent : D → Type 0) (old new : OnDisk D) : Type 0 where
  pub disk : LooksAt state faults spent old.disk new.disk
  pub log : new.log ≡ old.log
  pub lawful : new.rows.lawful ≡ old.rows.lawful
  pub saved : new.saved ≡ old.saved

pub stores_go_along : {D : Type 0} {state : D → DiskState} {faults : D → ℕ} {spent : D → Type 0} → GoesAlong {S = OnDisk D} (SameBut state faults spent)
stores_go_along = record {
  same = λ s. record { disk = looks_at_none s.disk; log = refl; lawful = refl; saved = refl };
  next = λ a b c ab bc. record {
    disk = looks_at_twice a.disk b.disk c.disk ab.disk bc.disk;
    log = bc.log ∙ ab.log;
    lawful = bc.lawful ∙ ab.lawful;
    saved = bc.saved ∙ ab.saved;
  };
}

-- the Kept and the Extend rows that lead from the rows of the last commit to those of now
abbrev pub rows_since : (saved now : List Row) → List StoreRow
rows_since saved now =
    map Kept (kept_from (firsts saved) (drop (length saved) now))
    ++ map Extend (extends_from 0 (saved ++ map fresh (drop (length saved) now)) now)

-- the rows since the last commit lead from the rows that it left to those of now
abbrev pub LeadsOn : {D : Type 0} → OnDisk D → Type 0
LeadsOn store = store.since ≡ rows_since store.saved store.rows.rows

-- the rows of a batch that has those since the last commit between others
abbrev pub rows_between : {D : Type 0} → OnDisk D → (front back : List StoreRow) → List StoreRow
rows_between store front back = front ++ (store.since ++ back)

-- the payload that spells them
abbrev pub payload_between : {D : Type 0} → OnDisk D → Mode → (front back : List StoreRow) → List ℕ
payload_between store mode front back = header mode ++ flat_map row (rows_between store front back)

-- allocation failed, or this holds
abbrev pub UnlessNoMemory : Result ⊤ CommitFault → Type 0 → Type 0
UnlessNoMemory result P = IsErrOf result NoMemory ⊎ P

-- A payload that has this many bytes before the rows since the last commit, which are spelled next, and the Extend rows among these.
pub record IsSpelledBetween {D : Type 0} (store : OnDisk D) (spelled : Spelled) : Type 0 where
  pub front : List ℕ
  pub back : List ℕ
  pub is : spelled.payload ≡ front ++ (flat_map row store.since ++ back)
  pub before : spelled.before ≡ length front
  pub fit : All Fits store.since
  pub extends : spelled.extends ≡ extends_now store.rows.placed
  pub now : map row_of_kept (with_extends (store.rows.placed.kept ++ store.rows.placed.recent) spelled.extends) ≡ store.rows.rows
  pub known : All (λ e. e.row < length store.rows.rows) spelled.extends
