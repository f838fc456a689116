-- Where the rows of a store stand on its disk, while batches are taken in and put there.
use Rattle.std.specs.Prelude.{◌≡◌, ℕ, ◌+◌, ◌≤◌, List, [], ◌++◌, length, map, drop, None}
use Rattle.std.specs.List.{All, AllZip, flat_map}
use Rattle.batch_log.specs.declared.find.Batch.{Batch}
use Rattle.batch_log.specs.Log.{Log, next_gate}
use Rattle.batch_log.specs.Payloads.{IsThere}
use Rattle.block_cache.specs.Cached.{range}
use Rattle.row_codec.specs.declared.rows.ExtendRow.{ExtendRow}
use Rattle.row_codec.specs.declared.rows.StoreRow.{StoreRow}
use Rattle.row_codec.specs.Rows.{Fits, row as spelling}
use Rattle.reach_model.specs.Rows.{firsts}
use Rattle.reach_rows.specs.Kept.{row_of_kept}
use Rattle.row_codec.specs.declared.rows.StoreRow.TheVariants.{Kept}
use Rattle.saved_rows.specs.Joining.{AreOn, Joined, extends_in, mark_in, rows_now}
use Rattle.saved_rows.specs.Saved.{AreSpelledFrom, IsSingle, SameRows, as_kept}
use Rattle.stored.specs.Batch.{kept_from}
use Rattle.reduced_store.specs.Held.{Held}

-- the rows of the last commit are all rows
pub record IsSettled (held : Held) : Type 0 where
  pub recent : held.placed.recent ≡ []
  pub none : (i : ℕ) → mark_in held.placed.renewed i ≡ None
  pub saved : held.rows ≡ map row_of_kept held.placed.kept

-- the rows of the last commit stand where they stood
pub record SamePlaces (old new : Joined) : Type 0 where
  pub saved : new.saved ≡ old.saved
  pub kept : new.kept ≡ old.kept

-- and so do those since, and what is known of extended rows; only room may differ
pub record SamePlacesNow (old new : Joined) : Type 0 where
  pub saved : new.saved ≡ old.saved
  pub kept : new.kept ≡ old.kept
  pub recent : new.recent ≡ old.recent
  pub renewed : new.renewed ≡ old.renewed

-- nothing but the room for a batch may differ
pub record SameButRoom (old new : Held) : Type 0 where
  pub rows : new ≡ record old { placed = new.placed }
  pub placed : new.placed ≡ record old.placed { saved = new.placed.saved }
  pub saved : SameRows old.placed.saved new.placed.saved

-- the Extend rows of the rows that were extended since the last commit, ascending
abbrev pub extends_now : Joined → List ExtendRow
extends_now j = extends_in (mark_in j.renewed) 0 (j.kept ++ j.recent)

-- the rows are those of the last commit and those since, with the last marks that they have now
abbrev pub IsTied : Held → Type 0
IsTied held = held.rows ≡ map row_of_kept (rows_now held.placed)

-- The Kept rows since the last commit are those of the rows of now that follow its rows. Each ends with the flow with which it begins.
pub record Follow (held : Held) : Type 0 where
  pub tied : IsTied held
  pub single : All IsSingle held.placed.recent
  pub kept : map as_kept held.placed.recent
      ≡ map Kept (kept_from (firsts (map row_of_kept held.placed.kept)) (drop (length (map row_of_kept held.placed.kept)) held.rows))

-- these rows stand in the bytes one after the other from a place on, and end before the place `firm`, and so before any later one
abbrev pub StandFrom : List ℕ → (firm at : ℕ) → List StoreRow → Type 0
StandFrom bytes firm at rows = (later : ℕ) → firm ≤ later → AreSpelledFrom bytes later at rows

-- how many bytes of a batch stand before its rows: a gate, a length and a header
abbrev pub BEFORE : ℕ
BEFORE = 15

-- the bytes have these rows in a batch that was listed, after its header
pub record AreInBatch (bytes : List ℕ) (batch : Batch) (rows : List StoreRow) : Type 0 where
  pub fit : All Fits rows
  pub is : range (batch.gate + BEFORE) (length (flat_map spelling rows)) bytes ≡ flat_map spelling rows

-- the bytes have all of these batches, with these payloads
abbrev pub AreThere : List ℕ → List Batch → List (List ℕ) → Type 0
AreThere bytes listed payloads = AllZip (IsThere bytes) listed payloads

-- Rows that were taken in batch by batch. Bytes that have these batches have the rows, and what is firm of the bytes ends with a batch.
pub record ArePlaced (listed : List Batch) (payloads : List (List ℕ)) (held : Held) : Type 0 where
  pub settled : IsSettled held
  pub there : (bytes : List ℕ) → AreThere bytes listed payloads → AreOn bytes held.placed
  pub firm : (end : ℕ) → All (λ batch. batch.gate + 9 + batch.length ≤ end) listed → held.placed.saved.cache.firm ≤ end

-- the bytes have the rows of the last commit, which are all rows, and what is firm of the bytes ends at the next batch's gate
pub record StandOn (bytes : List ℕ) (log : Log) (held : Held) : Type 0 where
  pub settled : IsSettled held
  pub on : AreOn bytes held.placed
  pub firm : held.placed.saved.cache.firm ≤ next_gate log
