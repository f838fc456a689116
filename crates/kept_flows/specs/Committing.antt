-- How the rows of a store since its last commit are put on its disk.
use Rattle.std.specs.Prelude.{◌≡◌, true, ◌+◌, ◌++◌, ◌∷◌, [], ◌↔◌, ⊤, ℕ, List, length, Some, Result, OnOk, OnErr, IsErrOf}
use Rattle.flow_base.specs.declared.limits.Full.{Full}
use Rattle.outside.specs.Disk.{DiskState, IsDurable, LeavesOnly, UsesDisk}
use Rattle.batch_log.specs.Batches.{IsBeforeOrAfter}
use Rattle.batch_log.specs.Log.{EachHas, IsRefused, LogHas, log_after, passed}
use Rattle.batch_log.specs.declared.log.CommitFault.{CommitFault}
use Rattle.batch_log.specs.declared.log.CommitFault.TheVariants as commit
use Rattle.reach_model.specs.declared.modes.Mode.{Mode}
use Rattle.row_codec.specs.Payload.{IsPayload}
use Rattle.row_codec.specs.declared.rows.StoreRow.{StoreRow}
use Rattle.reduced_store.specs.OnDisk.{LeadsOn, OnDisk, UnlessNoMemory, payload_between, rows_between}

-- One batch holds the rows since the last commit, between those before and those after. A crash at any moment leaves the batches
-- from before, or these and the new one. If nothing was written nothing has changed, and the rows are as before in any case. If the disk
-- is observable, the rows since the last commit lead from those that it left to those of now.
pub record CommitsRows {D : Type 0} (state : D → DiskState) (faults : D → ℕ) (spent : D → Type 0) (mode : Mode) (front back : List StoreRow)
    (old new : OnDisk D) (result : Result ⊤ CommitFault) : Type 0 where
  pub payload : UnlessNoMemory result (IsPayload mode (rows_between old front back) (payload_between old mode front back))
  pub adds : (state old.disk).told → (payloads : List (List ℕ)) → LogHas old.log payloads (state old.disk).reads
      → OnOk result (LogHas new.log (payloads ++ payload_between old mode front back ∷ []) (state new.disk).reads)
  pub durable : OnOk result (IsDurable (state new.disk))
  pub any_moment : (state old.disk).told → (payloads : List (List ℕ)) → EachHas old.log payloads (state old.disk).image
      → LeavesOnly (state old.disk) (state new.disk) (IsBeforeOrAfter old.log.most payloads (payload_between old mode front back))
  pub log : new.log ≡ log_after old.log (9 + length (payload_between old mode front back)) result
  pub full : (full : Full) → UnlessNoMemory result (IsErrOf result (commit.Full full)
      ↔ (passed old.log (length (payload_between old mode front back)) ≡ Some full))
  pub refused : IsRefused result → new ≡ old
  pub uses : UsesDisk state faults spent old.disk new.disk (IsErrOf result commit.StoreFault)
  pub leads : (state old.disk).told → LeadsOn old
  pub rows : new.rows.rows ≡ old.rows.rows
  pub lawful : new.rows.lawful ≡ old.rows.lawful
  pub saved : OnOk result (new.saved ≡ new.rows.rows)
  pub unsaved : OnErr result (new.saved ≡ old.saved)

-- no commit has failed on the disk of the store, and the disk, if it is observable, has the batches that the store's log says
pub record CanCommit {D : Type 0} (state : D → DiskState) (store : OnDisk D) : Type 0 where
  pub usable : store.log.usable ≡ true
  pub stands : (state store.disk).told → (payloads : List (List ℕ)) × LogHas store.log payloads (state store.disk).reads
