-- What is kept by a store whose rows were put on its disk.
use Rattle.std.proofs.Common.{◌≡◌, List, length}
use Rattle.outside.specs.Disk.{DiskState}
use Rattle.reach_model.specs.declared.modes.Mode.{Mode}
use Rattle.reach_model.specs.Numbers.{known}
use Rattle.reach_model.specs.Rows.{firsts}
use Rattle.reduced_store.specs.Held.{told_if}
use Rattle.reduced_store.specs.OnDisk.{OnDisk, seen_rows}
use Rattle.kept_flows.specs.KeptFlows.{kept_by, kept_of}

-- the same rows on a disk that is as observable as before are kept as before
pub kept_still : {D : Type 0} (state : D → DiskState) (mode : Mode) (old new : OnDisk D) → (state new.disk).tells ≡ (state old.disk).tells → new.rows.rows ≡ old.rows.rows
    → kept_of mode (seen_rows state) (λ (s : OnDisk D). length s.rows.rows) (λ (s : OnDisk D). known (firsts s.rows.rows)) new
    ≡ kept_of mode (seen_rows state) (λ (s : OnDisk D). length s.rows.rows) (λ (s : OnDisk D). known (firsts s.rows.rows)) old
kept_still state mode old new tells rows = λ i. kept_by mode (told_if (tells i) (rows i)) (length (rows i)) (known (firsts (rows i)))
