-- A disk in memory: what it reads as, and what a crash may leave, by the record of its calls.
use Rattle.std.specs.Prelude.{◌≡◌, ◌⊎◌, ⊤, true, ℕ, ◌≤◌, min, List, [], ◌∷◌, length}
use Rattle.outside.specs.Disk.{DiskState, put_at, MayBecome}
use Rattle.outside.specs.declared.mem_disk.DiskCall.{DiskCall}
use Rattle.outside.specs.declared.mem_disk.DiskCall.TheVariants.{Wrote, Synced}

-- A disk in memory: the bytes that it began with, the calls since that changed something, newest first, the numbers of the
-- calls that fail, the number of the next call, and how many failed.
pub record Recorded : Type 0 where
  pub first : List ℕ
  pub past : List DiskCall
  pub fails : List ℕ
  pub calls : ℕ
  pub faults : ℕ

-- what it reads as after these calls, newest first
abbrev pub reads_of : List ℕ → List DiskCall → List ℕ
reads_of first [] = first
reads_of first (Wrote at bytes ∷ before) = put_at (min at (length (reads_of first before))) bytes (reads_of first before)
reads_of first (Synced ∷ before) = reads_of first before

-- what a crash after these calls may leave
abbrev pub image_of : List ℕ → List DiskCall → List ℕ → Type 0
image_of first [] c = c ≡ first
image_of first (Wrote at bytes ∷ before) c = (d : List ℕ) × image_of first before d × MayBecome (min at (length (reads_of first before))) bytes d c
image_of first (Synced ∷ before) c = c ≡ reads_of first before

-- what a crash after the first t calls, or after more of these calls, may have left
abbrev pub left_since : List ℕ → List DiskCall → ℕ → List ℕ → Type 0
left_since first [] t c = image_of first [] c
left_since first (call ∷ before) t c = image_of first (call ∷ before) c ⊎ ((t ≤ length before) × left_since first before t c)

-- such a disk at a moment
abbrev pub state_after : List ℕ → List DiskCall → DiskState
state_after first past = record {
  told = ⊤;
  tells = true;
  reads = reads_of first past;
  image = image_of first past;
  moment = length past;
  since = left_since first past;
}

abbrev pub disk_state : Recorded → DiskState
disk_state disk = state_after disk.first disk.past
