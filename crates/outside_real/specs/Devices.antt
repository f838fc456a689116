-- Readers, writers and files of the system, each with a count of the calls that failed.
use Rattle.std.specs.Prelude.{◌≡◌, ◌+◌, ◌-◌, ◌^◌, ℕ, List, Option, None, Some, is_some, min, Result, MatchResult, IsErr}
use Rattle.std.specs.Option.{option_and_then}
use Rattle.outside.specs.Disk.{DiskState, IsDisk, silent}
use Rattle.outside.specs.DiskLaws.{silent_is_disk}

-- a source: its reader, or none if it couldn't be opened, and how many calls failed
pub record Reading (R : Type 0) : Type 0 where
  pub inner : Option R
  pub faults : ℕ

-- a sink: its writer, and how many calls failed
pub record Writing (W : Type 0) : Type 0 where
  pub inner : W
  pub faults : ℕ

-- the bytes that the reader of a source has left, if it has a reader and its bytes are known
abbrev pub known_left : {R : Type 0} → (R → Option (List ℕ)) → Reading R → Option (List ℕ)
known_left remaining source = option_and_then remaining source.inner

-- the count after a call: one more if the call failed, up to the greatest number of 64 bits, and else as before
abbrev pub Counts : {T E : Type 0} → ℕ → ℕ → Result T E → Type 0
Counts before now result = MatchResult result (λ _. now ≡ before) (λ _. now ≡ min (before + 1) (2 ^ 64 - 1))

-- a disk: its medium, or none if it couldn't be opened, and how many calls failed
pub record Storing (M : Type 0) : Type 0 where
  pub inner : Option M
  pub faults : ℕ

-- what a medium is at a moment, and without one a disk that isn't observable
abbrev pub state_in : {M : Type 0} → (M → DiskState) → Option M → DiskState
state_in state None = silent
state_in state (Some medium) = state medium

-- what a disk is at a moment: what its medium is
abbrev pub state_of : {M : Type 0} → (M → DiskState) → Storing M → DiskState
state_of state disk = state_in state disk.inner

-- the meanings of a disk belong together if those of its medium do
pub state_is_disk : {M : Type 0} (state : M → DiskState) → ((medium : M) → IsDisk (state medium)) → (inner : Option M) → IsDisk (state_in state inner)
state_is_disk state law None = silent_is_disk
state_is_disk state law (Some medium) = law medium

-- A call on a disk. Without a medium it is an error, the disk keeps its medium or has none as before, and an error is counted.
pub record Answers {M T E : Type 0} (old new : Storing M) (result : Result T E) : Type 0 where
  pub unopened : old.inner ≡ None → IsErr result
  pub as_before : is_some new.inner ≡ is_some old.inner
  pub counted : Counts old.faults new.faults result

-- how often a call on a disk failed
abbrev pub faults_of : {M : Type 0} → Storing M → ℕ
faults_of disk = disk.faults

-- the counter of a disk stands at its end
abbrev pub is_spent : {M : Type 0} → Storing M → Type 0
is_spent disk = disk.faults ≡ 2 ^ 64 - 1
