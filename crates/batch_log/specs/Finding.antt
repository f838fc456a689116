-- How the batches of a disk are listed, and what one look at a gate finds.
use Rattle.std.specs.Prelude.{◌≡◌, ◌≤◌, ◌+◌, ◌<◌, ◌^◌, ℕ, List, [], ◌∷◌, ◌++◌, length, take, drop, Option, Some}
use Rattle.batch_log.specs.declared.find.Batch.{Batch}
use Rattle.batch_log.specs.declared.find.Found.{Found}
use Rattle.batch_log.specs.declared.find.Found.TheVariants.{Closed, Open, Broken}
use Rattle.flow_base.specs.declared.limits.Limits.{Limits}
use Rattle.batch_log.specs.Batches.{CLOSED, batch, length_bytes, HasBatches, IsBroken}
use Rattle.batch_log.specs.Log.{Log}

-- the places and lengths of the batches of these payloads, the first of them at this place
abbrev pub places : ℕ → List (List ℕ) → List Batch
places at [] = []
places at (payload ∷ payloads) = record { gate = at; length = length payload } ∷ places (at + 9 + length payload) payloads

-- a payload of n bytes in a whole batch with which these bytes begin
pub record Begins (most n : ℕ) (rest : List ℕ) : Type 0 where
  pub payload : List ℕ
  pub next : ℕ
  pub after : List ℕ
  pub spelled : rest ≡ batch payload ++ next ∷ after
  pub long : length payload ≡ n
  pub short : n ≤ most

-- what begins the bytes from a gate on
abbrev pub Finds : ℕ → List ℕ → Found → Type 0
Finds most rest Closed = (after : List ℕ) × (rest ≡ CLOSED ∷ after)
Finds most rest (Open n) = Begins most n rest
Finds most rest Broken = IsBroken most rest

-- the batches of the bytes up to this last gate, listed in order
abbrev pub IsListed : ℕ → List ℕ → Option ℕ → List Batch → Type 0
IsListed most bytes last listed = (payloads : List (List ℕ)) × HasBatches most payloads last bytes × (listed ≡ places 0 payloads)

-- a log and a list of these bytes' batches
abbrev pub IsOpened : Limits → List ℕ → (Log × List Batch) → Type 0
IsOpened limits bytes opened = IsListed limits.payload bytes opened.0.last opened.1

-- the byte at a place
abbrev pub IsByteAt : ℕ → List ℕ → Option ℕ → Type 0
IsByteAt at bytes found = (byte : ℕ) × (found ≡ Some byte) × (drop at bytes ≡ byte ∷ drop (at + 1) bytes)

-- the length that 8 bytes at a place spell
abbrev pub IsLengthAt : ℕ → List ℕ → Option ℕ → Type 0
IsLengthAt at bytes found = (n : ℕ) × (found ≡ Some n) × (n < 2 ^ 64) × (take 8 (drop at bytes) ≡ length_bytes n)
