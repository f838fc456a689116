-- What batches the bytes of a disk hold.
use Rattle.std.specs.Prelude.{◌≡◌, ◌≢◌, ◌⊎◌, ◌≤◌, ℕ, List, [], ◌∷◌, ◌++◌, length, Option, None, Some}
use Rattle.std.specs.List.{All}
use Rattle.std.specs.Int.{to_le_bytes, w64}

-- a gate that is closed, 5A, and one that is open, A5
abbrev pub CLOSED : ℕ
CLOSED = 90

abbrev pub OPEN : ℕ
OPEN = 165

-- a length as 8 bytes, the least one first
unfoldable pub length_bytes : ℕ → List ℕ
length_bytes n = to_le_bytes w64 n

-- a payload after its open gate and its length
abbrev pub batch : List ℕ → List ℕ
batch payload = OPEN ∷ length_bytes (length payload) ++ payload

-- the batches of these payloads, one after the other
abbrev pub batches : List (List ℕ) → List ℕ
batches [] = []
batches (payload ∷ payloads) = batch payload ++ batches payloads

-- The bytes are the batches of these payloads, each of at most `most` bytes, and then a closed gate at the place `last`.
-- Anything may stand after it.
pub record AreBatches (most : ℕ) (payloads : List (List ℕ)) (last : ℕ) (bytes : List ℕ) : Type 0 where
  pub after : List ℕ
  pub spelled : bytes ≡ batches payloads ++ CLOSED ∷ after
  pub last_gate : last ≡ length (batches payloads)
  pub within : All (λ payload. length payload ≤ most) payloads

-- there is nothing at all, and so no batch, or there are batches up to the last gate
abbrev pub HasBatches : ℕ → List (List ℕ) → Option ℕ → List ℕ → Type 0
HasBatches most payloads None bytes = (payloads ≡ []) × (bytes ≡ [])
HasBatches most payloads (Some last) bytes = AreBatches most payloads last bytes

-- whatever a crash may leave has these batches
abbrev pub EachHasBatches : ℕ → List (List ℕ) → Option ℕ → (List ℕ → Type 0) → Type 0
EachHasBatches most payloads last image = (c : List ℕ) → image c → HasBatches most payloads last c

-- a store of exactly these batches, empty or not
abbrev pub IsStore : ℕ → List (List ℕ) → List ℕ → Type 0
IsStore most payloads bytes = (last : Option ℕ) × HasBatches most payloads last bytes

-- a store of these batches, or of these and one of this payload
abbrev pub IsBeforeOrAfter : ℕ → List (List ℕ) → List ℕ → List ℕ → Type 0
IsBeforeOrAfter most payloads payload bytes = IsStore most payloads bytes ⊎ IsStore most (payloads ++ payload ∷ []) bytes

-- what stands after a gate: the length, the payload and the next gate, closed
abbrev pub after_gate : List ℕ → List ℕ
after_gate payload = length_bytes (length payload) ++ payload ++ CLOSED ∷ []

-- Neither a closed gate nor a whole batch begins these bytes. A batch is whole if its payload is of at most `most` bytes and
-- a byte stands after it, the next gate.
pub record IsBroken (most : ℕ) (rest : List ℕ) : Type 0 where
  pub not_closed : (after : List ℕ) → rest ≢ CLOSED ∷ after
  pub not_open : (payload after : List ℕ) (next : ℕ) → length payload ≤ most → rest ≢ batch payload ++ next ∷ after

-- the gate at this place is the first that is neither closed nor that of a whole batch
pub record BreaksAt (most : ℕ) (place : ℕ) (bytes : List ℕ) : Type 0 where
  pub payloads : List (List ℕ)
  pub gate : ℕ
  pub after : List ℕ
  pub spelled : bytes ≡ batches payloads ++ gate ∷ after
  pub at : place ≡ length (batches payloads)
  pub within : All (λ payload. length payload ≤ most) payloads
  pub broken : IsBroken most (gate ∷ after)
