-- Where the payload of a listed batch stands.
use Rattle.std.specs.Prelude.{◌≡◌, ◌≤◌, ◌<◌, ◌+◌, ◌^◌, ℕ, List, length, take, drop, Option}
use Rattle.std.specs.List.{AllZip}
use Rattle.batch_log.specs.declared.find.Batch.{Batch}
use Rattle.batch_log.specs.Batches.{HasBatches}
use Rattle.batch_log.specs.Finding.{places}

-- a batch whose end has a place of 64 bits
abbrev pub Fits : Batch → Type 0
Fits batch = batch.gate + 9 + batch.length < 2 ^ 64

-- the bytes after a batch's length, as many as that says
abbrev pub IsPayloadOf : Batch → List ℕ → List ℕ → Type 0
IsPayloadOf batch bytes payload = payload ≡ take batch.length (drop (batch.gate + 9) bytes)

-- the bytes have all of a batch, and this payload in it
pub record IsThere (bytes : List ℕ) (batch : Batch) (payload : List ℕ) : Type 0 where
  pub payload_of : IsPayloadOf batch bytes payload
  pub within : batch.gate + 9 + batch.length ≤ length bytes

-- each batch of a store is there with its payload
abbrev pub EachIsThere : Type 0
EachIsThere = (most : ℕ) (payloads : List (List ℕ)) (last : Option ℕ) (bytes : List ℕ) → HasBatches most payloads last bytes
    → AllZip (IsThere bytes) (places 0 payloads) payloads
