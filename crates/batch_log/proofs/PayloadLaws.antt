-- Why each listed batch has its payload.
use Rattle.std.proofs.Common.{◌≡◌, ℕ, ◌+◌, List, [], ◌∷◌, ◌++◌, length, take, drop, None, Some, refl, sym, ◌∙◌, ap, subst, arith, append_assoc, length-append}
use Rattle.std.proofs.lemmas.List.{take_at, drop_at}
use Rattle.std.specs.List.{AllZip}
use Rattle.batch_log.specs.Batches.{OPEN, CLOSED, length_bytes, batch, batches}
use Rattle.batch_log.specs.Finding.{places}
use Rattle.batch_log.specs.Payloads.{IsThere, EachIsThere}
use Rattle.batch_log.proofs.Writing.{length-length_bytes, length-batch}

-- a batch after some bytes
there : (bytes start payload rest : List ℕ) (at : ℕ) → bytes ≡ start ++ (batch payload ++ rest) → at ≡ length start
    → IsThere bytes (record { gate = at; length = length payload }) payload
there bytes start payload rest at is here =
    let head = start ++ OPEN ∷ length_bytes (length payload) in
    let size : length head ≡ at + 9 = omega (arith, here, length-append start (OPEN ∷ length_bytes (length payload)), length-length_bytes (length payload)) in
    let spelled : bytes ≡ head ++ (payload ++ rest) =
    is ∙ ap (λ (l : List ℕ). start ++ (OPEN ∷ l)) (append_assoc (length_bytes (length payload)) payload rest)
    ∙ sym (append_assoc start (OPEN ∷ length_bytes (length payload)) (payload ++ rest)) in
    let body : drop (at + 9) bytes ≡ payload ++ rest = ap (drop (at + 9)) spelled ∙ drop_at head (payload ++ rest) (at + 9) size in
    record {
      payload_of = sym (ap (take (length payload)) body ∙ take_at payload rest (length payload) refl);
      within = omega (arith, size, ap length spelled, length-append head (payload ++ rest), length-append payload rest);
    }

each_there : (bytes start : List ℕ) (payloads : List (List ℕ)) (rest : List ℕ) (at : ℕ) → bytes ≡ start ++ (batches payloads ++ rest) → at ≡ length start
    → AllZip (IsThere bytes) (places at payloads) payloads
each_there bytes start [] rest at is here = tt
each_there bytes start (payload ∷ payloads) rest at is here =
    let spelled : bytes ≡ start ++ (batch payload ++ (batches payloads ++ rest)) = is ∙ ap (λ (l : List ℕ). start ++ l) (append_assoc (batch payload) (batches payloads) rest) in
    let next : at + 9 + length payload ≡ length (start ++ batch payload) = omega (arith, here, length-append start (batch payload), length-batch payload) in (
      there bytes start payload (batches payloads ++ rest) at spelled here,
      each_there bytes (start ++ batch payload) payloads rest (at + 9 + length payload)
          (spelled ∙ sym (append_assoc start (batch payload) (batches payloads ++ rest))) next,
    )

pub each_is_there : EachIsThere
each_is_there most payloads None bytes has = subst (λ (ps : List (List ℕ)). AllZip (IsThere bytes) (places 0 ps) ps) (sym has.0) tt
each_is_there most payloads (Some last) bytes has = each_there bytes [] payloads (CLOSED ∷ has.after) 0 has.spelled refl
