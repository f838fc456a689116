-- What a write makes of the batches on a disk.
use Rattle.std.proofs.Common.{◌≡◌, inl, inr, ℕ, ◌+◌, ◌≤◌, ◌<◌, List, [], ◌∷◌, ◌++◌, length, take, drop, refl, sym, ◌∙◌, ap, arith, append_assoc, length-append, take-append-drop}
use Rattle.std.proofs.lemmas.List.{append-nil, take_at, drop_at, drop-drop, length-take-le, take-take}
use Rattle.std.proofs.lemmas.List.Elements.{All-push}
use Rattle.outside.specs.Disk.{MayBecome, put_at}
use Rattle.batch_log.specs.Batches.{CLOSED, OPEN, length_bytes, batch, batches, AreBatches, after_gate}

-- what stands before the place of a whole write stays
pub prefix_of_put : (at : ℕ) (bytes old : List ℕ) → at ≤ length old → take at (put_at at bytes old) ≡ take at old
prefix_of_put at bytes old within =
    ap (take at) (append_assoc (take at old) bytes (drop (at + length bytes) old)) ∙ take_at (take at old) _ at (length-take-le at old within)

-- so it does if the write failed or a crash came
pub prefix_stays : (at : ℕ) (bytes old new : List ℕ) → at ≤ length old → MayBecome at bytes old new → take at new ≡ take at old
prefix_stays at [] old new within is = ap (take at) is
prefix_stays at (byte ∷ []) old new within (inl is) = ap (take at) is
prefix_stays at (byte ∷ []) old new within (inr is) = ap (take at) is ∙ prefix_of_put at (byte ∷ []) old within
prefix_stays at (a ∷ b ∷ bytes) old new within torn = torn.before

-- a write over what stands after a prefix
pub put_after_prefix : (at : ℕ) (bytes start after : List ℕ) → length start ≡ at → put_at at bytes (start ++ after) ≡ start ++ (bytes ++ drop (length bytes) after)
put_after_prefix at bytes start after is =
    let dropped : drop (at + length bytes) (start ++ after) ≡ drop (length bytes) after = sym (drop-drop (length bytes) at (start ++ after)) ∙ ap (drop (length bytes)) (drop_at start after at is) in
    (λ i. take_at start after at is i ++ bytes ++ dropped i) ∙ append_assoc start bytes (drop (length bytes) after)

-- the bytes after a place and then the one at it are written as all of them in one go
pub put_gate : (at byte : ℕ) (bytes old : List ℕ) → at < length old → put_at at (byte ∷ []) (put_at (at + 1) bytes old) ≡ put_at at (byte ∷ bytes) old
put_gate at byte bytes old within =
    let mid = put_at (at + 1) bytes old in
    let size : length (take (at + 1) old) ≡ at + 1 = length-take-le (at + 1) old (omega arith) in
    let start : take at mid ≡ take at old =
    sym (take-take at (at + 1) mid (omega arith)) ∙ ap (take at) (prefix_of_put (at + 1) bytes old (omega arith)) ∙ take-take at (at + 1) old (omega arith) in
    let back : drop (at + 1) mid ≡ bytes ++ drop (at + 1 + length bytes) old =
    ap (drop (at + 1)) (append_assoc (take (at + 1) old) bytes (drop (at + 1 + length bytes) old)) ∙ drop_at (take (at + 1) old) _ (at + 1) size in
    let far : at + 1 + length bytes ≡ at + length (byte ∷ bytes) = omega arith in
    (λ i. start i ++ (byte ∷ []) ++ back i) ∙ ap (λ (n : ℕ). take at old ++ (byte ∷ []) ++ (bytes ++ drop n old)) far
    ∙ simp append_assoc

pub batches_push : (payloads : List (List ℕ)) (payload : List ℕ) → batches (payloads ++ payload ∷ []) ≡ batches payloads ++ batch payload
batches_push [] payload = append-nil (batch payload)
batches_push (p ∷ payloads) payload = ap (λ (l : List ℕ). batch p ++ l) (batches_push payloads payload) ∙ sym (append_assoc (batch p) (batches payloads) (batch payload))

pub length-length_bytes : (n : ℕ) → length (length_bytes n) ≡ 8
unfolding length_bytes
length-length_bytes n = refl

pub length-batch : (payload : List ℕ) → length (batch payload) ≡ 9 + length payload
length-batch payload = omega (arith, length-append (length_bytes (length payload)) payload, length-length_bytes (length payload))

pub length_after_gate : (payload : List ℕ) → length (after_gate payload) ≡ 9 + length payload
length_after_gate payload =
    omega (arith, length-append (length_bytes (length payload) ++ payload) (CLOSED ∷ []), length-append (length_bytes (length payload)) payload, length-length_bytes (length payload))

-- the last batch and what stands after it
batch_and_rest : (start payload rest : List ℕ) → start ++ OPEN ∷ (length_bytes (length payload) ++ payload ++ CLOSED ∷ [] ++ rest) ≡ (start ++ batch payload) ++ CLOSED ∷ rest
batch_and_rest start payload rest = simp append_assoc

module _ (most : ℕ) (payloads : List (List ℕ)) (gate : ℕ) where
  -- the bytes up to the last gate decide which batches there are
  pub prefix_decides : (old new : List ℕ) → AreBatches most payloads gate old → take (gate + 1) new ≡ take (gate + 1) old → AreBatches most payloads gate new
  prefix_decides old new before same =
      let start = batches payloads ++ CLOSED ∷ [] in
      let size : length start ≡ gate + 1 = omega (arith, before.last_gate, length-append (batches payloads) (CLOSED ∷ [])) in
      let old_is : old ≡ start ++ before.after = before.spelled ∙ sym (append_assoc (batches payloads) (CLOSED ∷ []) before.after) in
      let first : take (gate + 1) new ≡ start = same ∙ ap (take (gate + 1)) old_is ∙ take_at start before.after (gate + 1) size in
      record {
        after = drop (gate + 1) new;
        spelled = sym (take-append-drop (gate + 1) new) ∙ ap (λ (l : List ℕ). l ++ drop (gate + 1) new) first ∙ append_assoc (batches payloads) (CLOSED ∷ []) (drop (gate + 1) new);
        last_gate = before.last_gate;
        within = before.within;
      }

  pub length-old : (old : List ℕ) → AreBatches most payloads gate old → gate + 1 ≤ length old
  length-old old before = omega (arith, before.last_gate, ap length before.spelled, length-append (batches payloads) (CLOSED ∷ before.after))

  -- a write after the last gate changes no batch
  pub later_write_keeps : (bytes old new : List ℕ) → AreBatches most payloads gate old → MayBecome (gate + 1) bytes old new → AreBatches most payloads gate new
  later_write_keeps bytes old new before step = prefix_decides old new before (prefix_stays (gate + 1) bytes old new (length-old old before) step)

  -- a whole batch over the last gate and what stands after it
  pub opened : (payload old new : List ℕ) → AreBatches most payloads gate old → length payload ≤ most → new ≡ put_at gate (OPEN ∷ after_gate payload) old → AreBatches most (payloads ++ payload ∷ []) (gate + 9 + length payload) new
  opened payload old new before short is =
      let rest = drop (length (after_gate payload)) before.after in
      let whole : new ≡ batches payloads ++ OPEN ∷ (after_gate payload ++ rest) =
      is ∙ ap (put_at gate (OPEN ∷ after_gate payload)) before.spelled
      ∙ put_after_prefix gate (OPEN ∷ after_gate payload) (batches payloads) (CLOSED ∷ before.after) (sym before.last_gate) in
      record {
        after = rest;
        spelled = whole ∙ batch_and_rest (batches payloads) payload rest ∙ ap (λ (l : List ℕ). l ++ CLOSED ∷ rest) (sym (batches_push payloads payload));
        last_gate = omega (arith, before.last_gate, ap length (batches_push payloads payload), length-append (batches payloads) (batch payload), length-batch payload);
        within = All-push (λ (p : List ℕ). length p ≤ most) payloads payload before.within short;
      }
