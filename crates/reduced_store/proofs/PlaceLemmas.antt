-- Batches that were taken in one by one, and the rows that bytes have then.
use Rattle.std.proofs.Common.{◌≡◌, ◌∙◌, Bool, ℕ, zero, suc, ◌+◌, ◌≤◌, ◌<◌, max, List, [], ◌∷◌, ◌++◌, length, get_or, take, drop, Option, Some, None, refl, sym, ap, subst, arith, inl, inr}
use Rattle.std.specs.Option.{unwrap_or}
use Rattle.std.specs.List.{All, AllZip, flat_map}
use Rattle.std.proofs.lemmas.Bool.{cases_lt}
use Rattle.std.proofs.lemmas.List.{append_assoc, drop-drop, drop_at, get_or_append_left, get_or_push, length-append, take-append-drop, take_at}
use Rattle.batch_log.specs.Batches.{HasBatches, batch as batch_bytes, batches}
use Rattle.batch_log.specs.declared.find.Batch.{Batch}
use Rattle.batch_log.specs.Finding.{places}
use Rattle.batch_log.specs.Log.{Log, log_of, next_gate}
use Rattle.batch_log.specs.Payloads.{IsThere}
use Rattle.batch_log.proofs.Writing.{length-batch}
use Rattle.block_cache.specs.Cached.{range}
use Rattle.reach_model.specs.declared.modes.Mode.{Mode}
use Rattle.row_codec.specs.declared.rows.StoreRow.{StoreRow}
use Rattle.row_codec.specs.Payload.{IsPayload, header}
use Rattle.row_codec.specs.Rows.{row as spelling}
use Rattle.saved_rows.specs.Joining.{AreOn}
use Rattle.reduced_store.specs.Held.{Held}
use Rattle.reduced_store.specs.Placing.{AreInBatch, ArePlaced, AreThere, IsSettled, StandOn}

zip_parted : {A B : Type 0} (R : A → B → Type 0) (xs : List A) (ys : List B) (x : A) (y : B) → AllZip R (xs ++ x ∷ []) (ys ++ y ∷ []) → AllZip R xs ys × R x y
zip_parted R [] [] x y all = (tt, all.0)
zip_parted R [] (b ∷ []) x y all = absurd all.1
zip_parted R [] (b ∷ c ∷ ys) x y all = absurd all.1
zip_parted R (a ∷ []) [] x y all = absurd all.1
zip_parted R (a ∷ c ∷ xs) [] x y all = absurd all.1
zip_parted R (a ∷ xs) (b ∷ ys) x y all = let rest = zip_parted R xs ys x y all.1 in ((all.0, rest.0), rest.1)

all_parted : {A : Type 0} (P : A → Type 0) (xs : List A) (x : A) → All P (xs ++ x ∷ []) → All P xs × P x
all_parted P xs x all = (
  λ i d h. subst P (get_or_append_left xs (x ∷ []) d i h) (all i d (omega (arith, h, length-append xs (x ∷ [])))),
  subst P (get_or_push xs x x (length xs) refl) (all (length xs) x (omega (arith, length-append xs (x ∷ [])))),
)

-- what is put after a front stands there
after_front : (bytes front rest : List ℕ) (at n m : ℕ) → front ++ rest ≡ take n (drop at bytes) → length front ≡ m → range (at + m) (length rest) bytes ≡ rest
after_front bytes front rest at n m is long =
    let xs = drop at bytes in
    let whole : xs ≡ front ++ (rest ++ drop n xs) = sym (take-append-drop n xs) ∙ ap (λ (l : List ℕ). l ++ drop n xs) (sym is) ∙ append_assoc front rest (drop n xs) in
    ap (take (length rest)) (sym (drop-drop m at bytes) ∙ ap (drop m) whole ∙ drop_at front (rest ++ drop n xs) m long) ∙ take_at rest (drop n xs) (length rest) refl

pub in_batch : (bytes payload : List ℕ) (batch : Batch) (mode : Mode) (rows : List StoreRow) → IsThere bytes batch payload → IsPayload mode rows payload → AreInBatch bytes batch rows
in_batch bytes payload batch mode rows there is = record {
  fit = is.fit;
  is = ap (λ (n : ℕ). range n (length (flat_map spelling rows)) bytes) (let e : batch.gate + 15 ≡ batch.gate + 9 + 6 = omega arith in e)
      ∙ after_front bytes (header mode) (flat_map spelling rows) (batch.gate + 9) batch.length 6 (sym is.is ∙ there.payload_of) refl;
}

pub payload_long : (payload : List ℕ) (mode : Mode) (rows : List StoreRow) (n : ℕ) → IsPayload mode rows payload → length payload ≡ n → 6 + length (flat_map spelling rows) ≡ n
payload_long payload mode rows n is long = omega (arith, long, ap length is.is, length-append (header mode) (flat_map spelling rows))

-- one batch more
pub placed_more : (listed : List Batch) (payloads : List (List ℕ)) (batch : Batch) (payload : List ℕ) (mode : Mode) (rows : List StoreRow) (old new : Held) → ArePlaced listed payloads old → IsPayload mode rows payload
    → IsSettled new → new.placed.saved.cache.firm ≡ max old.placed.saved.cache.firm (batch.gate + 9 + batch.length) → ((bytes : List ℕ) → AreOn bytes old.placed → AreInBatch bytes batch rows → AreOn bytes new.placed)
    → ArePlaced (listed ++ batch ∷ []) (payloads ++ payload ∷ []) new
placed_more listed payloads batch payload mode rows old new placed is settled firm there = record {
  settled = settled;
  there = λ bytes are. let parts = zip_parted (IsThere bytes) listed payloads batch payload are in there bytes (placed.there bytes parts.0) (in_batch bytes payload batch mode rows parts.1 is);
  firm = λ end all. let parts = all_parted (λ (b : Batch). b.gate + 9 + b.length ≤ end) listed batch all in let before = placed.firm end parts.0 in let last = parts.1 in omega (arith, firm, before, last);
}

pub placed_none : (held : Held) → IsSettled held → ((bytes : List ℕ) → AreOn bytes held.placed) → held.placed.saved.cache.firm ≡ 0 → ArePlaced [] [] held
placed_none held settled on firm = record { settled = settled; there = λ bytes are. on bytes; firm = λ end all. omega (arith, firm) }

-- all batches end before the last gate
ends_within : (at end : ℕ) (payloads : List (List ℕ)) → at + length (batches payloads) ≤ end → All (λ (b : Batch). b.gate + 9 + b.length ≤ end) (places at payloads)
ends_within at end [] le = λ i d h. absurd (omega (arith, h))
ends_within at end (payload ∷ payloads) le =
    let long : length (batches (payload ∷ payloads)) ≡ 9 + length payload + length (batches payloads) = omega (arith, length-append (batch_bytes payload) (batches payloads), length-batch payload) in
    at_each (omega (arith, le, long)) (ends_within (at + 9 + length payload) end payloads (omega (arith, le, long)))
  where
    at_each : at + 9 + length payload ≤ end → All (λ (b : Batch). b.gate + 9 + b.length ≤ end) (places (at + 9 + length payload) payloads)
        → (i : ℕ) (d : Batch) → i < length (places at (payload ∷ payloads)) → (get_or (places at (payload ∷ payloads)) i d).gate + 9 + (get_or (places at (payload ∷ payloads)) i d).length ≤ end
    at_each first rest zero d h = first
    at_each first rest (suc i) d h = rest i d (omega (arith, h))

pub ends_by : (most : ℕ) (payloads : List (List ℕ)) (last : Option ℕ) (bytes : List ℕ) (log : Log) → log.last ≡ last → HasBatches most payloads last bytes → All (λ (b : Batch). b.gate + 9 + b.length ≤ next_gate log) (places 0 payloads)
ends_by most payloads None bytes log is has = subst (λ (ps : List (List ℕ)). All (λ (b : Batch). b.gate + 9 + b.length ≤ next_gate log) (places 0 ps)) (sym has.0) (λ i d h. absurd (omega (arith, h)))
ends_by most payloads (Some gate) bytes log is has =
    let gate_is : next_gate log ≡ gate = ap (λ (o : Option ℕ). unwrap_or o 0) is in
    ends_within 0 (next_gate log) payloads (omega (arith, gate_is, has.last_gate))

-- the rows of a store that was read stand on its disk
pub stand_on : (most : ℕ) (payloads : List (List ℕ)) (bytes : List ℕ) (log : Log) (listed : List Batch) (held : Held) → HasBatches most payloads log.last bytes → listed ≡ places 0 payloads
    → AreThere bytes listed payloads → ArePlaced listed payloads held → StandOn bytes log held
stand_on most payloads bytes log listed held has is there placed = record {
  settled = placed.settled;
  on = placed.there bytes there;
  firm = placed.firm (next_gate log) (subst (All (λ (b : Batch). b.gate + 9 + b.length ≤ next_gate log)) (sym is) (ends_by most payloads log.last bytes log refl has));
}

-- rows that were judged
pub judged : (listed : List Batch) (payloads : List (List ℕ)) (old new : Held) (lawful : Bool) → new ≡ record old { lawful = lawful } → ArePlaced listed payloads old → ArePlaced listed payloads new
judged listed payloads old new lawful is placed =
    subst (ArePlaced listed payloads) (sym is) (record {
      settled = record { recent = placed.settled.recent; none = placed.settled.none; saved = placed.settled.saved };
      there = placed.there;
      firm = placed.firm;
    })
