-- What is known of a disk while its batches are read.
use Rattle.std.proofs.Common.{◌≡◌, ℕ, ◌+◌, ◌<◌, ◌≤◌, List, [], ◌∷◌, ◌++◌, length, drop, sym, ◌∙◌, ap, subst, arith, append_assoc, length-append}
use Rattle.std.proofs.lemmas.List.{drop_at}
use Rattle.std.proofs.lemmas.List.Elements.{All-push}
use Rattle.std.specs.List.{All}
use Rattle.batch_log.specs.declared.find.Batch.{Batch}
use Rattle.batch_log.specs.declared.find.Found.{Found}
use Rattle.batch_log.specs.declared.find.Found.TheVariants.{Open, Broken}
use Rattle.batch_log.specs.Batches.{batch, batches, IsBroken, BreaksAt}
use Rattle.batch_log.specs.Finding.{places, Begins, Finds}
use Rattle.batch_log.proofs.Writing.{batches_push, length-batch}

-- the batches up to a gate are these
pub record Known (most : ℕ) (bytes : List ℕ) (gate : ℕ) (listed : List Batch) : Type 0 where
  pub payloads : List (List ℕ)
  pub rest : List ℕ
  pub spelled : bytes ≡ batches payloads ++ rest
  pub at : gate ≡ length (batches payloads)
  pub within : All (λ payload. length payload ≤ most) payloads
  pub list : listed ≡ places 0 payloads

-- one more batch is listed at its gate
places_push : (at : ℕ) (payloads : List (List ℕ)) (payload : List ℕ) (gate n : ℕ) → gate ≡ at + length (batches payloads) → length payload ≡ n
    → places at (payloads ++ payload ∷ []) ≡ places at payloads ++ (record { gate = gate; length = n }) ∷ []
places_push at [] payload gate n is long =
    let here : at ≡ gate = omega (arith, is) in
    λ i. record { gate = here i; length = long i } ∷ []
places_push at (p ∷ payloads) payload gate n is long =
    ap (λ (l : List Batch). record { gate = at; length = length p } ∷ l)
    (places_push (at + 9 + length p) payloads payload gate n (omega (arith, is, length-append (batch p) (batches payloads), length-batch p)) long)

module _ (most : ℕ) (bytes : List ℕ) (gate : ℕ) (listed : List Batch) (known : Known most bytes gate listed) where
  rest_is : drop gate bytes ≡ known.rest
  rest_is = ap (drop gate) known.spelled ∙ drop_at (batches known.payloads) known.rest gate (sym known.at)

  more : (n : ℕ) → Begins most n (drop gate bytes) → Known most bytes (gate + (9 + n)) (listed ++ (record { gate = gate; length = n }) ∷ [])
  more n next =
      let payloads = known.payloads ++ next.payload ∷ [] in
      let spelled : bytes ≡ batches payloads ++ next.next ∷ next.after =
      known.spelled ∙ ap (λ (l : List ℕ). batches known.payloads ++ l) (sym rest_is ∙ next.spelled)
      ∙ sym (append_assoc (batches known.payloads) (batch next.payload) (next.next ∷ next.after))
      ∙ ap (λ (l : List ℕ). l ++ next.next ∷ next.after) (sym (batches_push known.payloads next.payload)) in
      record {
        payloads = payloads;
        rest = next.next ∷ next.after;
        spelled = spelled;
        at = omega (arith, known.at, next.long, ap length (batches_push known.payloads next.payload), length-append (batches known.payloads) (batch next.payload), length-batch next.payload);
        within = All-push (λ (p : List ℕ). length p ≤ most) known.payloads next.payload known.within (omega (arith, next.long, next.short));
        list = ap (λ (l : List Batch). l ++ (record { gate = gate; length = n }) ∷ []) known.list
            ∙ sym (places_push 0 known.payloads next.payload gate n (omega (arith, known.at)) next.long);
      }

  breaks : (rest : List ℕ) → rest ≡ known.rest → 0 < length rest → IsBroken most rest → BreaksAt most gate bytes
  breaks [] is some broken = absurd (omega (arith, some))
  breaks (byte ∷ after) is some broken = record {
    payloads = known.payloads;
    gate = byte;
    after = after;
    spelled = known.spelled ∙ ap (λ (l : List ℕ). batches known.payloads ++ l) (sym is);
    at = known.at;
    within = known.within;
    broken = broken;
  }

  -- the look at a gate found a batch
  pub known_more : (found : Found) (n : ℕ) (list : List Batch) → Finds most (drop gate bytes) found → found ≡ Open n
      → list ≡ listed ++ (record { gate = gate; length = n }) ∷ [] → Known most bytes (gate + (9 + n)) list
  known_more found n list finds is pushed =
      subst (Known most bytes (gate + (9 + n))) (sym pushed) (more n (subst (Finds most (drop gate bytes)) is finds))

  -- it found neither
  pub known_broken : (found : Found) → gate < length bytes → Finds most (drop gate bytes) found → found ≡ Broken → BreaksAt most gate bytes
  known_broken found within finds is =
      let some : 0 < length (drop gate bytes) = omega (arith, ap length rest_is, ap length known.spelled, length-append (batches known.payloads) known.rest, known.at, within) in
      breaks (drop gate bytes) rest_is some (subst (Finds most (drop gate bytes)) is finds)
