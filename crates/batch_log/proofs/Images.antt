-- What a crash leaves of the batches while one is put down.
use Rattle.std.proofs.Common.{◌≡◌, inl, inr, ℕ, ◌+◌, ◌≤◌, List, [], ◌∷◌, ◌++◌, length, take, Option, unwrap_or, None, Some, refl, sym, ◌∙◌, ap, subst, arith, Result, Ok, Err}
use Rattle.std.proofs.lemmas.List.{drop_all}
use Rattle.std.specs.Prelude.{⊤}
use Rattle.std.specs.Result.{OnOk}
use Rattle.batch_log.specs.declared.log.CommitFault.{CommitFault}
use Rattle.batch_log.specs.Log.{Log, next_gate, log_after, LogHas}
use Rattle.outside.specs.Disk.{DiskState, Only, LeavesOnly, MayBecome, put_at}
use Rattle.outside.proofs.Moments.{leaves_more}
use Rattle.batch_log.specs.Batches.{CLOSED, OPEN, AreBatches, after_gate, IsBeforeOrAfter, HasBatches}
use Rattle.batch_log.proofs.Writing.{prefix_of_put, prefix_decides, length-old, later_write_keeps, put_gate, opened}

module _ (most : ℕ) (payloads : List (List ℕ)) (gate : ℕ) (payload : List ℕ) where
  -- while what belongs after the gate is written
  pub staging_leaves : (old mid : DiskState) (staged : List ℕ) → ((c : List ℕ) → old.image c → AreBatches most payloads gate c)
      → LeavesOnly old mid (λ c. (d : List ℕ) × old.image d × MayBecome (gate + 1) staged d c)
      → LeavesOnly old mid (IsBeforeOrAfter most payloads payload)
  staging_leaves old mid staged each so_far =
      leaves_more old mid _ (IsBeforeOrAfter most payloads payload) so_far (λ c from. inl (Some gate, later_write_keeps most payloads gate staged from.0 c (each from.0 from.1) from.2))

  one_gate : (old mid c : List ℕ) → AreBatches most payloads gate old → length payload ≤ most → mid ≡ put_at (gate + 1) (after_gate payload) old
      → MayBecome gate (OPEN ∷ []) mid c → IsBeforeOrAfter most payloads payload c
  one_gate old mid c before short is (inl same) =
      inl (Some gate, prefix_decides most payloads gate old c before (ap (take (gate + 1)) (same ∙ is) ∙ prefix_of_put (gate + 1) (after_gate payload) old (length-old most payloads gate old before)))
  one_gate old mid c before short is (inr put) =
      inr (
        Some (gate + 9 + length payload),
        opened most payloads gate payload old c before short
            (put ∙ ap (put_at gate (OPEN ∷ [])) is ∙ put_gate gate OPEN (after_gate payload) old (omega (arith, length-old most payloads gate old before))),
      )

  -- while the gate is opened
  pub opening_leaves : (old mid new : DiskState) → AreBatches most payloads gate old.reads → length payload ≤ most
      → mid.reads ≡ put_at (gate + 1) (after_gate payload) old.reads → Only mid.reads mid.image
      → LeavesOnly mid new (λ c. (d : List ℕ) × mid.image d × MayBecome gate (OPEN ∷ []) d c)
      → LeavesOnly mid new (IsBeforeOrAfter most payloads payload)
  opening_leaves old mid new before short is only so_far =
      leaves_more mid new _ (IsBeforeOrAfter most payloads payload) so_far (λ c from.
      one_gate old.reads mid.reads c before short is (subst (λ (d : List ℕ). MayBecome gate (OPEN ∷ []) d c) (only from.0 from.1) from.2))

-- a first gate and no batch
pub no_batch : (most : ℕ) → AreBatches most [] 0 (CLOSED ∷ [])
no_batch most = record { after = []; spelled = refl; last_gate = refl; within = λ k d here. absurd (omega arith) }

module _ (most : ℕ) (payload : List ℕ) where
  at_first : (c : List ℕ) → MayBecome 0 (CLOSED ∷ []) [] c → IsBeforeOrAfter most [] payload c
  at_first c (inl same) = inl (None, (refl, same))
  at_first c (inr put) = inl (Some 0, subst (AreBatches most [] 0) (sym put) (no_batch most))

  -- while the first gate is written
  pub first_gate_leaves : (old mid : DiskState) → Only [] old.image → LeavesOnly old mid (λ c. (d : List ℕ) × old.image d × MayBecome 0 (CLOSED ∷ []) d c) → LeavesOnly old mid (IsBeforeOrAfter most [] payload)
  first_gate_leaves old mid empty so_far = leaves_more old mid _ (IsBeforeOrAfter most [] payload) so_far (λ c from.
      at_first c (subst (λ (d : List ℕ). MayBecome 0 (CLOSED ∷ []) d c) (empty from.0 from.1) from.2))

-- after the first gate was written
pub after_first_gate : (most : ℕ) (old mid : DiskState) → old.reads ≡ [] → mid.reads ≡ put_at 0 (CLOSED ∷ []) old.reads → Only mid.reads mid.image → (c : List ℕ) → mid.image c → AreBatches most [] 0 c
after_first_gate most old mid empty is only c now =
    subst (AreBatches most [] 0) (sym (only c now ∙ is ∙ ap (put_at 0 (CLOSED ∷ [])) empty)) (no_batch most)

-- the first batch over an empty disk stands as it would over a first gate
over_nothing : (byte gate : ℕ) (bytes : List ℕ) → put_at 0 (byte ∷ bytes) [] ≡ put_at 0 (byte ∷ bytes) (gate ∷ [])
over_nothing byte gate bytes =
    let n = 0 + length (byte ∷ bytes) in
    ap (λ (l : List ℕ). (byte ∷ bytes) ++ l) (drop_all n [] (omega arith) ∙ sym (drop_all n (gate ∷ []) (omega arith)))

-- what a commit leaves if nothing failed
pub added : (most : ℕ) (payloads : List (List ℕ)) (last : Option ℕ) (payload old new : List ℕ) → HasBatches most payloads last old → length payload ≤ most
    → new ≡ put_at (unwrap_or last 0) (OPEN ∷ after_gate payload) old
    → HasBatches most (payloads ++ payload ∷ []) (Some (unwrap_or last 0 + 9 + length payload)) new
added most payloads (Some gate) payload old new before short is = opened most payloads gate payload old new before short is
added most payloads None payload old new before short is =
    let over : new ≡ put_at 0 (OPEN ∷ after_gate payload) (CLOSED ∷ []) = is ∙ ap (put_at 0 (OPEN ∷ after_gate payload)) before.1 ∙ over_nothing OPEN CLOSED (after_gate payload) in
    subst (λ (ps : List (List ℕ)). AreBatches most (ps ++ payload ∷ []) (0 + 9 + length payload) new) (sym before.0)
    (opened most [] 0 payload (CLOSED ∷ []) new (no_batch most) short over)

pub adds_when_ok : (r : Result ⊤ CommitFault) (log now : Log) (payloads : List (List ℕ)) (payload old new : List ℕ)
    → now ≡ log_after log (9 + length payload) r → LogHas log payloads old → length payload ≤ log.most
    → OnOk r (new ≡ put_at (next_gate log) (OPEN ∷ after_gate payload) old) → OnOk r (LogHas now (payloads ++ payload ∷ []) new)
adds_when_ok (Err e) log now payloads payload old new is before short written = tt
adds_when_ok (Ok done) log now payloads payload old new is before short written =
    let next = next_gate log in
    let at : next + 9 + length payload ≡ next + (9 + length payload) = omega arith in
    let last : HasBatches log.most (payloads ++ payload ∷ []) (Some (next + (9 + length payload))) new =
    subst (λ (n : ℕ). HasBatches log.most (payloads ++ payload ∷ []) (Some n) new) at (added log.most payloads log.last payload old new before short written) in
    subst (λ (l : Log). LogHas l (payloads ++ payload ∷ []) new) (sym is) last
