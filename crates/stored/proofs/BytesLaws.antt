-- The store that the bytes are, once a payload more is in them.
use Rattle.std.proofs.Common.{ℕ, length, List, [], ◌∷◌, ◌++◌, ◌⊎◌, inl, inr}
use Rattle.std.specs.List.{AllZip}
use Rattle.batch_log.specs.Batches.{IsStore, IsBeforeOrAfter}
use Rattle.reach_model.specs.declared.modes.Mode.{Mode}
use Rattle.reach_model.specs.Numbers.{IsLawfulWith}
use Rattle.acts.specs.Flows.{acts_of, flows, objects}
use Rattle.row_codec.specs.declared.rows.StoreRow.{StoreRow}
use Rattle.store_check.specs.Conditions.{Bounds}
use Rattle.stored.specs.Moment.{Moment}
use Rattle.stored.specs.Batch.{IsCommitOf}
use Rattle.row_codec.specs.Payload.{IsPayload}
use Rattle.stored.specs.Bytes.{IsStoreOf}
use Rattle.stored.specs.Going.{MayCommit}
use Rattle.stored.proofs.Whole.{AreFewLives, commit_stored}
use Rattle.acts.proofs.Entering.{AreOne}

zip_push : {A B : Type 0} (R : A → B → Type 0) (xs : List A) (ys : List B) (x : A) (y : B) → AllZip R xs ys → R x y → AllZip R (xs ++ x ∷ []) (ys ++ y ∷ [])
zip_push R [] [] x y all is = (is, tt)
zip_push R [] (b ∷ ys) x y all is = absurd all
zip_push R (a ∷ xs) [] x y all is = absurd all
zip_push R (a ∷ xs) (b ∷ ys) x y all is = (all.0, zip_push R xs ys x y all.1 is)

pub bytes_next : (text : List ℕ → List ℕ) (names most : ℕ) (bounds : Bounds) (mode : Mode) (bytes after payload : List ℕ) (batch : List StoreRow) (m0 m : Moment) → AreOne → AreFewLives → IsLawfulWith (length (objects (acts_of m.taken))) (flows m.taken) → (s : IsStoreOf text names most bounds mode bytes m0)
    → (c : IsCommitOf text names mode m0 m batch) → MayCommit bounds m0 m → IsPayload mode batch payload → IsStore most (s.payloads ++ payload ∷ []) after → IsStoreOf text names most bounds mode after m
bytes_next text names most bounds mode bytes after payload batch m0 m one lives lawful s c may is store = record {
  batches = s.batches ++ batch ∷ [];
  payloads = s.payloads ++ payload ∷ [];
  spelled = zip_push (IsPayload mode) s.batches s.payloads batch payload s.spelled is;
  store = store;
  stored = commit_stored text names bounds mode s.batches batch m0 m one lives lawful s.stored c may.fits may.few may.ends;
}

-- a store of the batches from before, or of these and the new one
pub image_next : (text : List ℕ → List ℕ) (names most : ℕ) (bounds : Bounds) (mode : Mode) (bytes image payload : List ℕ) (batch : List StoreRow) (m0 m : Moment) → AreOne → AreFewLives → IsLawfulWith (length (objects (acts_of m.taken))) (flows m.taken) → (s : IsStoreOf text names most bounds mode bytes m0)
    → (c : IsCommitOf text names mode m0 m batch) → MayCommit bounds m0 m → IsPayload mode batch payload → IsBeforeOrAfter most s.payloads payload image → IsStoreOf text names most bounds mode image m0 ⊎ IsStoreOf text names most bounds mode image m
image_next text names most bounds mode bytes image payload batch m0 m one lives lawful s c may is (inl old) = inl (record { batches = s.batches; payloads = s.payloads; spelled = s.spelled; store = old; stored = s.stored })
image_next text names most bounds mode bytes image payload batch m0 m one lives lawful s c may is (inr new) = inr (bytes_next text names most bounds mode bytes image payload batch m0 m one lives lawful s c may is new)
