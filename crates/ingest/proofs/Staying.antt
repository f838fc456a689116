-- What of a store stays while its disk is only looked at.
use Rattle.std.proofs.Common.{◌≡◌, ◌∙◌, sym, ap, subst, ℕ, List}
use Rattle.flow_base.specs.declared.limits.Limits.{Limits}
use Rattle.outside.specs.Disk.{DiskState}
use Rattle.audit_lex.specs.History.{History}
use Rattle.batch_log.specs.Log.{EachHas, Log, LogHas}
use Rattle.kept_flows.specs.Committing.{CanCommit}
use Rattle.reach_model.specs.declared.modes.Mode.{Mode}
use Rattle.reach_model.specs.Rows.{Row, Keeps}
use Rattle.reduced_store.specs.OnDisk.{OnDisk, SameBut}
use Rattle.ingest.specs.Events.{events_of, flows_in}
use Rattle.ingest.specs.Parts.{Engine}
use Rattle.ingest.specs.Saving.{IsSaved}
use Rattle.ingest.specs.Storing.{StoresHistory}

module _ {D : Type 0} (state : D → DiskState) (faults : D → ℕ) (spent : D → Type 0) where
  abbrev has_batches : List ℕ → Log → Type 0
  has_batches reads log = (payloads : List (List ℕ)) × LogHas log payloads reads

  pub can_still : (old new : OnDisk D) → SameBut state faults spent old new → CanCommit state old → CanCommit state new
  can_still old new same can = record {
    usable = ap (λ (l : Log). l.usable) same.log ∙ can.usable;
    stands = λ now.
        let told = same.disk.uses.told_before now in
        subst (λ (l : Log). has_batches (state new.disk).reads l) (sym same.log)
        (subst (λ (b : List ℕ). has_batches b old.log) (sym (same.disk.looks.same told)) (can.stands told));
  }

  module _ (limits : Limits) (mode : Mode) (h : History) (part : ℕ) where
    abbrev stores_with : (List ℕ → Type 0) → List ℕ → Log → Type 0
    stores_with image reads log =
        (s : StoresHistory limits mode reads h part) × LogHas log s.store.payloads reads × EachHas log s.store.payloads image

    pub saved_still : (old new : Engine (OnDisk D)) → (state old.joined.keep.disk).told → SameBut state faults spent old.joined.keep new.joined.keep
        → new.joined.tables.marked ≡ old.joined.tables.marked → IsSaved state limits mode old h part → IsSaved state limits mode new h part
    saved_still old new told same marked saved =
        let was = state old.joined.keep.disk in
        let is = state new.joined.keep.disk in
        let looked : stores_with is.image was.reads old.joined.keep.log = (saved.stores, saved.log, λ c left. saved.image c (same.disk.looks.image c left)) in
        let stores : stores_with is.image is.reads new.joined.keep.log =
        subst (λ (l : Log). stores_with is.image is.reads l) (sym same.log)
        (subst (λ (b : List ℕ). stores_with is.image b old.joined.keep.log) (sym (same.disk.looks.same told)) looked) in
        record {
          stores = stores.0;
          log = stores.1;
          image = stores.2;
          most = ap (λ (l : Log). l.most) same.log ∙ saved.most;
          end = ap (λ (l : Log). l.end) same.log ∙ saved.end;
          saved = subst (λ (R : List Row). Keeps mode (flows_in limits (events_of limits h)) R) (sym same.saved) saved.saved;
          marked = marked ∙ saved.marked;
        }
