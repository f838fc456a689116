-- What an opened store has, from what was read of its disk.
use Rattle.std.proofs.Common.{◌≡◌, ◌∙◌, sym, ap, subst, true, ◌↔◌, Bool, ℕ, List, Option, Result, Ok, Err}
use Rattle.std.specs.Result.{IfOk, IfErr}
use Rattle.flow_base.specs.declared.limits.Limits.{Limits}
use Rattle.reach_model.specs.declared.modes.Mode.{Mode}
use Rattle.outside.specs.Disk.{DiskState, OnlyLooks}
use Rattle.batch_log.specs.Batches.{HasBatches}
use Rattle.batch_log.specs.Log.{Log, LogHas, log_of}
use Rattle.store_check.specs.Conditions.{Bounds, bounds_of}
use Rattle.reduced_store.specs.Opening.{BeginsLast, IsStoreRead}
use Rattle.reduced_store.specs.Reading.{IsFound, IsOfMode}
use Rattle.reduced_store.specs.Filling.{AreApart}
use Rattle.store_check.specs.Store.{rows_of}
use Rattle.stored.specs.Words.{all_of}
use Rattle.reduced_store.specs.Stores.{FindsSame, disk_after, found_of, IsOpenedOver, Agree, Differ, IsWrong, IsOfWrongMode}
use Rattle.reduced_store.specs.declared.reading.Found.{Found}
use Rattle.reduced_store.specs.declared.opened.OpenFault.{OpenFault}
use Rattle.reduced_store.specs.declared.opened.OpenFault.TheVariants.{StoreFault, BadStore, WrongMode, NoMemory}
use Rattle.reduced_store.specs.declared.opened.Opened.{Opened}
use Rattle.reduced_store.specs.declared.opened.Unopened.{Unopened}

-- the modes of a fault
abbrev kept_in : Mode → OpenFault → Mode
kept_in d StoreFault = d
kept_in d (BadStore place) = d
kept_in d (WrongMode m n) = m
kept_in d NoMemory = d

abbrev asked_in : Mode → OpenFault → Mode
asked_in d StoreFault = d
asked_in d (BadStore place) = d
asked_in d (WrongMode m n) = n
asked_in d NoMemory = d

pub opened_last : {D : Type 0} (limits : Limits) (bytes : List ℕ) (last : Option ℕ) (result : Result (Opened D) (Unopened D)) → IfOk result (λ opened. opened.last ≡ last)
    → BeginsLast limits bytes last → IfOk result (λ opened. BeginsLast limits bytes opened.last)
opened_last limits bytes last (Ok opened) is begins = subst (BeginsLast limits bytes) (sym is) begins
opened_last limits bytes last (Err back) is begins = is

-- what differs in room alone
still_found : (bounds : Bounds) (payloads : List (List ℕ)) (old new : Found) → FindsSame old new → IsFound bounds payloads old → IsFound bounds payloads new
still_found bounds payloads old new same is = record {
  batches = is.batches;
  mode = subst (IsOfMode bounds is.batches payloads) (sym same.mode) is.mode;
  rows = same.rows ∙ is.rows;
  sound = is.sound;
  lawful = subst (λ (b : Bool). (b ≡ true) ↔ AreApart (rows_of (all_of is.batches))) (sym same.lawful) is.lawful;
  others = same.others ∙ is.others;
}

module _ {D : Type 0} (log : Log) (found : Found) where
  -- an opened store, made of what was read
  abbrev pub IsMade : Opened D → Type 0
  IsMade opened = (opened.store.log ≡ log) × FindsSame found (found_of opened)

  pub opened_over : (limits : Limits) (bytes : List ℕ) (result : Result (Opened D) (Unopened D)) → IfOk result IsMade
      → IsStoreRead limits bytes (log, found) → IfOk result (IsOpenedOver limits bytes)
  opened_over limits bytes (Ok opened) made read =
      let whole = subst (λ l. IsStoreRead limits bytes (l, found)) (sym made.0) read in (whole.0, whole.1, still_found (bounds_of limits) whole.0 found (found_of opened) made.1 whole.2)
  opened_over limits bytes (Err back) made read = made

  pub opened_found : (bounds : Bounds) (result : Result (Opened D) (Unopened D)) → IfOk result IsMade
      → (payloads : List (List ℕ)) × IsFound bounds payloads found → IfOk result (λ opened. (payloads : List (List ℕ)) × IsFound bounds payloads (found_of opened))
  opened_found bounds (Ok opened) made some = (some.0, still_found bounds some.0 found (found_of opened) made.1 some.1)
  opened_found bounds (Err back) made some = made

  pub opened_agree : (asked : Option Mode) (result : Result (Opened D) (Unopened D)) → IfOk result IsMade
      → IfOk result (λ opened. Agree found.mode asked) → IfOk result (λ opened. Agree opened.mode asked)
  opened_agree asked (Ok opened) made agree = subst (λ m. Agree m asked) (sym made.1.mode) agree
  opened_agree asked (Err back) made agree = made

  pub refused_wrong : (limits : Limits) (bytes : List ℕ) (asked : Option Mode) (kept want : Mode) (result : Result (Opened D) (Unopened D))
      → IfErr result (λ back. IsWrong found.mode asked back.fault) → IsStoreRead limits bytes (log, found) → found.rows.lawful ≡ true
      → IfErr result (λ back. back.fault ≡ WrongMode kept want → IsOfWrongMode limits bytes asked kept want)
  refused_wrong limits bytes asked kept want (Ok opened) wrong read lawful = wrong
  refused_wrong limits bytes asked kept want (Err back) wrong read lawful = λ is.
      let m = wrong.0 in
      let n = wrong.1 in
      let one : WrongMode m n ≡ WrongMode kept want = sym wrong.2 ∙ is in
      record {
        read = (log, found);
        is = read;
        lawful = lawful;
        differ = subst (λ x. Differ found.mode asked x want) (ap (kept_in m) one) (subst (λ x. Differ found.mode asked m x) (ap (asked_in n) one) wrong.3);
      }

  -- an opened store has its disk's batches
  pub opened_stands : (state : D → DiskState) (limits : Limits) (before after : D) (result : Result (Opened D) (Unopened D)) → (state before).told → IfOk result IsMade
      → IsStoreRead limits (state before).reads (log, found) → log ≡ log_of limits log.last → OnlyLooks (state before) (state after) → disk_after result ≡ after
      → IfOk result (λ opened. (payloads : List (List ℕ)) × LogHas opened.store.log payloads (state opened.store.disk).reads)
  opened_stands state limits before after (Ok opened) told made read log_is looks is =
      let has : LogHas log read.0 (state before).reads = subst (λ (n : ℕ). HasBatches n read.0 log.last (state before).reads) (sym (ap (λ (l : Log). l.most) log_is)) read.1 in
      let now = subst (LogHas log read.0) (sym (looks.same told)) has in
      (read.0, subst (λ d. LogHas opened.store.log read.0 (state d).reads) (sym is) (subst (λ l. LogHas l read.0 (state after).reads) (sym made.0) now))
  opened_stands state limits before after (Err back) told made read log_is looks is = made
