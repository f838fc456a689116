-- Why an engine wasn't made again, by what was wrong with its rows.
use Rattle.std.proofs.Common.{◌≡◌, ◌∙◌, sym, subst, refl, ap, ℕ}
use Rattle.std.specs.Prelude.{Result, Ok, Err, IfErr}
use Rattle.flow_base.specs.declared.limits.Full.{Full}
use Rattle.flow_base.specs.declared.limits.Limits.{Limits}
use Rattle.outside.specs.Disk.{DiskState, IsDisk}
use Rattle.query_walk.specs.Fault.{IsWalkOver}
use Rattle.query_walk.specs.declared.fault.WalkFault.{WalkFault}
use Rattle.query_walk.specs.declared.fault.WalkFault.TheVariants as walk
use Rattle.reduced_store.specs.OnDisk.{OnDisk, seen_rows}
use Rattle.reduced_store.specs.declared.opened.Opened.{Opened}
use Rattle.ingest.specs.Restoring.{FaultRose, IsBadWaiting, IsHidden, IsOfReading, IsOther, IsPastInput, unread}
use Rattle.ingest.specs.declared.restoring.RestoreFault.{RestoreFault}
use Rattle.ingest.specs.declared.restoring.RestoreFault.TheVariants as fault
use Rattle.ingest.specs.declared.restoring.Unrestored.{Unrestored}
use Rattle.ingest.proofs.Told.{rows_hidden}

-- a store fault is one of a walk
of_fault : (why : WalkFault) → unread why ≡ fault.StoreFault → why ≡ walk.StoreFault
of_fault walk.StoreFault is = refl
of_fault (walk.BadStore place) is = absurd (cc is)
of_fault walk.NoMemory is = absurd (cc is)

-- a row that isn't there is one that a walk missed
of_row : (why : WalkFault) (place : ℕ) → unread why ≡ fault.BadRow place → why ≡ walk.BadStore place
of_row walk.StoreFault place is = absurd (cc is)
of_row (walk.BadStore p) place is = cc is
of_row walk.NoMemory place is = absurd (cc is)

-- a walk finds nothing bad that waits
never_bad : (why : WalkFault) (place : ℕ) → unread why ≡ fault.BadStore place → ⊥
never_bad walk.StoreFault place is = cc is
never_bad (walk.BadStore p) place is = cc is
never_bad walk.NoMemory place is = cc is

-- nor is anything full
never_full : (why : WalkFault) (full : Full) → unread why ≡ fault.Full full → ⊥
never_full walk.StoreFault full is = cc is
never_full (walk.BadStore p) full is = cc is
never_full walk.NoMemory full is = cc is

module _ {D : Type 0} (state : D → DiskState) (faults : D → ℕ) (spent : D → Type 0) (old : OnDisk D) (back : Unrestored (OnDisk D)) (why : WalkFault) (is : back.why ≡ unread why)
    (walks : IsWalkOver {W = OnDisk D} {T = OnDisk D} (seen_rows state) (λ s. faults s.disk) (λ s. spent s.disk) old back.keep (Err why)) where
  -- a read failed only if the count of the disk's faults rose
  pub fault_rose : FaultRose faults spent old back
  fault_rose = λ failed. walks.store_fault (ap Err (of_fault why (sym is ∙ failed)))

  -- a row is missing only from a disk that isn't observable
  pub row_hidden : IsDisk (state old.disk) → IsHidden state old back
  row_hidden disk = λ place missing told. rows_hidden state old disk (walks.bad_store place (ap Err (of_row why place (sym is ∙ missing)))) told

-- want of memory is no fault of a read
pub of_memory : {T : Type 0} (r : Result T RestoreFault) (why : RestoreFault) → r ≡ Err why → why ≡ fault.NoMemory → IfErr r IsOther
of_memory {T} r why is none = subst (λ (x : Result T RestoreFault). IfErr x IsOther) (sym (is ∙ ap Err none)) (λ failed. cc failed, λ place missing. cc missing)

-- what is wrong with rows is nothing that waits, and no limit
module _ {D K E : Type 0} (limits : Limits) (opened : Opened D) where
  pub waits_well : (r : Result E (Unrestored K)) → IfErr r IsOfReading → IfErr r (IsBadWaiting limits opened)
  waits_well (Ok engine) of = tt
  waits_well (Err back) of = λ place is. absurd (never_bad of.0 place (sym of.1 ∙ is))

  pub passes_none : (r : Result E (Unrestored K)) → IfErr r IsOfReading → IfErr r (IsPastInput limits opened)
  passes_none (Ok engine) of = tt
  passes_none (Err back) of = λ full is. absurd (never_full of.0 full (sym of.1 ∙ is))
