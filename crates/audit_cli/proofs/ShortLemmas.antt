-- When a run may find its log a short one.
use Rattle.std.proofs.Common.{Bool, true, false, ◌≡◌, ◌<◌, ℕ, refl, Option}
use Rattle.std.specs.Prelude.{Result, Ok, Err, IfErr}
use Rattle.reach_model.specs.declared.modes.Mode.{Mode}
use Rattle.dialogue.specs.declared.halt.Halt.{Halt}
use Rattle.dialogue.specs.declared.halt.Halt.TheVariants as halt
use Rattle.dialogue.specs.declared.halt.StoreHalt.{StoreHalt}
use Rattle.dialogue.specs.declared.halt.StoreHalt.TheVariants as over
use Rattle.audit_cli.specs.declared.words.Job.{Job}
use Rattle.audit_cli.specs.Claims.{Resumes, ShortCause}
use Rattle.dialogue.specs.StoreHalts.{HasStoreCauses, shorter_in}
use Rattle.store_runs.specs.Statuses.{status_for, store_status}

-- a run that keeps its rows in memory finds none
pub short_none : (found : Option Job) (r : Result Unit Halt) → ShortCause (status_for r) found
short_none found (Ok t) = tt
short_none found (Err halt.NoMemory) = tt
short_none found (Err halt.ReadFault) = tt
short_none found (Err halt.WriteFault) = tt
short_none found (Err halt.StoreFault) = tt
short_none found (Err (halt.BadRow place)) = tt
short_none found (Err (halt.Full full)) = tt
short_none found (Err (halt.Unwritten full)) = tt

resumed_short : (resume : Bool) (taken had : ℕ) (found : Option Job) → shorter_in resume taken had → (resume ≡ true → Resumes found) → Resumes found × (had < taken)
resumed_short true taken had found short resumes = (resumes refl, short)
resumed_short false taken had found short resumes = absurd short

-- one over a store finds it only if it goes on in its log
pub short_by : (read write store hidden : Type 0) (bad : ℕ → Type 0) (wrong : Mode → Mode → Type 0) (resume : Bool) (found : Option Job) (r : Result Unit StoreHalt) → IfErr r (HasStoreCauses read write store hidden bad wrong (shorter_in resume))
    → (resume ≡ true → Resumes found) → ShortCause (store_status r) found
short_by read write store hidden bad wrong resume found (Ok t) causes resumes = tt
short_by read write store hidden bad wrong resume found (Err (over.Run why)) causes resumes = short_none found (Err why)
short_by read write store hidden bad wrong resume found (Err (over.BadStore place)) causes resumes = tt
short_by read write store hidden bad wrong resume found (Err (over.WrongMode kept asked)) causes resumes = tt
short_by read write store hidden bad wrong resume found (Err (over.ShortLog taken had)) causes resumes = resumed_short resume taken had found causes resumes
