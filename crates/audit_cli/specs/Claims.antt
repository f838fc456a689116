-- What is claimed of a run, one claim a clause of the top call.
use Rattle.std.specs.Prelude.{◌≡◌, ◌⊎◌, ◌<◌, ⊤, ℕ, true, List, Option, Some}
use Rattle.flow_base.specs.declared.limits.Limits.{Limits}
use Rattle.flow_base.specs.declared.limits.Full.{Full}
use Rattle.store_runs.specs.declared.status.Status.{Status}
use Rattle.store_runs.specs.declared.status.Status.TheVariants as status
use Rattle.audit_cli.specs.declared.words.Job.{Job}
use Rattle.audit_cli.specs.declared.words.Job.TheVariants as job
use Rattle.audit_cli.specs.Words.{job_of}
use Rattle.audit_cli.specs.Headline.{Tells, TellsLog, Finished, Written, StoppedAt, LeavesQuestions, PassesNone}
use Rattle.audit_cli.specs.Standard.{WithStandard}

-- what is claimed of a job over the bytes of a log and of questions
abbrev pub Claim : Type 1
Claim = Limits → Job → (log asked : List ℕ) → Type 0

-- the claim holds of the job that the words name, over the bytes of the log and of the questions that
-- the job has, if they are known
abbrev pub WhereTold : Limits → List (List ℕ) → (log questions : Option (List ℕ)) → Claim → Type 0
WhereTold limits words log questions claim =
    (done : Job) (bytes asked : List ℕ) → job_of words ≡ Some done → TellsLog done log bytes
    → Tells done questions asked → claim limits done bytes asked

-- the same with the program's limits
abbrev pub WhereStandard : List (List ℕ) → (log questions : Option (List ℕ)) → Claim → Type 0
WhereStandard words log questions claim =
    WithStandard (λ limits. WhereTold limits words log questions claim)

-- at Done, what was written is what the job writes
abbrev pub Finishes : Status → (left old new : Option (List ℕ)) → Claim
Finishes result left old new =
    λ limits done log asked. result ≡ status.Done → Finished limits done log asked left old new

-- with every status, what was written is a prefix of what the job writes
abbrev pub WritesPrefix : (old new : Option (List ℕ)) → Claim
WritesPrefix old new = λ limits done log asked. Written limits done log asked old new

-- the limit that a status names stopped the job
abbrev pub StopsAtLimit : Status → (old new : Option (List ℕ)) → Claim
StopsAtLimit result old new =
    λ limits done log asked. (full : Full) → result ≡ status.Full full
    → StoppedAt limits done log asked old new full

-- at Done, at most 65,536 bytes of the questions were read after a prefix that doesn't end them
abbrev pub ReadsToEnd : Status → Option (List ℕ) → Claim
ReadsToEnd result left =
    λ limits done log asked. result ≡ status.Done → LeavesQuestions limits done log asked left

-- at Done, no limit would be passed
abbrev pub FitsAtDone : Status → Claim
FitsAtDone result = λ limits done log asked. result ≡ status.Done → PassesNone limits done log asked

-- if no limit would be passed and no device failed, a run is done, unless an allocation failed
abbrev pub IsComplete : Status → (failed : Type 0) → Claim
IsComplete result failed =
    λ limits done log asked. ¬ failed → PassesNone limits done log asked
    → (result ≡ status.Done) ⊎ (result ≡ status.NoMemory)

-- the words name a `reduce` that goes on in its log
abbrev pub Resumes : Option Job → Type 0
Resumes (Some (job.Reduce kept name store resume)) = resume ≡ true
Resumes _ = ⊥

-- only such a run finds its log a short one, which has fewer bytes than the store has taken of it
abbrev pub ShortCause : Status → Option Job → Type 0
ShortCause (status.ShortLog taken had) found = Resumes found × (had < taken)
ShortCause _ found = ⊤
