-- A run over a store: what is on its disk at each moment, and what it writes.
use Rattle.std.specs.Prelude.{◌≡◌, ◌⊎◌, ◌<◌, Bool, true, false, ⊤, ℕ, ◌+◌, ◌-◌, ◌/◌, List, [], length, unwrap_or, Option, None, Some, Result, Ok, Err, OnOk, OnErr, IfErr}
use Rattle.std.specs.Io.KnownBytes.{Appends}
use Rattle.flow_base.specs.declared.limits.Full.{Full}
use Rattle.flow_base.specs.declared.limits.Limits.{Limits}
use Rattle.outside.specs.Disk.{DiskState, IsDurable, OnlyLooks}
use Rattle.audit_lex.specs.History.{History}
use Rattle.batch_log.specs.Log.{Log}
use Rattle.reach_model.specs.declared.modes.Mode.{Mode}
use Rattle.reduced_store.specs.OnDisk.{OnDisk}
use Rattle.reduced_store.specs.Opening.{BeginsLast, IsBadAt, IsStoreRead}
use Rattle.reduced_store.specs.Reading.{IsFound}
use Rattle.reduced_store.specs.Stores.{IsOfWrongMode, found_of}
use Rattle.reduced_store.specs.declared.opened.Opened.{Opened}
use Rattle.reduced_store.specs.declared.reading.Found.{Found}
use Rattle.store_check.specs.Conditions.{bounds_of}
use Rattle.report_json.specs.declared.reply.Reply.{Reply}
use Rattle.ingest.specs.Parts.{Engine}
use Rattle.ingest.specs.Counting.{bytes_in}
use Rattle.ingest.specs.PartTaken.{StandsWith}
use Rattle.ingest.specs.Restoring.{IsOpen, OfState}
use Rattle.ingest.specs.Saving.{IsSaved}
use Rattle.ingest.specs.Stops.{Stops}
use Rattle.ingest.specs.Storing.{StoresHistory}
use Rattle.ingest.specs.Waiting.{AreSoundWaiting}
use Rattle.dialogue.specs.declared.halt.StoreHalt.{StoreHalt}
use Rattle.dialogue.specs.declared.halt.StoreHalt.TheVariants as over
use Rattle.dialogue.specs.declared.halt.Halt.TheVariants as halt
use Rattle.dialogue.specs.Dialogue.{Moment, QuestionsStop, StopsAfter, asks, lines_in}
use Rattle.dialogue.specs.Course.{At, EndCourse, kind_of}
use Rattle.dialogue.specs.Listening.{AreHeardOut, KeepsWithin}
use Rattle.dialogue.specs.Saves.{AddsAtMost, Begun, IsOf, IsPutAway, IsReached, PassesStore, since}
use Rattle.dialogue.specs.Runs.{HasTaken, LacksIn, MayLeave, WroteFront, WroteStat, begun_of, first_of, steps_of, whole_of}
use Rattle.dialogue.specs.StoreHalts.{IsRunDue, NamesNoBatch}
use Rattle.store_runs.specs.Statuses.{store_status}
use Rattle.store_runs.specs.declared.extending.Taking.{Taking}
use Rattle.store_runs.specs.declared.extending.Taking.TheVariants as taking
use Rattle.store_runs.specs.declared.status.Status.{Status}
use Rattle.store_runs.specs.declared.status.Status.TheVariants as status

-- the log is a short one: it has this many bytes, and the store has taken this many of it
pub record IsShort (resume : Bool) (before : ℕ) (log : List ℕ) (taken had : ℕ) : Type 0 where
  pub resumes : resume ≡ true
  pub all : taken ≡ before
  pub some : had ≡ length log
  pub short : had < taken

-- the run of `query`, which takes no log after a history
abbrev pub querying : Mode → History → Moment
querying mode h = record { mode = mode; takes = false; history = h; log = [] }

-- The engine of a store that was opened stands for this history, all of which is saved, with this many bytes in its part of a log, and
-- a crash leaves nothing else.
pub record IsReopened {D : Type 0} (state : D → DiskState) (mode : Mode) (limits : Limits) (engine : Engine (OnDisk D)) (h : History) (before : ℕ) : Type 0 where
  pub stands : StandsWith limits engine h before
  pub saved : IsSaved state limits mode engine h before
  pub told : (state engine.joined.keep.disk).told
  pub images : (bytes : List ℕ) → (state engine.joined.keep.disk).image bytes → StoresHistory limits mode bytes h before

-- the engine of a reopened store and its log are at the begin of a run over it
pub record HasBegun {D : Type 0} (state : D → DiskState) (mode : Mode) (limits : Limits) (old new : Engine (OnDisk D)) (left : Option (List ℕ)) (begun : Begun) : Type 0 where
  pub at : At (kind_of mode true (IsPutAway state (record { begun = begun; rows = old.joined.keep }) limits)) limits new left (first_of mode begun)

-- if a limit on a store is named, a batch of what came up to these steps would pass it
abbrev pub PassesIn : Limits → Mode → Begun → (steps : History) → StoreHalt → Type 0
PassesIn limits mode begun steps (over.Run (halt.Unwritten full)) = PassesStore limits mode begun steps full
PassesIn limits mode begun steps _ = ⊤

-- the log was taken to its end and settled, all of which is on the disk, and the reply to `stat` was written
pub record IsReduced (limits : Limits) (mode : Mode) (disk : DiskState) (left old new : Option (List ℕ)) (begun : Begun) : Type 0 where
  pub stores : StoresHistory limits mode disk.reads (whole_of begun) (begun.part + length begun.log)
  pub durable : IsDurable disk
  pub whole : left ≡ Some []
  pub wrote : WroteStat limits mode (whole_of begun) old new

-- what was answered to questions from a moment on, or nothing if the store wasn't opened
abbrev pub AnswerCourse : Limits → Moment → (asked bytes : List ℕ) → Result Unit StoreHalt → Moment → Type 0
AnswerCourse limits from asked bytes (Ok done) to =
    EndCourse limits (QuestionsStop limits asked) (Ok done) from (asks limits (lines_in asked)) bytes to
AnswerCourse limits from asked bytes (Err (over.Run why)) to =
    EndCourse limits (QuestionsStop limits asked) (Err why) from (asks limits (lines_in asked)) bytes to
AnswerCourse limits from asked bytes (Err why) to = bytes ≡ []

-- a run of `query` over a store of this history, which names no limit on a store
pub record IsQueried (limits : Limits) (mode : Mode) (h : History) (asked : List ℕ) (rest old new : Option (List ℕ)) (result : Result Unit StoreHalt) : Type 0 where
  pub to : Moment
  pub bytes : List ℕ
  pub wrote : Appends old new bytes
  pub course : AnswerCourse limits (querying mode h) asked bytes result to
  pub names : IfErr result NamesNoBatch
  pub heard : OnOk result (AreHeardOut limits (querying mode h) asked rest)

-- ---- a run from the opening of a disk on

-- what is found in an opened store is what is in some batches
abbrev pub WasFound : {D : Type 0} → Limits → Opened D → Type 0
WasFound limits opened = (payloads : List (List ℕ)) × IsFound (bounds_of limits) payloads (found_of opened)

-- the store is open, and its disk stores this history
pub record IsOpenAt {D : Type 0} (state : D → DiskState) (limits : Limits) (mode : Mode) (opened : Opened D) (h : History) (part : ℕ) : Type 0 where
  pub open_on : IsOpen state limits opened
  pub stores : StoresHistory limits mode (state opened.store.disk).reads h part

-- the disk is observable, and its bytes store this history
pub record StoodAt {D : Type 0} (state : D → DiskState) (limits : Limits) (mode : Mode) (disk : D) (h : History) (part : ℕ) : Type 0 where
  pub told : (state disk).told
  pub stores : StoresHistory limits mode (state disk).reads h part

-- the last batch of an opened store begins at this place, and says that something waits which isn't sound
pub record WaitsUnsoundly {D : Type 0} (limits : Limits) (opened : Opened D) (place : ℕ) : Type 0 where
  pub is : place ≡ unwrap_or opened.last 0
  pub unsound : OfState opened.rows (λ state. ¬ AreSoundWaiting limits state opened.rows)

-- the bytes are those of a store whose last batch begins at this place, and says that something waits which isn't sound
pub record StoresUnsoundly (limits : Limits) (place : ℕ) (bytes : List ℕ) : Type 0 where
  pub log : Log
  pub found : Found
  pub last : Option ℕ
  pub read : IsStoreRead limits bytes (log, found)
  pub begins : BeginsLast limits bytes last
  pub is : place ≡ unwrap_or last 0
  pub unsound : OfState found.others (λ state. ¬ AreSoundWaiting limits state found.others)

-- a disk that is observable is no store at this place, or what waits there isn't sound
abbrev pub IsBadIn : Limits → DiskState → ℕ → Type 0
IsBadIn limits disk place = disk.told → IsBadAt limits place disk.reads ⊎ StoresUnsoundly limits place disk.reads

-- a disk that is observable is a store of another mode
abbrev pub IsWrongIn : Limits → DiskState → Option Mode → Mode → Mode → Type 0
IsWrongIn limits disk asked kept want = disk.told → IsOfWrongMode limits disk.reads asked kept want

-- A run of `reduce` over a disk that stores a history. Once it is synced, a crash leaves this history or a prefix of what the run
-- takes after it, and if a limit on a store is named, a batch would have passed it.
pub record Reduces (resume : Bool) (limits : Limits) (mode : Mode) (disk after : DiskState) (left old new : Option (List ℕ)) (outcome : Result Unit StoreHalt)
    (h : History) (before : ℕ) (bytes : List ℕ) : Type 0 where
  pub reduced : OnOk outcome (IsReduced limits mode after left old new (begun_of resume h before bytes))
  pub leaves : MayLeave outcome disk after (IsReached limits mode (begun_of resume h before bytes) (steps_of (begun_of resume h before bytes)))
  pub front : OnErr outcome (WroteFront limits mode (whole_of (begun_of resume h before bytes)) old new)
  pub due : IfErr outcome (IsRunDue (Stops limits (whole_of (begun_of resume h before bytes))))
  pub passes : IfErr outcome (PassesIn limits mode (begun_of resume h before bytes) (steps_of (begun_of resume h before bytes)))
  pub enough : OnOk outcome (HasTaken resume before bytes)
  pub short : (taken had : ℕ) → outcome ≡ Err (over.ShortLog taken had) → IsShort resume before bytes taken had

-- what a run of `reduce` does with a log that is observable, over a disk that has a history so
abbrev pub IsReduceRun : (resume : Bool) → (Stood : History → ℕ → Type 0) → Limits → Mode → (disk after : DiskState) → (log left old new : Option (List ℕ)) → Result Unit StoreHalt → Type 0
IsReduceRun resume Stood limits mode disk after log left old new outcome =
    (h : History) (before : ℕ) (bytes : List ℕ) → Stood h before → log ≡ Some bytes → Reduces resume limits mode disk after left old new outcome h before bytes

-- the same, unless the run has read nothing of its log and only looked at its disk
abbrev pub LooksOrLacks : (resume : Bool) → (Tells : Type 0) → (Stood : History → ℕ → Type 0) → Limits → Mode → (disk after : DiskState) → (log left : Option (List ℕ)) → (most : ℕ) → Result Unit StoreHalt → Type 0
LooksOrLacks resume Tells Stood limits mode disk after log left most outcome =
    (OnlyLooks disk after × (left ≡ log)) ⊎ LacksIn resume Tells Stood limits mode after log left most outcome

-- A run adds at most one batch to its disk for each portion of this many bytes of its log, and this many more. The run is over a disk that
-- has a history so, and its log is observable
abbrev pub AddsFew : (resume : Bool) → (Stood : History → ℕ → Type 0) → Limits → (disk after : DiskState) → (log left : Option (List ℕ)) → (batch more : ℕ) → Type 0
AddsFew resume Stood limits disk after log left batch more = (h : History) (before : ℕ) (bytes rest : List ℕ) → Stood h before → log ≡ Some bytes → left ≡ Some rest
    → AddsAtMost limits disk after ((length (begun_of resume h before bytes).log - length rest) / batch + more)

-- the same of a run that begins with this many bytes unsaved
abbrev pub AddsIn : (resume : Bool) → (Stood : History → ℕ → Type 0) → Limits → (disk after : DiskState) → (log left : Option (List ℕ)) → (unsaved batch more : ℕ) → Type 0
AddsIn resume Stood limits disk after log left unsaved batch more = (h : History) (before : ℕ) (bytes rest : List ℕ) → Stood h before → log ≡ Some bytes → left ≡ Some rest
    → AddsAtMost limits disk after ((unsaved + (length (begun_of resume h before bytes).log - length rest)) / batch + more)

-- whether the bytes of a log that were taken before are passed over
abbrev pub is_resumed : Taking → Bool
is_resumed (taking.Whole resume) = resume
is_resumed taking.Asked = false

-- the questions are observable
abbrev pub AreTold : Option (List ℕ) → Type 0
AreTold asked = (questions : List ℕ) × (asked ≡ Some questions)

-- if questions are asked, they are observable
abbrev pub AsksTold : Taking → Option (List ℕ) → Type 0
AsksTold (taking.Whole resume) asked = ⊤
AsksTold taking.Asked asked = AreTold asked

-- all that was taken up to this moment is on the disk
pub record IsStored (limits : Limits) (mode : Mode) (disk : DiskState) (left : Option (List ℕ)) (begun : Begun) (to : Moment) : Type 0 where
  pub along : IsOf begun to
  pub stores : StoresHistory limits mode disk.reads to.history (begun.part + bytes_in (since begun to))
  pub durable : IsDurable disk
  pub told : left ≡ Some to.log

-- A run of `watch` over a disk that stores a history. Once it is synced, a crash leaves this history or a prefix of what the run has
-- taken after it at the last moment to which it came.
pub record Watches (limits : Limits) (mode : Mode) (disk after : DiskState) (left old new : Option (List ℕ)) (outcome : Result Unit StoreHalt)
    (begun : Begun) (asked : List ℕ) : Type 0 where
  pub to : Moment
  pub bytes : List ℕ
  pub wrote : Appends old new bytes
  pub course : AnswerCourse limits (first_of mode begun) asked bytes outcome to
  pub stored : OnOk outcome (IsStored limits mode after left begun to)
  pub last : Moment
  pub along : IsOf begun last
  pub leaves : MayLeave outcome disk after (IsReached limits mode begun (since begun last))
  pub no_further : OnOk outcome (last ≡ to)
  pub passes : IfErr outcome (PassesIn limits mode begun (since begun last))
  pub whole : (taken had : ℕ) → outcome ≡ Err (over.ShortLog taken had) → ⊥

-- what a run of `watch` does with an observable log and observable questions, over a disk that has a history so
abbrev pub IsWatchRun : (Stood : History → ℕ → Type 0) → Limits → Mode → (disk after : DiskState) → (log left asked old new : Option (List ℕ)) → Result Unit StoreHalt → Type 0
IsWatchRun Stood limits mode disk after log left asked old new outcome =
    (h : History) (before : ℕ) (bytes questions : List ℕ) → Stood h before → log ≡ Some bytes → asked ≡ Some questions
    → Watches limits mode disk after left old new outcome (begun_of false h before bytes) questions

-- an opened store has no batch, and its first place is named
pub record HasNoBatch {D : Type 0} (opened : Opened D) (place : ℕ) : Type 0 where
  pub none : opened.mode ≡ None
  pub is : place ≡ 0

-- the bytes are those of a store without a batch, and their first place is named
pub record StoresNothing (limits : Limits) (place : ℕ) (bytes : List ℕ) : Type 0 where
  pub log : Log
  pub found : Found
  pub read : IsStoreRead limits bytes (log, found)
  pub none : found.mode ≡ None
  pub is : place ≡ 0

-- a disk that is observable is no store at this place, or what waits there isn't sound, or it has no batch
abbrev pub IsBadOrNone : Limits → DiskState → ℕ → Type 0
IsBadOrNone limits disk place =
    disk.told → (IsBadAt limits place disk.reads ⊎ StoresUnsoundly limits place disk.reads) ⊎ StoresNothing limits place disk.reads

-- what a run of `query` does with observable questions, over a disk that has a history of a mode so
pub record IsQueryRun (Stood : Mode → History → Type 0) (limits : Limits) (left rest old new : Option (List ℕ)) (outcome : Result Unit StoreHalt) : Type 0 where
  pub queried : (kept : Mode) (h : History) (asked : List ℕ) → Stood kept h → left ≡ Some asked → IsQueried limits kept h asked rest old new outcome

-- the questions of a run of `watch` that is done were heard out, as those of `query`
abbrev pub HearsOut : (Stood : History → ℕ → Type 0) → Limits → Mode → (log asked left : Option (List ℕ)) → Result Unit StoreHalt → Type 0
HearsOut Stood limits mode log asked left outcome = (h : History) (before : ℕ) (bytes questions : List ℕ) → Stood h before → log ≡ Some bytes → asked ≡ Some questions
    → OnOk outcome (AreHeardOut limits (first_of mode (begun_of false h before bytes)) questions left)

-- ---- a whole run

-- the status is that of an outcome with this
abbrev pub EndsAs : Status → (Result Unit StoreHalt → Type 0) → Type 0
EndsAs status P = (outcome : Result Unit StoreHalt) × (status ≡ store_status outcome) × P outcome

-- the store was refused, as a bad one or one of another mode
abbrev pub IsRefusal : Result Unit StoreHalt → Type 0
IsRefusal (Err (over.BadStore place)) = ⊤
IsRefusal (Err (over.WrongMode kept want)) = ⊤
IsRefusal _ = ⊥

-- the same of a status
abbrev pub RefusesAStore : Status → Type 0
RefusesAStore (status.BadStore place) = ⊤
RefusesAStore (status.WrongMode kept want) = ⊤
RefusesAStore _ = ⊥

-- ---- runs that were stopped

-- The bytes store a history from which a run of `reduce --resume` over this log comes to the same end, or they store that end
pub record GoesOn (limits : Limits) (mode : Mode) (end : History) (log bytes : List ℕ) : Type 0 where
  pub history : History
  pub part : ℕ
  pub stores : StoresHistory limits mode bytes history part
  pub ends : (HasTaken true part log × (whole_of (begun_of true history part log) ≡ end)) ⊎ (history ≡ end)

-- ---- a run that nothing stops

-- no limit would be passed by all of the log, settled, nor by a commit of a prefix of it
pub record FitsWhole (limits : Limits) (mode : Mode) (begun : Begun) : Type 0 where
  pub engine : (full : Full) → ¬ Stops limits (whole_of begun) full
  pub store : (full : Full) → ¬ PassesStore limits mode begun (steps_of begun) full

-- no limit would be passed by what these questions take, nor by a commit of a prefix of what is taken of the log at some moment
pub record FitsDialogue (limits : Limits) (mode : Mode) (begun : Begun) (asked : List ℕ) : Type 0 where
  pub engine : (said : List Reply) (to : Moment) (full : Full) → ¬ StopsAfter limits (QuestionsStop limits asked) (first_of mode begun) (asks limits (lines_in asked)) said to full
  pub store : (m : Moment) → IsOf begun m → (full : Full) → ¬ PassesStore limits mode begun (since begun m) full

-- the run is done, or an allocation failed
abbrev pub IsDoneOrNoMemory : Status → Type 0
IsDoneOrNoMemory status.Done = ⊤
IsDoneOrNoMemory status.NoMemory = ⊤
IsDoneOrNoMemory _ = ⊥

-- `reduce` ends so over a disk that has a history so, if no device failed and no limit would be passed
abbrev pub ReducesAll : Status → (failed : Type 0) → (resume : Bool) → (Stood : History → ℕ → Type 0) → Limits → Mode → (log : Option (List ℕ)) → Type 0
ReducesAll ended failed resume Stood limits mode log = (h : History) (before : ℕ) (bytes : List ℕ) → Stood h before → log ≡ Some bytes → HasTaken resume before bytes
    → ¬ failed → FitsWhole limits mode (begun_of resume h before bytes) → IsDoneOrNoMemory ended

-- `watch` ends so
abbrev pub WatchesAll : Status → (failed : Type 0) → (Stood : History → ℕ → Type 0) → Limits → Mode → (log asked : Option (List ℕ)) → Type 0
WatchesAll ended failed Stood limits mode log asked = (h : History) (before : ℕ) (bytes questions : List ℕ) → Stood h before → log ≡ Some bytes → asked ≡ Some questions
    → ¬ failed → FitsDialogue limits mode (begun_of false h before bytes) questions → IsDoneOrNoMemory ended

-- a store has a batch, as it has if its history isn't the empty one
abbrev pub HasABatch : Limits → DiskState → History → Type 0
HasABatch limits disk h = h ≡ [] → ¬ StoresNothing limits 0 disk.reads

-- `query` ends so over a disk that has a history of a mode so, and a batch, if no device failed and its questions keep within the limit
-- on input, the only one that it could pass
abbrev pub AnswersAll : Status → (failed : Type 0) → (Stood : Mode → History → Type 0) → Limits → DiskState → (asked : Option (List ℕ)) → Type 0
AnswersAll ended failed Stood limits disk asked = (kept : Mode) (h : History) (questions : List ℕ) → Stood kept h → asked ≡ Some questions → HasABatch limits disk h
    → ¬ failed → KeepsWithin limits (querying kept h) questions → IsDoneOrNoMemory ended
