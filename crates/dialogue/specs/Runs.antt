-- A run over a log: where it began, what it takes, and what a crash or a halt leaves of it.
use Rattle.std.specs.Prelude.{◌≡◌, ◌⊎◌, ◌≤◌, Bool, true, false, if◌then◌else◌, ⊤, ℕ, List, [], ◌∷◌, ◌++◌, map, length, drop, Option, Some, Result, Err, IfErr}
use Rattle.std.specs.Io.KnownBytes.{Appends}
use Rattle.flow_base.specs.declared.limits.Limits.{Limits}
use Rattle.outside.specs.Disk.{DiskState, LeavesOnly, OnlyLooks}
use Rattle.audit_lex.specs.History.{History, Byte, Settle}
use Rattle.reach_model.specs.declared.modes.Mode.{Mode}
use Rattle.report_json.specs.declared.ask.Ask.TheVariants as ask
use Rattle.report_json.specs.declared.reply.Reply.{Reply}
use Rattle.report_json.specs.Replies.{text_of}
use Rattle.ingest.specs.Replies.{IsReply}
use Rattle.dialogue.specs.declared.halt.StoreHalt.{StoreHalt}
use Rattle.dialogue.specs.declared.halt.StoreHalt.TheVariants as over
use Rattle.dialogue.specs.declared.halt.Halt.TheVariants as halt
use Rattle.dialogue.specs.Dialogue.{Moment, settled_on, taken_on}
use Rattle.dialogue.specs.Saves.{Begun, LacksAtMost}

-- what a run over a log began from: at the log's first byte, or after those of it that the store has taken
abbrev pub begun_of : (resume : Bool) → History → (before : ℕ) → List ℕ → Begun
begun_of resume h before log = record {
  history = h;
  before = before;
  part = if resume then before else 0;
  log = if resume then drop before log else log;
}

-- the moment at which it began
abbrev pub first_of : Mode → Begun → Moment
first_of mode begun = record { mode = mode; takes = true; history = begun.history; log = begun.log }

-- what `reduce` takes: all of the log, and a settle
abbrev pub steps_of : Begun → History
steps_of begun = map Byte begun.log ++ Settle ∷ []

-- the history after it
abbrev pub whole_of : Begun → History
whole_of begun = begun.history ++ steps_of begun

-- the moment at which all of the log is taken, and settled
abbrev pub settled_all : Moment → Moment
settled_all m = settled_on (taken_on (length m.log) m)

-- the log has the bytes that were taken before
abbrev pub HasTaken : (resume : Bool) → (before : ℕ) → List ℕ → Type 0
HasTaken false before log = ⊤
HasTaken true before log = before ≤ length log

-- the reply to `stat` over this history was written
pub record WroteStat (limits : Limits) (mode : Mode) (h : History) (old new : Option (List ℕ)) : Type 0 where
  pub stat : Reply
  pub answers : IsReply mode limits h ask.Stat stat
  pub wrote : Appends old new (text_of stat)

-- a prefix of that reply was written, or nothing
pub record WroteFront (limits : Limits) (mode : Mode) (h : History) (old new : Option (List ℕ)) : Type 0 where
  pub bytes : List ℕ
  pub wrote : Appends old new bytes
  pub front : (bytes ≡ []) ⊎ ((stat : Reply) × (more : List ℕ) × IsReply mode limits h ask.Stat stat × (bytes ++ more ≡ text_of stat))

-- A run that synced its disk at some moment. A crash before left what it would have left at the begin, and a crash since leaves what
-- has P.
pub record LeavesOnceSynced (old new : DiskState) (P : List ℕ → Type 0) : Type 0 where
  pub synced : ℕ
  pub after : old.moment ≤ synced
  pub by_now : synced ≤ new.moment
  pub since : (bytes : List ℕ) → new.since synced bytes → P bytes
  pub ever : LeavesOnly old new (λ bytes. old.image bytes ⊎ P bytes)

-- a run that ended so may not have opened its store
abbrev pub MayBeUnopened : Result Unit StoreHalt → Type 0
MayBeUnopened (Err (over.Run halt.NoMemory)) = ⊤
MayBeUnopened (Err (over.Run halt.StoreFault)) = ⊤
MayBeUnopened (Err (over.BadStore place)) = ⊤
MayBeUnopened (Err (over.WrongMode kept want)) = ⊤
MayBeUnopened _ = ⊥

-- what a crash leaves of a run with this outcome has P once the disk is synced, unless the store wasn't opened
abbrev pub MayLeave : Result Unit StoreHalt → DiskState → DiskState → (List ℕ → Type 0) → Type 0
MayLeave outcome old new P = (MayBeUnopened outcome × OnlyLooks old new) ⊎ LeavesOnceSynced old new P

-- Whatever history a run that halted leaves on its disk, at most this many of the bytes are missing from it that it took of its log. The
-- run is over a disk that has a history so, and what it reads is observable.
abbrev pub LacksIn : (resume : Bool) → (Tells : Type 0) → (Stood : History → ℕ → Type 0) → Limits → Mode → (after : DiskState) → (log left : Option (List ℕ)) → (most : ℕ) → Result Unit StoreHalt → Type 0
LacksIn resume Tells Stood limits mode after log left most outcome = (h : History) (before : ℕ) (bytes : List ℕ) → Tells → Stood h before → log ≡ Some bytes
    → IfErr outcome (λ why. LacksAtMost limits mode (begun_of resume h before bytes) after left most)
