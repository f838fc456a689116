-- How a part of a run ended, and what it wrote.
use Rattle.std.specs.Prelude.{Bool, true, false, ◌≡◌, ⊤, ℕ, ◌≤◌, ◌+◌, ◌-◌, ◌^◌, List, length, Option, Some, Result, Ok, Err, OnOk, []}
use Rattle.std.specs.Io.KnownBytes.{Appends}
use Rattle.flow_base.specs.declared.limits.Limits.{Limits}
use Rattle.flow_base.specs.declared.limits.Full.{Full}
use Rattle.reach_model.specs.declared.modes.Mode.{Mode}
use Rattle.report_json.specs.declared.ask.Ask.{Ask}
use Rattle.report_json.specs.declared.reply.Reply.{Reply}
use Rattle.ingest.specs.Parts.{Engine}
use Rattle.flow_base.specs.declared.faults.Refused.{Refused}
use Rattle.flow_base.specs.declared.faults.Refused.TheVariants as why
use Rattle.ingest.specs.StandsFor.{StandsFor}
use Rattle.ingest.specs.Stops.{Fits}
use Rattle.dialogue.specs.declared.halt.Halt.{Halt}
use Rattle.dialogue.specs.declared.halt.Halt.TheVariants as halt
use Rattle.dialogue.specs.declared.halt.Turn.{Turn}
use Rattle.dialogue.specs.declared.halt.Turn.TheVariants as turn
use Rattle.dialogue.specs.Dialogue.{Moment, Dialogue, Beyond, Leads, Closes, IsFront, StopsAfter, texts}

-- a count of faults doesn't fall, and a spent object stays spent
pub record GoesUp (before now : ℕ) (was_spent spent : Type 0) : Type 0 where
  pub later : before ≤ now
  pub stays : was_spent → spent

-- each fault of a device has its cause, and so have a place without a row and a limit on a store
abbrev pub HasCauses : (read write store hidden limit : Type 0) → Halt → Type 0
HasCauses read write store hidden limit halt.NoMemory = ⊤
HasCauses read write store hidden limit halt.ReadFault = read
HasCauses read write store hidden limit halt.WriteFault = write
HasCauses read write store hidden limit halt.StoreFault = store
HasCauses read write store hidden limit (halt.BadRow place) = hidden
HasCauses read write store hidden limit (halt.Full full) = ⊤
HasCauses read write store hidden limit (halt.Unwritten full) = limit

-- a limit that only a run passes that takes a log
abbrev pub when_takes : (takes : Bool) → (limit : Type 0) → Type 0
when_takes true limit = limit
when_takes false limit = ⊥

-- a limit that is named would be passed, and no place without a row is named
abbrev pub IsDue : (Full → Type 0) → Halt → Type 0
IsDue passes halt.NoMemory = ⊤
IsDue passes halt.ReadFault = ⊤
IsDue passes halt.WriteFault = ⊤
IsDue passes halt.StoreFault = ⊤
IsDue passes (halt.BadRow place) = ⊥
IsDue passes (halt.Full full) = passes full
IsDue passes (halt.Unwritten full) = ⊤

-- no limit at all
abbrev pub never : Full → Type 0
never full = ⊥

-- why an engine stopped, as a halt
abbrev pub halt_for : Refused → Halt
halt_for why.NoMemory = halt.NoMemory
halt_for (why.Full full) = halt.Full full

-- the mode of a run, whether it takes a log, and what else holds of its engine at each moment
pub record Kind (K : Type 0) : Type 1 where
  pub mode : Mode
  pub takes : Bool
  pub holds : Engine K → Moment → Type 0

-- a run of this mode
abbrev pub kind_of : {K : Type 0} → Mode → Bool → (Engine K → Moment → Type 0) → Kind K
kind_of mode takes holds = record { mode = mode; takes = takes; holds = holds }

-- the engine and the log, which is observable, are at this moment
pub record StandsAt {K : Type 0} (limits : Limits) (engine : Engine K) (left : Option (List ℕ)) (m : Moment) : Type 0 where
  pub stands : StandsFor limits engine m.history
  pub told : left ≡ Some m.log

-- the engine of a run and the log, which is observable, are at this moment of such a run
pub record At {K : Type 0} (kind : Kind K) (limits : Limits) (engine : Engine K) (left : Option (List ℕ)) (m : Moment) : Type 0 where
  pub in_mode : m.mode ≡ kind.mode
  pub may_take : m.takes ≡ kind.takes
  pub stands_at : StandsAt limits engine left m
  pub holds : kind.holds engine m

-- at most what is left, and nothing only if nothing is left
pub record IsPart (n : ℕ) (left : List ℕ) : Type 0 where
  pub within : n ≤ length left
  pub ended : n ≡ 0 → left ≡ []

-- this many further bytes are counted, if the count has room for them
abbrev pub CountsOn : (before now count : ℕ) → Type 0
CountsOn before now count = before + count ≤ 2 ^ 64 - 1 → now ≡ before + count

-- A limit stopped a run at one moment, and no limit was passed before. The bytes are what the replies
-- up to there write
pub record Stopped (limits : Limits) (beyond : Beyond) (writes : List Reply → List ℕ)
    (from : Moment) (questions : List (Option Ask)) (bytes : List ℕ) (full : Full) : Type 0 where
  pub said : List Reply
  pub to : Moment
  pub stops : StopsAfter limits beyond from questions said to full
  pub fits : Fits limits to.history
  pub bytes_are : bytes ≡ writes said

-- A limit stopped the run, or it halted for another cause after a prefix of the replies was written. It met no place without a row
abbrev pub Halted : Limits → Beyond → Moment → List (Option Ask) → List ℕ → Halt → Type 0
Halted limits beyond from questions bytes (halt.Full full) =
    Stopped limits beyond texts from questions bytes full
Halted limits beyond from questions bytes (halt.BadRow place) = ⊥
Halted limits beyond from questions bytes _ = IsFront limits from questions bytes

-- these bytes are what was answered to these questions, up to where the part ended
abbrev pub Course : Limits → Beyond → Result Turn Halt → Moment → List (Option Ask) → List ℕ → Moment → Type 0
Course limits beyond (Ok turn.More) from questions bytes to = (said : List Reply) × (bytes ≡ texts said) × Leads limits from questions said to
Course limits beyond (Ok turn.Ended) from questions bytes to = (said : List Reply) × (bytes ≡ texts said) × Closes limits from questions said to
Course limits beyond (Err why) from questions bytes to = Halted limits beyond from questions bytes why

-- a part of a run from one moment on
pub record Talked {K : Type 0} (kind : Kind K) (limits : Limits) (beyond : Beyond) (engine : Engine K) (left old new : Option (List ℕ)) (result : Result Turn Halt) (from : Moment) (questions : List (Option Ask)) : Type 0 where
  pub to : Moment
  pub bytes : List ℕ
  pub wrote : Appends old new bytes
  pub course : Course limits beyond result from questions bytes to
  pub at : OnOk result (At kind limits engine left to)

-- these bytes are what was answered to these questions, or a prefix of it if the run halted
abbrev pub EndCourse : Limits → Beyond → Result Unit Halt → Moment → List (Option Ask) → List ℕ → Moment → Type 0
EndCourse limits beyond (Ok done) from questions bytes to = (said : List Reply) × (bytes ≡ texts said) × Dialogue limits from questions said to
EndCourse limits beyond (Err why) from questions bytes to = Halted limits beyond from questions bytes why

-- a run from one moment to its end
pub record EndTalked {K : Type 0} (kind : Kind K) (limits : Limits) (beyond : Beyond) (engine : Engine K) (left old new : Option (List ℕ)) (result : Result Unit Halt) (from : Moment) (questions : List (Option Ask)) : Type 0 where
  pub to : Moment
  pub bytes : List ℕ
  pub wrote : Appends old new bytes
  pub course : EndCourse limits beyond result from questions bytes to
  pub at : OnOk result (At kind limits engine left to)

-- a halt, or the end of the questions
abbrev pub ended : Result Turn Halt → Result Unit Halt
ended (Ok turn) = Ok tt
ended (Err why) = Err why
