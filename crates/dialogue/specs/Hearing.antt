-- What was heard of questions that come in pieces.
use Rattle.std.specs.Prelude.{◌≡◌, ⊤, ℕ, List, [], ◌∷◌, ◌++◌, take, Option, Result, Ok, Err}
use Rattle.flow_base.specs.declared.limits.Limits.{Limits}
use Rattle.audit_lex.specs.History.{History, Settle, with_bytes, lines_of}
use Rattle.audit_lex.specs.LineCut.{Cutter, StandsFor}
use Rattle.ingest.specs.Parts.{Engine}
use Rattle.dialogue.specs.declared.halt.Halt.{Halt}
use Rattle.dialogue.specs.declared.halt.Turn.{Turn}
use Rattle.dialogue.specs.declared.halt.Turn.TheVariants as turn
use Rattle.dialogue.specs.Dialogue.{Moment, Beyond, asks}
use Rattle.dialogue.specs.Course.{Kind, Talked, EndTalked}

-- the cutter of the questions has taken these bytes of them
pub record Holds (limits : Limits) (cut : Cutter) (history : History) : Type 0 where
  pub limit : cut.limit ≡ limits.question
  pub stands : StandsFor cut history

-- where the dialogue goes on
abbrev pub WhenMore : Result Turn Halt → Type 0 → Type 0
WhenMore (Ok turn.More) claim = claim
WhenMore (Ok turn.Ended) claim = ⊤
WhenMore (Err why) claim = ⊤

-- of the lines that end in a piece some were answered, and all if the dialogue goes on
pub record Heard {K : Type 0} (kind : Kind K) (limits : Limits) (beyond : Beyond) (cut : Cutter) (engine : Engine K) (left old new : Option (List ℕ)) (result : Result Turn Halt) (from : Moment) (history : History) (piece : List ℕ) : Type 0 where
  pub answered : List (List ℕ)
  pub unheard : List (List ℕ)
  pub lines : lines_of (with_bytes history piece) ≡ lines_of history ++ (answered ++ unheard)
  pub talked : Talked kind limits beyond engine left old new result from (asks limits answered)
  pub holds : WhenMore result (Holds limits cut (with_bytes history piece))
  pub whole : WhenMore result (unheard ≡ [])

-- the last line was answered, if the end of the questions ends one
pub record HeardLast {K : Type 0} (kind : Kind K) (limits : Limits) (beyond : Beyond) (engine : Engine K) (left old new : Option (List ℕ)) (result : Result Unit Halt) (from : Moment) (history : History) : Type 0 where
  pub last : List (List ℕ)
  pub lines : lines_of (history ++ Settle ∷ []) ≡ lines_of history ++ last
  pub talked : EndTalked kind limits beyond engine left old new result from (asks limits last)

-- the turn, without the number of bytes that were taken
abbrev pub turn_in : Result (ℕ × Turn) Halt → Result Turn Halt
turn_in (Ok given) = Ok given.1
turn_in (Err why) = Err why

-- the bytes that were taken, and the whole piece if that isn't known
abbrev pub taken_in : Result (ℕ × Turn) Halt → List ℕ → List ℕ
taken_in (Ok given) piece = take given.0 piece
taken_in (Err why) piece = piece
