-- How many settles the questions of a dialogue ask for.
use Rattle.std.specs.Prelude.{ℕ, ◌+◌, List, [], ◌∷◌, ◌++◌, drop, length, Option, Some}
use Rattle.flow_base.specs.declared.limits.Limits.{Limits}
use Rattle.audit_lex.specs.History.{History, Settle, with_bytes, lines_of}
use Rattle.report_json.specs.declared.ask.Ask.{Ask}
use Rattle.report_json.specs.declared.ask.Ask.TheVariants as ask
use Rattle.dialogue.specs.declared.halt.Turn.{Turn}
use Rattle.dialogue.specs.declared.halt.Turn.TheVariants as turn
use Rattle.dialogue.specs.Dialogue.{asks, turn_of}

-- of one question: one for `settle`, none for another
abbrev pub settles_in_one : Option Ask → ℕ
settles_in_one (Some ask.Settle) = 1
settles_in_one _ = 0

-- none if the dialogue has ended
abbrev pub unless_ended : Turn → ℕ → ℕ
unless_ended turn.Ended n = 0
unless_ended turn.More n = n

-- how many settles the questions ask for, up to `end`
abbrev pub settles : List (Option Ask) → ℕ
settles [] = 0
settles (question ∷ questions) = settles_in_one question + unless_ended (turn_of question) (settles questions)

-- the lines that a piece ends after a history
abbrev pub lines_since : History → List ℕ → List (List ℕ)
lines_since history piece = drop (length (lines_of history)) (lines_of (with_bytes history piece))

-- how many settles they ask for
abbrev pub settles_since : Limits → History → List ℕ → ℕ
settles_since limits history piece = settles (asks limits (lines_since history piece))

-- the line that the end of the questions ends, if there is one
abbrev pub last_since : History → List (List ℕ)
last_since history = drop (length (lines_of history)) (lines_of (history ++ Settle ∷ []))
