-- What was read of lines.
use Rattle.std.specs.Prelude.{◌≡◌, ⊤, ℕ, List, Option, None, Some}
use Rattle.audit_lex.specs.LineClass.{Used, class_of}
use Rattle.audit_lex.specs.declared.used_line.UsedLine.{UsedLine}

-- what was read of a line, if it was, is the line with its class, as long as it has at most 65,536 bytes
abbrev pub IsRead : List ℕ → Option UsedLine → Type 0
IsRead line None = ⊤
IsRead line (Some used) = (used.line.now ≡ line) × (class_of 65536 line ≡ Used used.key used.kind)
