-- What borrowed lines say.
use Rattle.std.specs.Prelude.{◌≡◌, ℕ, List, ⊤}
use Rattle.audit_lex.specs.LineClass.{Class, Used, Other, Blank, Malformed}
use Rattle.audit_lex.specs.declared.lexer.Lexed.{Lexed}
use Rattle.audit_lex.specs.declared.lexer.Lexed.TheVariants as lexed

-- the class that was answered
abbrev pub class_seen : Lexed → Class
class_seen (lexed.Used used) = Used used.key used.kind
class_seen lexed.Other = Other
class_seen lexed.Blank = Blank
class_seen (lexed.Malformed fault) = Malformed fault

-- a used line is borrowed whole
abbrev pub LendsLine : Lexed → List ℕ → Type 0
LendsLine (lexed.Used used) line = used.line.now ≡ line
LendsLine _ line = ⊤
