-- What is noted of a line when it comes.
use Rattle.std.specs.Prelude.{◌≡◌, ⊤, ℕ, List, Option, None, Some}
use Rattle.audit_lex.specs.LineClass.{Used}
use Rattle.audit_lex.specs.declared.fields.Kind.TheVariants as kind
use Rattle.order_rules.specs.declared.note.Note.{Note}
use Rattle.order_rules.specs.Lines.{call_in}
use Rattle.order_rules.specs.Rewrites.{class_in}

-- if something was noted of a line, the line is the record of a call, with this event and this call
abbrev pub IsNoted : Option Note → List ℕ → Type 0
IsNoted None line = ⊤
IsNoted (Some note) line = (class_in line ≡ Used note.key kind.Syscall) × (note.call ≡ call_in line)
