-- A used line, as it is written.
use Rattle.std.specs.Prelude.{◌≡◌, ℕ, true, false, List, Option, None, Some}
use Rattle.std.specs.List.{AllByRecursion}
use Rattle.audit_lex.specs.Tokens.{NameValue, value_in}
use Rattle.audit_lex.specs.Header.{Head}
use Rattle.audit_lex.specs.Written.{IsHeaded}
use Rattle.audit_lex.specs.Pieces.{Piece, ArePieces, pieces_text, named_pieces}
use Rattle.audit_lex.specs.FieldTable.{kind_of, name_of, rules_of}
use Rattle.audit_lex.specs.LineClass.{spells}
use Rattle.audit_lex.specs.declared.fields.Kind.{Kind}
use Rattle.audit_lex.specs.declared.fields.Rule.{Rule}
use Rattle.audit_lex.specs.declared.header.EventKey.{EventKey}

-- a value is spelled as the rule says, and one that isn't there may be left out
abbrev pub IsSpelledBy : Rule → Option (List ℕ) → Type 0
IsSpelledBy rule None = rule.must ≡ false
IsSpelledBy rule (Some value) = spells rule.value value ≡ true

-- the first token of the field's name spells it, or there is none and the field may be left out
abbrev pub IsSpelledField : List NameValue → Rule → Type 0
IsSpelledField tokens rule = IsSpelledBy rule (value_in tokens (name_of rule.field))

-- the line can be written with a header and a raw part of spaces and tokens, which spell each field of its kind
pub record IsUsedLine (line : List ℕ) (key : EventKey) (kind : Kind) : Type 0 where
  pub head : Head
  pub headed : IsHeaded line head
  pub key_is : head.key ≡ key
  pub kind_is : kind_of head.name ≡ Some kind
  pub pieces : List Piece
  pub are_pieces : ArePieces pieces
  pub raw : head.raw ≡ pieces_text pieces
  pub fields : AllByRecursion (IsSpelledField (named_pieces pieces)) (rules_of kind)
