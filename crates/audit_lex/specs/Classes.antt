-- The class of a line, in words on how the line can be written.
use Rattle.std.specs.Prelude.{◌≡◌, ◌⊎◌, ◌<◌, ◌≤◌, ℕ, true, List, ◌∷◌, ◌++◌, length, None, Some}
use Rattle.std.specs.List.{list_all, AllByRecursion}
use Rattle.audit_lex.specs.Tokens.{value_in}
use Rattle.audit_lex.specs.Header.{Head}
use Rattle.audit_lex.specs.Written.{IsHeaded}
use Rattle.audit_lex.specs.Pieces.{Piece, ArePieces, pieces_text, named_pieces}
use Rattle.audit_lex.specs.FieldTable.{kind_of, name_of, rules_of}
use Rattle.audit_lex.specs.LineClass.{Class, Used, Other, Blank, Malformed, is_blank_byte, fault_of}
use Rattle.audit_lex.specs.UsedLine.{IsSpelledField, IsUsedLine}
use Rattle.audit_lex.specs.declared.fields.Kind.{Kind}
use Rattle.audit_lex.specs.declared.fields.Rule.{Rule}
use Rattle.audit_lex.specs.declared.faults.LineFault.{LineFault}
use Rattle.audit_lex.specs.declared.faults.LineFault.TheVariants as fault

-- nothing but spaces, tabs and carriage returns
abbrev pub IsBlankLine : List ℕ → Type 0
IsBlankLine line = list_all is_blank_byte line ≡ true

-- not blank, and not to be written with a header
abbrev pub IsHeaderless : List ℕ → Type 0
IsHeaderless line = (IsBlankLine line → ⊥) × ((head : Head) → IsHeaded line head → ⊥)

-- a header of a type that isn't read
pub record IsUnreadLine (line : List ℕ) : Type 0 where
  pub head : Head
  pub headed : IsHeaded line head
  pub unread : kind_of head.name ≡ None

-- a header, and tokens that spell the fields of the kind's table before this one, which has the fault
pub record IsFaultyLine (line : List ℕ) (fault : LineFault) : Type 0 where
  pub head : Head
  pub headed : IsHeaded line head
  pub kind : Kind
  pub kind_is : kind_of head.name ≡ Some kind
  pub pieces : List Piece
  pub are_pieces : ArePieces pieces
  pub raw : head.raw ≡ pieces_text pieces
  pub before : List Rule
  pub rule : Rule
  pub after : List Rule
  pub table : rules_of kind ≡ before ++ rule ∷ after
  pub spelled : AllByRecursion (IsSpelledField (named_pieces pieces)) before
  pub faulty : fault_of rule (value_in (named_pieces pieces) (name_of rule.field)) ≡ Some fault

-- the class of a line that isn't too long
abbrev pub IsOfTextClass : List ℕ → Class → Type 0
IsOfTextClass line (Used key kind) = IsUsedLine line key kind
IsOfTextClass line Other = IsUnreadLine line
IsOfTextClass line Blank = IsBlankLine line
IsOfTextClass line (Malformed first) = ((first ≡ fault.Header) × IsHeaderless line) ⊎ IsFaultyLine line first

-- the class of a line
abbrev pub IsOfClass : ℕ → List ℕ → Class → Type 0
IsOfClass limit line class = ((limit < length line) × (class ≡ Malformed fault.TooLong)) ⊎ ((length line ≤ limit) × IsOfTextClass line class)
