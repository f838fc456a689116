-- What a scan finds in a line.
use Rattle.std.specs.Prelude.{◌≡◌, ℕ, List, Option, None, Some}
use Rattle.std.specs.List.{slice_index_or}
use Rattle.audit_lex.specs.FieldTable.{rules_of, slot_rules}
use Rattle.audit_lex.specs.LineClass.{Class, Used, Malformed, first_fault, class_of}
use Rattle.audit_lex.specs.LineFields.{raw_part_of}
use Rattle.audit_lex.specs.Slots.{AreFound}
use Rattle.audit_lex.specs.declared.faults.LineFault.{LineFault}
use Rattle.audit_lex.specs.declared.fields.Kind.{Kind}
use Rattle.audit_lex.specs.declared.header.EventKey.{EventKey}

-- a line that isn't used
abbrev pub IsUnused : ℕ → List ℕ → Type 0
IsUnused limit line = (key : EventKey) (kind : Kind) → class_of limit line ≡ Used key kind → ⊥

-- slots that hold nothing
abbrev pub AreEmpty : List (Option (List ℕ)) → Type 0
AreEmpty slots = (place : ℕ) → slice_index_or slots place None ≡ None

-- the class of a line of this key and kind, by its first fault
abbrev pub class_by : EventKey → Kind → Option LineFault → Class
class_by key kind None = Used key kind
class_by key kind (Some fault) = Malformed fault

-- the first fault of this raw part decides the line's class, and each slot has the value of the first token of its name
pub record IsScanned (limit : ℕ) (line : List ℕ) (key : EventKey) (kind : Kind) (raw : List ℕ) (slots : List (Option (List ℕ))) : Type 0 where
  pub raw_is : raw_part_of line ≡ Some raw
  pub class : class_of limit line ≡ class_by key kind (first_fault raw (rules_of kind))
  pub found : AreFound (slot_rules kind) raw slots
