-- The class of a line.
use Rattle.std.specs.Prelude.{ℕ, ◌==◌, ◌||◌, Bool, true, List, [], ◌∷◌, Option, None, Some, is_some, if◌then◌else◌}
use Rattle.std.specs.List.{list_all}
use Rattle.std.specs.Option.{option_or}
use Rattle.audit_lex.specs.History.{is_long}
use Rattle.audit_lex.specs.Header.{Head, head_of}
use Rattle.audit_lex.specs.Tokens.{field_of}
use Rattle.audit_lex.specs.FieldTable.{rules_of, kind_of, name_of}
use Rattle.audit_lex.specs.Values.{dec32_of, dec64_of, signed_of, hex32_of, hex64_of, device_of, handle_of, yesno_of, text_of, bytes_of}
use Rattle.audit_lex.specs.declared.fields.Kind.{Kind}
use Rattle.audit_lex.specs.declared.fields.Field.{Field}
use Rattle.audit_lex.specs.declared.fields.Rule.{Rule}
use Rattle.audit_lex.specs.declared.fields.ValueKind.{ValueKind}
use Rattle.audit_lex.specs.declared.fields.ValueKind.TheVariants as value
use Rattle.audit_lex.specs.declared.faults.LineFault.{LineFault}
use Rattle.audit_lex.specs.declared.faults.LineFault.TheVariants as fault
use Rattle.audit_lex.specs.declared.header.EventKey.{EventKey}

-- whether the bytes spell a value of this kind
abbrev pub spells : ValueKind → List ℕ → Bool
spells value.Dec32 text = is_some (dec32_of text)
spells value.Dec64 text = is_some (dec64_of text)
spells value.Signed text = is_some (signed_of text)
spells value.Hex32 text = is_some (hex32_of text)
spells value.Hex64 text = is_some (hex64_of text)
spells value.Device text = is_some (device_of text)
spells value.Handle text = is_some (handle_of text)
spells value.YesNo text = is_some (yesno_of text)
spells value.Text text = is_some (text_of text)
spells value.Bytes text = is_some (bytes_of text)
spells value.Word text = true

-- the fault of a value that isn't spelled
abbrev pub value_fault : ValueKind → Field → LineFault
value_fault value.YesNo field = fault.Text field
value_fault value.Text field = fault.Text field
value_fault value.Bytes field = fault.Text field
value_fault value.Word field = fault.Text field
value_fault _ field = fault.Number field

-- the fault of a field by its rule, if there is one
abbrev pub fault_of : Rule → Option (List ℕ) → Option LineFault
fault_of rule None = if rule.must then Some (fault.Missing rule.field) else None
fault_of rule (Some value) = if spells rule.value value then None else Some (value_fault rule.value rule.field)

-- the fault of a field in a raw part
abbrev pub fault_in : List ℕ → Rule → Option LineFault
fault_in raw rule = fault_of rule (field_of raw (name_of rule.field))

-- the first fault in the order of the rules
abbrev pub first_fault : List ℕ → List Rule → Option LineFault
first_fault raw [] = None
first_fault raw (rule ∷ rules) = option_or (fault_in raw rule) (first_fault raw rules)

-- the class of a line; a used line has its key and its kind
pub data Class : Type 0 where
  Used : EventKey → Kind → Class
  Other : Class
  Blank : Class
  Malformed : LineFault → Class

-- a space, a tab or a carriage return
abbrev pub is_blank_byte : ℕ → Bool
is_blank_byte byte = byte == 32 || (byte == 9 || byte == 13)

-- the class of a line of a kind that is read, by its first fault
abbrev pub fields_class : Head → Kind → Option LineFault → Class
fields_class head kind None = Used head.key kind
fields_class head kind (Some fault) = Malformed fault

-- the class of a line with a header, by its kind
abbrev pub kind_class : Head → Option Kind → Class
kind_class head None = Other
kind_class head (Some kind) = fields_class head kind (first_fault head.raw (rules_of kind))

-- the class of a line that isn't blank, by its header
abbrev pub head_class : Option Head → Class
head_class None = Malformed fault.Header
head_class (Some head) = kind_class head (kind_of head.name)

-- the class of a line that isn't too long
abbrev pub text_class : List ℕ → Class
text_class line = if list_all is_blank_byte line then Blank else head_class (head_of line)

-- the class of a line: the first case that holds
abbrev pub class_of : ℕ → List ℕ → Class
class_of limit line = if is_long limit line then Malformed fault.TooLong else text_class line
