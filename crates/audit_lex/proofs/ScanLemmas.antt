-- A scanned line is used exactly if its fields can be read.
use Rattle.std.proofs.Common.{◌≡◌, ◌∙◌, sym, refl, ap, ℕ, List, Option, None, Some, get_or}
use Rattle.audit_lex.specs.FieldTable.{rules_of, name_of}
use Rattle.audit_lex.specs.LineClass.{Used, first_fault, class_of}
use Rattle.audit_lex.specs.LineFields.{IsReadable, field_in_line}
use Rattle.audit_lex.specs.Scanning.{IsScanned, class_by}
use Rattle.audit_lex.specs.Slots.{held_for}
use Rattle.audit_lex.specs.TablePlaces.{home}
use Rattle.audit_lex.specs.declared.faults.LineFault.{LineFault}
use Rattle.audit_lex.specs.declared.fields.Field.{Field}
use Rattle.audit_lex.specs.declared.fields.Kind.{Kind}
use Rattle.audit_lex.specs.declared.header.EventKey.{EventKey}
use Rattle.audit_lex.proofs.ReadableLemmas.{readable, used_within, readable_faultless, in_line}
use Rattle.audit_lex.proofs.SlotLemmas.{found_at_home}

no_other : (key other : EventKey) (k l : Kind) (fault : Option LineFault) → class_by key k fault ≡ Used other l → (k ≡ l) × (key ≡ other)
no_other key other k l None is = (cc is, cc is)
no_other key other k l (Some fault) is = cc is

module _ (limit : ℕ) (line : List ℕ) (key : EventKey) (k : Kind) (raw : List ℕ) (slots : List (Option (List ℕ))) (scanned : IsScanned limit line key k raw slots) where
  -- a line whose fields can be read is used
  pub used_where_readable : IsReadable k line → class_of limit line ≡ Used key k
  used_where_readable can = scanned.class ∙ ap (class_by key k) (readable_faultless line raw scanned.raw_is k can)

  -- and one that is used can be read
  pub readable_where_used : (other : EventKey) (l : Kind) → class_of limit line ≡ Used other l → IsReadable k line
  readable_where_used other l is =
      let same = no_other key other k l (first_fault raw (rules_of k)) (sym scanned.class ∙ is) in
      rw same.0 (readable line other l (used_within limit line other l is))

  -- the slot of a field of the kind holds its value in the line
  pub slot_is : (f : Field) (place : ℕ) → home f ≡ Some (k, place) → held_for slots f ≡ field_in_line line (name_of f)
  slot_is f place is =
      let here : held_for slots f ≡ get_or slots place None = rw is refl in
      here ∙ found_at_home f k place raw slots is scanned.found ∙ sym (in_line line raw (name_of f) scanned.raw_is)
