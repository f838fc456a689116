-- What is found for the fields of a table.
use Rattle.std.specs.Prelude.{◌≡◌, ◌<◌, ◌==◌, ℕ, List, [], ◌∷◌, length, map, drop, Option, None, Some, if◌then◌else◌}
use Rattle.std.specs.List.{slice_index_or}
use Rattle.std.specs.Option.{option_or}
use Rattle.std.specs.Borrow.{Bor}
use Rattle.audit_lex.specs.FieldTable.{name_of}
use Rattle.audit_lex.specs.TablePlaces.{home}
use Rattle.audit_lex.specs.Tokens.{NameValue, value_in, field_of}
use Rattle.audit_lex.specs.declared.fields.Field.{Field}
use Rattle.audit_lex.specs.declared.fields.Kind.{Kind}
use Rattle.audit_lex.specs.declared.fields.Rule.{Rule}
use Rattle.audit_lex.specs.declared.slots.Found.{Found}

-- the value of a slot, which stands after an `=`: an empty slot has none
abbrev pub slot_value : List ℕ → Option (List ℕ)
slot_value bytes = if length bytes == 0 then None else Some (drop 1 bytes)

-- the value of each slot
abbrev pub held : List (Bor (List ℕ)) → List (Option (List ℕ))
held slots = map (λ slot. slot_value slot.now) slots

-- the value of each slot of a used line
abbrev pub kept : Found → List (Option (List ℕ))
kept found =
    slot_value found.first.now ∷
    slot_value found.second.now ∷
    slot_value found.third.now ∷
    slot_value found.fourth.now ∷
    slot_value found.fifth.now ∷
    slot_value found.sixth.now ∷
    slot_value found.seventh.now ∷
    slot_value found.eighth.now ∷
    slot_value found.ninth.now ∷
    slot_value found.tenth.now ∷
    slot_value found.eleventh.now ∷ []

-- what the slot of a place holds, if a table has it
abbrev pub held_at : List (Option (List ℕ)) → Option (Kind × ℕ) → Option (List ℕ)
held_at slots None = None
held_at slots (Some (kind, place)) = slice_index_or slots place None

-- what the slot of a field holds, if the field has one
abbrev pub held_for : List (Option (List ℕ)) → Field → Option (List ℕ)
held_for slots field = held_at slots (home field)

-- the names that a table asks for, in its order
abbrev pub names_of : List Rule → List (List ℕ)
names_of rules = map (λ rule. name_of rule.field) rules

-- an empty slot takes the value of the first of these tokens that has its name, and a full one keeps its own
abbrev pub AreFilled : List Rule → List NameValue → List (Option (List ℕ)) → List (Option (List ℕ)) → Type 0
AreFilled rules tokens before after = (place : ℕ) → place < length rules →
    slice_index_or after place None ≡ option_or (slice_index_or before place None) (value_in tokens (slice_index_or (names_of rules) place []))

-- each slot has the value of the first token of its name
abbrev pub AreFound : List Rule → List ℕ → List (Option (List ℕ)) → Type 0
AreFound rules raw slots = (place : ℕ) → place < length rules →
    slice_index_or slots place None ≡ field_of raw (slice_index_or (names_of rules) place [])
