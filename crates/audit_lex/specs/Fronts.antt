-- What stands at the front of a text.
use Rattle.std.specs.Prelude.{◌≡◌, ◌<◌, ◌-◌, ◌==◌, ◌||◌, ◌↔◌, ℕ, List, [], length, drop, take, slice_index, Bool, true, not, Option, None, Some, IfSome, if◌then◌else◌}
use Rattle.std.specs.List.{list_all, slice_index_or}
use Rattle.std.specs.Option.{option_to_list}
use Rattle.audit_lex.specs.FieldTable.{slot_rules}
use Rattle.audit_lex.specs.FieldNames.{field_called}
use Rattle.audit_lex.specs.Slots.{names_of, slot_value}
use Rattle.audit_lex.specs.Tokens.{NameValue, name_len, word_len, token_at, token_len, value_in}
use Rattle.audit_lex.specs.declared.fields.Kind.{Kind}
use Rattle.audit_lex.specs.declared.fields.Field.{Field}
use Rattle.audit_lex.specs.declared.fronts.Token.{Token}
use Rattle.audit_lex.specs.declared.fronts.Front.{Front}
use Rattle.audit_lex.specs.declared.usual.Usual.{Usual}

-- the token that was borrowed, if it has a name
abbrev pub token_seen : Token → Option NameValue
token_seen token = if length token.value.now == 0 then None else Some (record { name = token.name.now; value = drop 1 token.value.now })

-- the value that a place is offered, if it is the one that was found
abbrev pub offered_from : Option ℕ → List ℕ → ℕ → Option (List ℕ)
offered_from None bytes place = None
offered_from (Some here) bytes place = if here == place then slot_value bytes else None

-- what a front offers a place
abbrev pub offered_at : Front → ℕ → Option (List ℕ)
offered_at front place = offered_from front.place front.value.now place

-- what a text begins with: what it offers each place of the table, and the text after it
pub record IsFrontOf (kind : Kind) (text : List ℕ) (front : Front) : Type 0 where
  pub offers : (place : ℕ) → place < length (slot_rules kind)
      → value_in (option_to_list (token_at text)) (slice_index_or (names_of (slot_rules kind)) place []) ≡ offered_at front place
  pub within : IfSome front.place (λ place. place < length (slot_rules kind))
  pub value : IfSome front.place (λ place. 0 < length front.value.now)
  pub rest : front.rest.now ≡ drop (token_len text) text
  pub shorter : length front.rest.now < length text

-- the name that the text begins with is of this length, has an `=` after it, and this place in the table
pub record IsUsual (kind : Kind) (text : List ℕ) (usual : Usual) : Type 0 where
  pub len : name_len text ≡ usual.len
  pub named : usual.len < word_len text
  pub place : (place : ℕ) → place < length (slot_rules kind) → (usual.place ≡ Some place) ↔ (slice_index_or (names_of (slot_rules kind)) place [] ≡ take usual.len text)
  pub within : IfSome usual.place (λ place. place < length (slot_rules kind))

-- neither a space nor an `=`
abbrev pub is_name_byte : ℕ → Bool
is_name_byte byte = not (byte == 32 || byte == 61)

-- a name of this field, or of none, and an `=` after it
pub record IsNameFront (front : List ℕ) (called : Option Field) : Type 0 where
  pub some : 0 < length front
  pub name : list_all is_name_byte (take (length front - 1) front) ≡ true
  pub equals : slice_index front (length front - 1) ≡ 61
  pub field : field_called (take (length front - 1) front) ≡ called
