-- How far a raw part was read.
use Rattle.std.specs.Prelude.{◌≡◌, ◌≢◌, ◌<◌, ◌⊎◌, ◌+◌, ℕ, List, [], length, slice_index, Option, None, is_some, true}
use Rattle.std.specs.List.{slice_index_or}
use Rattle.std.specs.Option.{option_or}
use Rattle.audit_lex.specs.FieldTable.{slot_rules}
use Rattle.audit_lex.specs.Slots.{names_of}
use Rattle.audit_lex.specs.Tokens.{field_of}
use Rattle.audit_lex.specs.declared.fields.Kind.{Kind}
use Rattle.audit_lex.specs.declared.fields.Rule.{Rule}
use Rattle.audit_lex.specs.declared.usual_run.Run.{Run}

-- what the slots have, or else the rest has, is what the raw part has
abbrev pub Finding : List Rule → List ℕ → List ℕ → List (Option (List ℕ)) → Type 0
Finding rules raw rest slots = (place : ℕ) → place < length rules →
    option_or (slice_index_or slots place None) (field_of rest (slice_index_or (names_of rules) place [])) ≡ field_of raw (slice_index_or (names_of rules) place [])

-- this many places at the front are full
abbrev pub Full : ℕ → List (Option (List ℕ)) → Type 0
Full count slots = (place : ℕ) → place < count → is_some (slice_index_or slots place None) ≡ true

-- what was read stands in the slots, and the rest is still to be read
pub record IsReadTo (kind : Kind) (raw : List ℕ) (run : Run) (slots : List (Option (List ℕ))) : Type 0 where
  pub begins : 0 < length run.rest.now → slice_index run.rest.now 0 ≢ 32
  pub table : (run.full < length (slot_rules kind)) ⊎ (run.full ≡ 0)
  pub filled : Full run.full slots
  pub finding : Finding (slot_rules kind) raw run.rest.now slots

-- with empty slots nothing was read of a raw part
abbrev pub IsAtStart : List ℕ → Run → Type 0
IsAtStart raw run = (kind : Kind) (slots : List (Option (List ℕ))) → ((place : ℕ) → slice_index_or slots place None ≡ None)
    → IsReadTo kind raw run slots

-- a raw part that was read up to one place is read up to another
abbrev pub GoesOn : Kind → Run → List (Option (List ℕ)) → Run → List (Option (List ℕ)) → Type 0
GoesOn kind before slots after filled = (raw : List ℕ) → IsReadTo kind raw before slots → IsReadTo kind raw after filled

-- one place more is full if it is the next one and not the last, and else as many as before
abbrev pub IsFullBehind : Kind → ℕ → ℕ → ℕ → Type 0
IsFullBehind kind full place count =
    (((place ≡ full) × (full + 1 < length (slot_rules kind))) × (count ≡ full + 1)) ⊎ (count ≡ full)
