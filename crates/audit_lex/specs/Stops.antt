-- Where a search over tokens of other names stops.
use Rattle.std.specs.Prelude.{◌≡◌, ◌<◌, ℕ, ◌+◌, ◌==◌, ◌&&◌, ◌||◌, List, Bool, length, slice_index}
use Rattle.audit_lex.specs.Tokens.{field_of}

-- a quote stands at this place, or a space after which this byte stands
abbrev pub stops_at : ℕ → List ℕ → ℕ → Bool
stops_at first text place = (slice_index text place == 32 && slice_index text (place + 1) == first) || slice_index text place == 34

-- for each name that begins with this byte, two texts have the same value
abbrev pub HasTheSame : ℕ → List ℕ → List ℕ → Type 0
HasTheSame first text rest = (name : List ℕ) → 0 < length name → slice_index name 0 ≡ first → field_of text name ≡ field_of rest name
