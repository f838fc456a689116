-- The table of objects and names, and what it stands for.
use Rattle.std.specs.Prelude.{⊤, Bool, ◌∷◌, if◌then◌else◌, ◌++◌, ◌+◌, ◌≡◌, ◌<◌, ◌≤◌, ◌⊎◌, ◌||◌, ℕ, zero, suc, List, [], length, take, drop, map, nat_le, Option, None, Some}
use Rattle.std.specs.List.{list_any, flat_map}
use Rattle.std.specs.Map.{lookup}
use Rattle.std.specs.Cmp.Lexicographic.{pointwise}
use Rattle.std.specs.Prelude.{nat_eq}
use Rattle.flow_base.specs.declared.types.Key.{Key}
use Rattle.flow_base.specs.declared.types.EntityId.{EntityId}
use Rattle.flow_base.specs.declared.limits.Full.{Full}
use Rattle.flow_base.specs.declared.limits.Limit.TheVariants as limit
use Rattle.flow_base.specs.contracts.types.KeyPartialEq.TheImpl.{ghosts}
use Rattle.acts.specs.Keys.{names_of}
use Rattle.entity_names.specs.KeyNames.{KeyNames}
use Rattle.entity_names.specs.declared.key_names.Named.{Named}

-- the known keys in order of first appearance, how many there may be, how many names a key may have,
-- the names of keys with how many of them were saved, and the room for more keys
pub record Known : Type 0 where
  pub keys : List Key
  pub limit : ℕ
  pub most_names : ℕ
  pub names : List (Key × KeyNames)
  pub spare : ℕ

abbrev pub texts : Option KeyNames → List (List ℕ)
texts None = []
texts (Some names) = names.texts

-- the names of a key, none if it has no list
abbrev pub names_at : Known → Key → List (List ℕ)
names_at table key = texts (lookup (ghosts.eq key) table.names)

abbrev pub saved_in : Option KeyNames → ℕ
saved_in None = 0
saved_in (Some names) = names.saved

-- how many names a key had at the mark, none if it has no list
abbrev pub saved_at : Known → Key → ℕ
saved_at table key = saved_in (lookup (ghosts.eq key) table.names)

abbrev pub places : Option KeyNames → ℕ
places None = 0
places (Some names) = names.capacity

-- how many names of a key fit without memory
abbrev pub capacity_at : Known → Key → ℕ
capacity_at table key = places (lookup (ghosts.eq key) table.names)

-- one more name of the key needs no memory: there is a place for it, or the key has all that it may have
abbrev pub HasPlace : Known → Key → Type 0
HasPlace table key = (length (names_at table key) < capacity_at table key) ⊎ (table.most_names ≤ length (names_at table key))

-- a text is appended if it is new and fewer than this many are there
abbrev pub with_name_within : ℕ → List (List ℕ) → List ℕ → List (List ℕ)
with_name_within most names text = if list_any (pointwise nat_eq text) names || nat_le most (length names) then names else names ++ text ∷ []

-- each key has the first of the names that were given to it by these pairs of a key and a text, as many as it may have
pub record NamesAs (table : Known) (given : List (Key × List ℕ)) : Type 0 where
  pub each : (key : Key) → names_at table key ≡ take table.most_names (names_of key given)

-- each key has the names and the places that it had
pub record NamesStay (old new : List (Key × KeyNames)) : Type 0 where
  pub texts_are : (key : Key) → texts (lookup (ghosts.eq key) new) ≡ texts (lookup (ghosts.eq key) old)
  pub places_are : (key : Key) → places (lookup (ghosts.eq key) new) ≡ places (lookup (ghosts.eq key) old)

-- names with their keys, as pairs
abbrev pub pairs_of : List Named → List (Key × List ℕ)
pairs_of named = map (λ n. (n.key, n.text)) named

-- the text of a pair, if its key is this one
abbrev pub text_if : Key → Key × List ℕ → List (List ℕ)
text_if key pair = if ghosts.eq pair.0 key then pair.1 ∷ [] else []

-- the texts that stand beside a key
abbrev pub texts_of : Key → List (Key × List ℕ) → List (List ℕ)
texts_of key pairs = flat_map (text_if key) pairs

-- beside each key stand its names that came since the mark
abbrev pub AreNew : Known → List (Key × List ℕ) → Type 0
AreNew table pairs =
    (key : Key) → texts_of key pairs ≡ drop (saved_at table key) (names_at table key)

-- the names of a key that came since the mark, each with the key
abbrev pub new_pairs : Key × KeyNames → List (Key × List ℕ)
new_pairs entry = map (λ text. (entry.0, text)) (drop entry.1.saved entry.1.texts)

-- all names of the first keys, this many of them, were there at the mark
abbrev pub AreSaved : ℕ → List (Key × KeyNames) → Type 0
AreSaved zero entries = ⊤
AreSaved (suc n) [] = ⊥
AreSaved (suc n) (entry ∷ entries) = (entry.1.saved ≡ length entry.1.texts) × AreSaved n entries

-- no more objects than these
abbrev pub full_at : ℕ → Full
full_at number = record { limit = limit.Entities; number = number }

-- the numbers, from the first on, of the keys that pass
module _ (test : Key → Bool) where
  abbrev pub ids_where : ℕ → List Key → List EntityId
  ids_where first [] = []
  ids_where first (key ∷ keys) = (if test key then record { 0 = first } ∷ [] else []) ++ ids_where (first + 1) keys
