-- Keys and names that are entered one after the other. Both lists are ordered newest first.
use Rattle.std.specs.Prelude.{◌≡◌, ◌≤◌, ◌+◌, ◌++◌, ℕ, true, List, [], ◌∷◌, length, map, min}
use Rattle.std.specs.List.{list_any}
use Rattle.flow_base.specs.declared.types.Key.{Key}
use Rattle.flow_base.specs.contracts.types.KeyPartialEq.TheImpl.{ghosts}
use Rattle.acts.specs.Keys.{put_new, names_of}
use Rattle.entity_names.specs.Known.{Known, NamesAs, names_at, saved_at, capacity_at}
use Rattle.flow_events.specs.declared.given.Given.{Given}

-- the objects after these keys, each of which is appended if it is new
abbrev pub entered : List Key → List Key → List Key
entered seen [] = seen
entered seen (key ∷ before) = put_new ghosts.eq (entered seen before) key

-- a key with a name that was given to it
abbrev pub pair_of : Given → Key × List ℕ
pair_of given = (given.key, given.text)

-- what was given, oldest first
abbrev pub pairs_of : List Given → List (Key × List ℕ)
pairs_of [] = []
pairs_of (given ∷ before) = pairs_of before ++ pair_of given ∷ []

-- these names give each key the same as those
abbrev pub SameNames : List (Key × List ℕ) → List (Key × List ℕ) → Type 0
SameNames given other = (key : Key) → names_of key given ≡ names_of key other

-- after those that the table stands for, and any that came since, these names give each key the same as those
pub record NameAlike (table : Known) (given other : List (Key × List ℕ)) : Type 0 where
  pub each : (before since : List (Key × List ℕ)) → NamesAs table before → SameNames ((before ++ since) ++ given) ((before ++ since) ++ other)

-- there is room for each of these names of this key
abbrev pub CoversKey : Known → List Given → Key → Type 0
CoversKey table given key = min table.most_names (length (names_at table key) + length given) ≤ capacity_at table key

-- there is room for each of these names
pub record Covers (table : Known) (given : List Given) : Type 0 where
  pub each : (key : Key) → list_any (ghosts.eq key) (map (λ g. g.key) given) ≡ true → CoversKey table given key

-- each key had as many names at the mark as before
abbrev pub SavedAlike : Known → Known → Type 0
SavedAlike old new = (key : Key) → saved_at new key ≡ saved_at old key

-- the table has these names after those that it had
abbrev pub AddsNames : Known → Known → List (Key × List ℕ) → Type 0
AddsNames old new more = (all : List (Key × List ℕ)) → NamesAs old all → NamesAs new (all ++ more)

-- the tables differ at most in their keys and in the room for more keys
abbrev pub ChangesKeys : Known → Known → Type 0
ChangesKeys old new = new ≡ record old { keys = new.keys; spare = new.spare }
