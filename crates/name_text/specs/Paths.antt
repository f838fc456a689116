-- Paths, as the parts between their slashes.
use Rattle.std.specs.Prelude.{◌≡◌, ℕ, List, [], ◌∷◌, ◌++◌, Bool, true, false, not, ◌&&◌, ◌==◌, if◌then◌else◌, length, take, filter, codes, Option, None, Some}
use Rattle.std.specs.List.{slice_split, join_with_byte}
use Rattle.std.specs.Str.{bytes_eq}

-- whether a byte parts two parts
abbrev pub is_slash : ℕ → Bool
is_slash byte = byte == 47

-- whether a path begins with a slash
abbrev pub is_absolute : List ℕ → Bool
is_absolute [] = false
is_absolute (first ∷ rest) = is_slash first

-- an absolute name stands alone; another stands after the working directory and a slash, if there is one
abbrev pub whole : Option (List ℕ) → List ℕ → List ℕ
whole None name = name
whole (Some cwd) name = if is_absolute name then name else cwd ++ 47 ∷ name

-- whether a part leads anywhere: it has bytes and isn't `.`
abbrev pub is_named : List ℕ → Bool
is_named part = not (length part == 0) && not (bytes_eq part (codes "."))

-- whether a part leads up
abbrev pub is_up : List ℕ → Bool
is_up part = bytes_eq part (codes "..")

-- the parts of a path that lead anywhere
abbrev pub parts_of : List ℕ → List (List ℕ)
parts_of path = filter is_named (slice_split is_slash path)

-- a part before others: a name goes out together with a `..` that stands right after it
abbrev pub before : List ℕ → List (List ℕ) → List (List ℕ)
before part [] = part ∷ []
before part (next ∷ rest) = if is_up next && not (is_up part) then rest else part ∷ next ∷ rest

-- the parts after each `..` has taken out the name before it, if there is one
abbrev pub resolved : List (List ℕ) → List (List ℕ)
resolved [] = []
resolved (part ∷ rest) = before part (resolved rest)

-- the parts after the leading `..`
abbrev pub below_root : List (List ℕ) → List (List ℕ)
below_root [] = []
below_root (part ∷ rest) = if is_up part then below_root rest else part ∷ rest

-- the parts that stay: no `..` leads above the root of an absolute path
abbrev pub kept : Bool → List (List ℕ) → List (List ℕ)
kept absolute parts = if absolute then below_root (resolved parts) else resolved parts

-- the parts joined by slashes, with one before them in an absolute path; no parts are `/` or `.`
abbrev pub path_of : Bool → List (List ℕ) → List ℕ
path_of true parts = 47 ∷ join_with_byte 47 parts
path_of false [] = codes "."
path_of false (part ∷ rest) = join_with_byte 47 (part ∷ rest)

-- a path without empty parts, `.`, and each `..` that can be followed
abbrev pub tidied : List ℕ → List ℕ
tidied path = path_of (is_absolute path) (kept (is_absolute path) (parts_of path))

-- the first bytes of the tidied path of a name in a working directory
abbrev pub joined : Option (List ℕ) → List ℕ → ℕ → List ℕ
joined cwd name limit = take limit (tidied (whole cwd name))

-- whatever parts were put before, the kept ones become those with more parts after
abbrev pub Gains : Bool → List (List ℕ) → List (List ℕ) → List (List ℕ) → Type 0
Gains absolute old new more = (earlier : List (List ℕ)) → old ≡ kept absolute earlier → new ≡ kept absolute (earlier ++ filter is_named more)
