-- Paths that are tidy as they are, byte by byte.
use Rattle.std.specs.Prelude.{ℕ, List, [], ◌∷◌, Bool, ◌+◌, ◌==◌, ◌&&◌, nat_lt, if◌then◌else◌}
use Rattle.name_text.specs.Paths.{is_slash}

-- how a part has begun with one byte more: 0 is nothing, 1 is `.`, 2 is `..`, and 3 is anything else, so that it is a name
abbrev pub next_begun : ℕ → ℕ → ℕ
next_begun begun byte = if byte == 46 && nat_lt begun 2 then begun + 1 else 3

-- whether each part of a text is a name, where the first part has begun so before the text
abbrev pub plain_from : ℕ → List ℕ → Bool
plain_from begun [] = begun == 3
plain_from begun (byte ∷ text) =
    if is_slash byte then begun == 3 && plain_from 0 text else plain_from (next_begun begun byte) text

-- whether each part of a path is a name; before the parts of an absolute path stands its slash
abbrev pub is_plain : List ℕ → Bool
is_plain [] = plain_from 0 []
is_plain (byte ∷ text) = if is_slash byte then plain_from 0 text else plain_from 0 (byte ∷ text)
