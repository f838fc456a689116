-- Where a text is cut in two at a byte, which is left out.
use Rattle.std.specs.Prelude.{ℕ, ◌==◌, List, [], ◌∷◌, Option, None, Some, option_map, if◌then◌else◌}

-- two parts of a text
abbrev pub Parts : Type 0
Parts = List ℕ × List ℕ

-- the same parts, the first of them with one more byte before it
abbrev pub with_byte : ℕ → Parts → Parts
with_byte b parts = (b ∷ parts.0, parts.1)

-- the first cut of a text that begins with a byte, by that of the text after it
abbrev pub first_step : ℕ → ℕ → List ℕ → Option Parts → Option Parts
first_step byte b text rest = if b == byte then Some ([], text) else option_map (with_byte b) rest

-- the parts before and after the first such byte
abbrev pub first_cut : ℕ → List ℕ → Option Parts
first_cut byte [] = None
first_cut byte (b ∷ text) = first_step byte b text (first_cut byte text)

-- the last cut of a text that begins with a byte, by that of the text after it
abbrev pub last_step : ℕ → ℕ → List ℕ → Option Parts → Option Parts
last_step byte b text (Some parts) = Some (with_byte b parts)
last_step byte b text None = if b == byte then Some ([], text) else None

-- the parts before and after the last such byte
abbrev pub last_cut : ℕ → List ℕ → Option Parts
last_cut byte [] = None
last_cut byte (b ∷ text) = last_step byte b text (last_cut byte text)
