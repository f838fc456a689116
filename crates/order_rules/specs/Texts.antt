-- Texts of values, and what becomes of a line whose value is another.
use Rattle.std.specs.Prelude.{ℕ, ◌+◌, ◌-◌, ◌==◌, ◌&&◌, ◌||◌, not, Bool, List, [], ◌∷◌, ◌++◌, length, take, Option, None, Some, nat_eq, nat_le, if◌then◌else◌}
use Rattle.std.specs.List.{list_all, ends_with}
use Rattle.std.specs.Option.{option_and_then}
use Rattle.std.specs.Str.{bytes_eq}
use Rattle.hex.specs.Hex.{encode_upper}
use Rattle.order_text.specs.Cut.{Parts, first_cut}
use Rattle.order_text.specs.Stamp.{Stamp, stamp_of}
use Rattle.order_text.specs.declared.rewrite.Rewrite.{Rewrite}

-- a byte that the kernel writes between quotes: it can be printed, and is neither a blank nor a quote
abbrev pub is_plain : ℕ → Bool
is_plain byte = nat_le 33 byte && nat_le byte 126 && not (byte == 34)

-- a text as the kernel writes it: between quotes, or in hex digits
abbrev pub written_text : List ℕ → List ℕ
written_text text = if list_all is_plain text then 34 ∷ (text ++ 34 ∷ []) else encode_upper text

-- a colon or a blank
abbrev pub is_lead_byte : ℕ → Bool
is_lead_byte byte = byte == 58 || byte == 32

-- whether nothing but a colon, blanks and the name of a field stands there
abbrev pub is_lead : List ℕ → List ℕ → Bool
is_lead name front = ends_with nat_eq front name && list_all is_lead_byte (take (length front - length name) front)

-- what stands before the first such byte, or the whole text
abbrev pub before_cut : List ℕ → Option Parts → List ℕ
before_cut text None = text
before_cut text (Some parts) = parts.0

abbrev pub before_byte : ℕ → List ℕ → List ℕ
before_byte byte text = before_cut text (first_cut byte text)

-- the value that a text begins with: it ends before a blank and before the mark of what was added to a line
abbrev pub value_of : List ℕ → List ℕ
value_of text = before_byte 29 (before_byte 32 text)

-- the text after a stamp with another value in its first field, if that has this name and not this value
abbrev pub rewrite_from : List ℕ → List ℕ → Parts → Option Rewrite
rewrite_from name value parts =
    if is_lead name parts.0 && not (bytes_eq (value_of parts.1) value)
    then Some (record { len = length parts.0 + 1 + length (value_of parts.1); text = parts.0 ++ 61 ∷ value })
    else None

abbrev pub rewrite_rest : List ℕ → List ℕ → Stamp → Option Rewrite
rewrite_rest name value s = option_and_then (rewrite_from name value) (first_cut 61 s.rest)

-- a line with another value in the first field after its stamp, if that has this name and not this value
abbrev pub rewrite_line : List ℕ → List ℕ → List ℕ → Option Rewrite
rewrite_line name value line = option_and_then (rewrite_rest name value) (stamp_of line)
