-- Socket addresses as the kernel has their bytes, what of them names the other end, and their texts.
use Rattle.std.specs.Prelude.{ℕ, ◌+◌, ◌*◌, List, [], ◌∷◌, ◌++◌, Bool, false, ◌==◌, if◌then◌else◌, length, take, drop, replicate, codes, decimal, nat_le, slice_index, Option, None, Some}
use Rattle.std.specs.List.{list_all, before_first, join_with_byte}
use Rattle.hex.specs.Hex.{encode_lower}
use Rattle.name_text.specs.declared.addresses.Family.{Family}
use Rattle.name_text.specs.declared.addresses.Family.TheVariants as family

-- whether a byte is zero
abbrev pub is_zero : ℕ → Bool
is_zero byte = byte == 0

-- the family of a number
abbrev pub family_of : ℕ → Family
family_of number = if number == 1 then family.Unix else if number == 2 then family.Internet else if number == 10 then family.Internet6 else family.Other

-- the family that the first two bytes name, low byte first; fewer bytes name none
abbrev pub family_in : List ℕ → Family
family_in [] = family.Other
family_in (low ∷ []) = family.Other
family_in (low ∷ high ∷ rest) = family_of (low + 256 * high)

-- what stands after the family
abbrev pub behind_family : List ℕ → List ℕ
behind_family saddr = drop 2 saddr

-- whether bytes begin with a zero
abbrev pub begins_with_zero : List ℕ → Bool
begins_with_zero [] = false
begins_with_zero (first ∷ rest) = is_zero first

-- the key of a unix address: zeros alone name nothing, a path ends before its first zero, and an abstract name is kept whole
abbrev pub unix_key : List ℕ → Option (List ℕ)
unix_key saddr =
    if list_all is_zero (behind_family saddr) then None
    else if begins_with_zero (behind_family saddr) then Some saddr
    else Some (take 2 saddr ++ before_first is_zero (behind_family saddr))

-- the key of an address by its family: the bytes that name the other end
abbrev pub key_by : Family → List ℕ → Option (List ℕ)
key_by family.Internet saddr = Some (if nat_le 8 (length saddr) then take 8 saddr else saddr)
key_by family.Internet6 saddr = Some (if nat_le 24 (length saddr) then take 4 saddr ++ (replicate 4 0 ++ take 16 (drop 8 saddr)) else saddr)
key_by family.Unix saddr = unix_key saddr
key_by family.Other saddr = Some saddr

-- the key of an address, if the bytes hold one
abbrev pub key_of : List ℕ → Option (List ℕ)
key_of saddr = key_by (family_in saddr) saddr

-- the port, the high byte first
abbrev pub port_of : List ℕ → ℕ
port_of key = 256 * slice_index key 2 + slice_index key 3

-- four decimal numbers with points, and the port
abbrev pub internet_text : List ℕ → List ℕ
internet_text key =
    decimal (slice_index key 4) ++ (codes "." ++ (decimal (slice_index key 5) ++ (codes "." ++ (decimal (slice_index key 6) ++ (codes "." ++ (decimal (slice_index key 7) ++ (codes ":" ++ decimal (port_of key))))))))

-- bytes by two, each two as four hex digits
abbrev pub groups_of : List ℕ → List (List ℕ)
groups_of [] = []
groups_of (high ∷ []) = []
groups_of (high ∷ low ∷ rest) = encode_lower (high ∷ low ∷ []) ∷ groups_of rest

-- the groups of the address with colons, in brackets, and the port
abbrev pub internet6_text : List ℕ → List ℕ
internet6_text key = codes "[" ++ (join_with_byte 58 (groups_of (drop 8 key)) ++ (codes "]:" ++ decimal (port_of key)))

-- a path, or a name with `@` in place of its first zero
abbrev pub unix_text : List ℕ → List ℕ
unix_text [] = codes "unix:@"
unix_text (first ∷ rest) = if is_zero first then codes "unix:@" ++ rest else codes "unix:" ++ first ∷ rest

-- all bytes in hex
abbrev pub bytes_text : List ℕ → List ℕ
bytes_text key = codes "family:" ++ encode_lower key

-- the text of a key by its family
abbrev pub text_by : Family → List ℕ → List ℕ
text_by family.Internet key = if length key == 8 then internet_text key else bytes_text key
text_by family.Internet6 key = if length key == 24 then internet6_text key else bytes_text key
text_by family.Unix key = unix_text (behind_family key)
text_by family.Other key = bytes_text key

-- the text of a key
abbrev pub text_of : List ℕ → List ℕ
text_of key = text_by (family_in key) key
