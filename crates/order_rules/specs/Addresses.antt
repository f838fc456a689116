-- Addresses of the internet, as the kernel has their bytes.
use Rattle.std.specs.Prelude.{ℕ, ◌==◌, ◌&&◌, ◌||◌, Bool, true, false, List, [], ◌∷◌, ◌++◌, length, take, drop, replicate, slice_index, Option, None, Some, option_map, nat_le, if◌then◌else◌}
use Rattle.std.specs.List.{list_all}
use Rattle.std.specs.Str.{bytes_eq}
use Rattle.name_text.specs.Addresses.{key_of}

-- a host of 4 or 16 bytes, and the two bytes of a port
abbrev pub Inet : Type 0
Inet = List ℕ × List ℕ

abbrev pub is_zero : ℕ → Bool
is_zero byte = byte == 0

-- the host that stands for each of this machine
abbrev pub is_any : List ℕ → Bool
is_any host = list_all is_zero host

-- whether a host of 16 bytes maps one of 4: these stand after ten zeros and two bytes 255
abbrev pub is_mapped : List ℕ → Bool
is_mapped host = is_any (take 10 host) && (slice_index host 10 == 255 && slice_index host 11 == 255)

-- a host of 16 bytes, or the 4 bytes that it maps
abbrev pub host_in : List ℕ → List ℕ
host_in host = if is_mapped host then drop 12 host else host

-- whether bytes are of this family, the low byte first
abbrev pub is_family : ℕ → List ℕ → Bool
is_family family bytes = nat_le 8 (length bytes) && slice_index bytes 0 == family && slice_index bytes 1 == 0

-- the bytes of the port
abbrev pub port_in : List ℕ → List ℕ
port_in bytes = take 2 (drop 2 bytes)

-- the host and the port of an address of family 2 or 10
abbrev pub inet_of : List ℕ → Option Inet
inet_of bytes =
    if is_family 2 bytes then Some (take 4 (drop 4 bytes), port_in bytes)
    else if is_family 10 bytes && nat_le 24 (length bytes)
    then Some (host_in (take 16 (drop 8 bytes)), port_in bytes) else None

-- 127.0.0.0/8 and ::1
abbrev pub is_loopback : List ℕ → Bool
is_loopback host = (length host == 4 && slice_index host 0 == 127) || bytes_eq host (replicate 15 0 ++ 1 ∷ [])

-- what of an address of a host and a port names the other end, as the kernel writes it
abbrev pub inet_key : List ℕ → List ℕ → List ℕ
inet_key host port =
    if length host == 4 then 2 ∷ 0 ∷ (port ++ host) else 10 ∷ 0 ∷ (port ++ (replicate 4 0 ++ host))

-- the address of a host and a port, as the kernel writes it
abbrev pub address_of : List ℕ → List ℕ → List ℕ
address_of host port = inet_key host port ++ (if length host == 4 then replicate 8 0 else replicate 4 0)

-- an address of family 1
abbrev pub is_unix : List ℕ → Bool
is_unix bytes = nat_le 2 (length bytes) && slice_index bytes 0 == 1 && slice_index bytes 1 == 0

-- the place that an address names on this machine: a port, or what of an address of family 1 names the other end
abbrev pub place_by : Bool → List ℕ → Option (List ℕ)
place_by true bytes = key_of bytes
place_by false bytes = option_map (λ inet. inet.1) (inet_of bytes)

abbrev pub place_of : List ℕ → Option (List ℕ)
place_of bytes = place_by (is_unix bytes) bytes
