-- How lines are rewritten by what they say alone.
use Rattle.std.specs.Prelude.{ℕ, ◌+◌, ◌&&◌, Bool, List, ◌++◌, length, take, drop, Option, None, Some, option_map, nat_eq, codes, decimal, if◌then◌else◌}
use Rattle.std.specs.List.{starts_with, ends_with}
use Rattle.std.specs.Option.{option_and_then}
use Rattle.std.specs.Str.{bytes_eq}
use Rattle.audit_lex.specs.Header.{behind}
use Rattle.audit_lex.specs.Values.{dec32_of}
use Rattle.order_text.specs.Cut.{first_cut}
use Rattle.order_text.specs.Stamp.{Stamp}
use Rattle.order_text.specs.declared.rewrite.Rewrite.{Rewrite}
use Rattle.order_lines.specs.Gate.{native_of}
use Rattle.order_lines.specs.declared.rules.Settings.{Settings}

-- ---- calls of the 32-bit gate

-- what stands before the number of such a call
abbrev pub OLD_CALL : List ℕ
OLD_CALL = codes ": arch=40000003 syscall="

-- the record of a call, by what stands before its stamp
abbrev pub is_call : List ℕ → Bool
is_call front = ends_with nat_eq front (codes "type=SYSCALL msg=audit")

-- the digits of the number of a call, and the number of the 64-bit call that stands for it
abbrev pub native_with : List ℕ × List ℕ → Option (List ℕ × ℕ)
native_with parts = option_map (λ native. (parts.0, native)) (option_and_then native_of (dec32_of parts.0))

-- the same, for a number that stands before a blank in the record of a call
abbrev pub call_after : List ℕ → List ℕ → Option (List ℕ × ℕ)
call_after front text = if is_call front then option_and_then native_with (first_cut 32 text) else None

abbrev pub call_in : Stamp → Option (List ℕ × ℕ)
call_in s = option_and_then (call_after s.front) (behind OLD_CALL s.rest)

-- the 64-bit call in place of a 32-bit one
abbrev pub call_change : List ℕ × ℕ → Rewrite
call_change found = record { len = 24 + length found.0; text = codes ": arch=c000003e syscall=" ++ decimal found.1 }

-- a line of a 32-bit call is rewritten to the 64-bit call with the same arguments, if there is one
abbrev pub compat_of : Stamp → Option Rewrite
compat_of s = option_map call_change (call_in s)

-- ---- addresses of the kernel

-- the record of an address, by what stands before its stamp
abbrev pub is_address : List ℕ → Bool
is_address front = ends_with nat_eq front (codes "type=SOCKADDR msg=audit")

-- what stands before the first such byte, or the whole text
abbrev pub first_part : List ℕ → Option (List ℕ × List ℕ) → List ℕ
first_part text None = text
first_part text (Some parts) = parts.0

abbrev pub before_byte : ℕ → List ℕ → List ℕ
before_byte byte text = first_part text (first_cut byte text)

-- the value at the beginning of a text, up to a blank or the byte 0x1D
abbrev pub value_at : List ℕ → List ℕ
value_at text = before_byte 29 (before_byte 32 text)

-- whether a value spells the address of the kernel in a netlink socket: family 16, port id 0
abbrev pub has_port_zero : List ℕ → Bool
has_port_zero value = bytes_eq (take 8 (drop 8 value)) (codes "00000000")

abbrev pub is_kernel : List ℕ → Bool
is_kernel value = starts_with nat_eq value (codes "1000") && has_port_zero value

-- the digits of the address of the kernel, if a text begins with it
abbrev pub kernel_at : List ℕ → Option (List ℕ)
kernel_at value = if is_kernel value then Some value else None

abbrev pub kernel_after : List ℕ → List ℕ → Option (List ℕ)
kernel_after front text = if is_address front then kernel_at (value_at text) else None

abbrev pub kernel_in : Stamp → Option (List ℕ)
kernel_in s = option_and_then (kernel_after s.front) (behind (codes ": saddr=") s.rest)

-- no address in place of one
abbrev pub no_address : List ℕ → Rewrite
no_address digits = record { len = 8 + length digits; text = codes ": saddr=0100" }

-- a line with the address of the kernel is rewritten to one without an address
abbrev pub join_of : Stamp → Option Rewrite
join_of s = option_map no_address (kernel_in s)

-- ---- all rules

-- the second, if there is no first
abbrev pub or_else : Option Rewrite → Option Rewrite → Option Rewrite
or_else None second = second
or_else (Some first) second = Some first

-- a rewrite that a switch allows
abbrev pub if_on : Bool → Option Rewrite → Option Rewrite
if_on on change = if on then change else None

-- how a line is rewritten by what it says alone
abbrev pub change_of : Settings → Stamp → Option Rewrite
change_of settings s = or_else (if_on settings.compat (compat_of s)) (if_on settings.join (join_of s))
