-- Names of descriptors.
use Rattle.std.specs.Prelude.{ℕ, ◌&&◌, Bool, List, Option, None, Some, nat_eq, nat_lt, codes, is_some, if◌then◌else◌}
use Rattle.std.specs.List.{ends_with}
use Rattle.std.specs.Option.{option_and_then, option_or}
use Rattle.std.specs.Str.{bytes_eq}
use Rattle.audit_lex.specs.Header.{behind}
use Rattle.audit_lex.specs.Values.{dec32_of}
use Rattle.order_text.specs.Cut.{first_cut}
use Rattle.order_text.specs.Stamp.{Stamp}
use Rattle.order_lines.specs.Rules.{before_byte}
use Rattle.order_lines.specs.declared.own.Own.{Own}

-- the number below 256 that decimal digits spell
abbrev pub if_low : ℕ → Option ℕ
if_low number = if nat_lt number 256 then Some number else None

abbrev pub fd_of : List ℕ → Option ℕ
fd_of text = option_and_then if_low (dec32_of text)

-- the descriptor of a standard stream
abbrev pub standard : List ℕ → Option ℕ
standard name =
    if bytes_eq name (codes "/dev/stdin") then Some 0
    else if bytes_eq name (codes "/dev/stdout") then Some 1
    else if bytes_eq name (codes "/dev/stderr") then Some 2 else None

-- what stands after the name of a folder of the process's own descriptors
abbrev pub in_folder : List ℕ → Option (List ℕ)
in_folder name =
    option_or (behind (codes "/dev/fd/") name)
    (option_or (behind (codes "/proc/self/fd/") name) (behind (codes "/proc/thread-self/fd/") name))

-- the descriptor whose number stands there
abbrev pub listed : List ℕ → Option ℕ
listed name = option_and_then fd_of (in_folder name)

-- a descriptor of the process that uses its name
abbrev pub own_fd : List ℕ → Option ℕ
own_fd name = option_or (standard name) (listed name)

-- the descriptor of a process by its number, /proc/PID/fd/N
abbrev pub of_process : Option ℕ → Option ℕ → Option Own
of_process (Some pid) (Some fd) = Some (record { fd = fd; pid = Some pid })
of_process _ _ = None

abbrev pub in_parts : List ℕ × List ℕ → Option Own
in_parts parts = of_process (dec32_of parts.0) (option_and_then fd_of (behind (codes "fd/") parts.1))

abbrev pub in_process : List ℕ → Option Own
in_process name = option_and_then in_parts (option_and_then (first_cut 47) (behind (codes "/proc/") name))

-- the descriptor that a name means
abbrev pub own_from : Option ℕ → List ℕ → Option Own
own_from None name = in_process name
own_from (Some fd) name = Some (record { fd = fd; pid = None })

abbrev pub own_of : List ℕ → Option Own
own_of name = own_from (own_fd name) name

-- the descriptor that the first text between quotes names
abbrev pub own_after : List ℕ × List ℕ → Option Own
own_after parts = own_of (before_byte 34 parts.1)

abbrev pub own_in : List ℕ → Option Own
own_in text = option_and_then own_after (first_cut 34 text)

-- whether a line of this stamp is the record of a path that names a descriptor
abbrev pub names_own : Stamp → Bool
names_own s = ends_with nat_eq s.front (codes "type=PATH msg=audit") && is_some (own_in s.rest)
