-- The fields of a name, by its length.
use Rattle.std.specs.Prelude.{ℕ, ◌==◌, List, length, Option, None, Some, codes, if◌then◌else◌}
use Rattle.std.specs.Str.{bytes_eq}
use Rattle.audit_lex.specs.declared.fields.Field.{Field}
use Rattle.audit_lex.specs.declared.fields.Field.TheVariants as field

-- the field of a name of two bytes
abbrev pub by_two : List ℕ → Option Field
by_two name =
    if bytes_eq name (codes "a0") then Some field.A0 else
    if bytes_eq name (codes "a1") then Some field.A1 else
    if bytes_eq name (codes "a2") then Some field.A2 else
    if bytes_eq name (codes "a3") then Some field.A3 else
    if bytes_eq name (codes "fd") then Some field.Fd else
    None

-- the field of a name of three bytes
abbrev pub by_three : List ℕ → Option Field
by_three name =
    if bytes_eq name (codes "pid") then Some field.Pid else
    if bytes_eq name (codes "exe") then Some field.Exe else
    if bytes_eq name (codes "dev") then Some field.Dev else
    if bytes_eq name (codes "cwd") then Some field.Cwd else
    if bytes_eq name (codes "fd0") then Some field.Fd0 else
    if bytes_eq name (codes "fd1") then Some field.Fd1 else
    None

-- the field of a name of four bytes
abbrev pub by_four : List ℕ → Option Field
by_four name =
    if bytes_eq name (codes "arch") then Some field.Arch else
    if bytes_eq name (codes "exit") then Some field.Exit else
    if bytes_eq name (codes "ppid") then Some field.Ppid else
    if bytes_eq name (codes "item") then Some field.Item else
    if bytes_eq name (codes "name") then Some field.Name else
    None

-- the field of a name of five bytes
abbrev pub by_five : List ℕ → Option Field
by_five name =
    if bytes_eq name (codes "inode") then Some field.Inode else
    if bytes_eq name (codes "saddr") then Some field.Saddr else
    None

-- the field of a name of seven bytes
abbrev pub by_seven : List ℕ → Option Field
by_seven name =
    if bytes_eq name (codes "syscall") then Some field.Syscall else
    if bytes_eq name (codes "success") then Some field.Success else
    if bytes_eq name (codes "objtype") then Some field.Objtype else
    None

-- the field of a name of eight bytes
abbrev pub by_eight : List ℕ → Option Field
by_eight name =
    if bytes_eq name (codes "nametype") then Some field.Nametype else
    None

-- the field of a name
abbrev pub field_called : List ℕ → Option Field
field_called name =
    if length name == 2 then by_two name else
    if length name == 3 then by_three name else
    if length name == 4 then by_four name else
    if length name == 5 then by_five name else
    if length name == 7 then by_seven name else
    if length name == 8 then by_eight name else
    None
