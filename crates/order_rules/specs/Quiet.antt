-- Lines that say nothing that a rule asks for.
use Rattle.std.specs.Prelude.{◌||◌, Bool, List, ℕ, codes, nat_eq}
use Rattle.std.specs.List.{starts_with}

-- the records of a title, of an event's end and of a program's arguments, without a node
abbrev pub is_quiet : List ℕ → Bool
is_quiet line =
    starts_with nat_eq line (codes "type=PROCTITLE ")
    || (starts_with nat_eq line (codes "type=EOE ") || starts_with nat_eq line (codes "type=EXECVE "))

-- the record of a path, without a node
abbrev pub is_path : List ℕ → Bool
is_path line = starts_with nat_eq line (codes "type=PATH ")
