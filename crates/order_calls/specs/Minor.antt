-- Lines that say little of descriptors.
use Rattle.std.specs.Prelude.{◌||◌, Bool, List, ℕ, codes, nat_eq}
use Rattle.std.specs.List.{starts_with}

-- the records of a title, of a path, of a working directory and of an event's end, without a node
abbrev pub is_minor : List ℕ → Bool
is_minor line =
    starts_with nat_eq line (codes "type=PROCTITLE ")
    || (starts_with nat_eq line (codes "type=PATH ")
    || (starts_with nat_eq line (codes "type=CWD ") || starts_with nat_eq line (codes "type=EOE ")))
