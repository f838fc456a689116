-- Pairs of numbers, as keys of tables.
use Rattle.std.specs.Prelude.{ℕ, ◌&&◌, nat_eq, Bool}

-- two pairs of numbers are one
abbrev pub pair_eq : ℕ × ℕ → ℕ × ℕ → Bool
pair_eq a b = nat_eq a.0 b.0 && nat_eq a.1 b.1
