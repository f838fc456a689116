-- Indexes in 6 bytes.
use Rattle.std.specs.Prelude.{ℕ, ◌+◌, ◌*◌, ◌^◌}
use Rattle.reach_rows.specs.declared.index48.Index48.{Index48}

-- the index in three numbers of 16 bits, the low one first
abbrev pub index_in : Index48 → ℕ
index_in i = i.low + 2 ^ 16 * i.middle + 2 ^ 32 * i.high
