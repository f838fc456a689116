-- The room for the numbers of lives.
use Rattle.std.specs.Prelude.{◌<◌, ℕ, IfSome}
use Rattle.proc_table.specs.Table.{Table, at}

-- no life has so great a number
abbrev pub LivesBelow : Table → ℕ → Type 0
LivesBelow table most = (p : ℕ) → IfSome (at table p) (λ last. last.life < most)
