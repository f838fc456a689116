-- The table of births, and what it stands for. Every list of acts is ordered newest first.
use Rattle.std.specs.Prelude.{◌≡◌, ◌<◌, ◌+◌, ◌-◌, ◌^◌, ℕ, Option, None, Some, List, [], ◌∷◌, unwrap_or, if◌then◌else◌}
use Rattle.std.specs.List.{sum_by}
use Rattle.std.specs.Map.{lookup}
use Rattle.flow_base.specs.declared.types.FileId.{FileId}
use Rattle.flow_base.specs.contracts.types.FileIdPartialEq.TheImpl.{ghosts}
use Rattle.acts.specs.declared.act.Act.{Act}
use Rattle.acts.specs.declared.act.Act.TheVariants.{Birth}
use Rattle.acts.specs.Births.{born, same_file}

-- how often each file number was born, and the room for more numbers
pub record Table : Type 0 where
  pub all : List (FileId × ℕ)
  pub spare : ℕ

-- the table, if there is one, and else one of no births
abbrev pub table_if : Option Table → Table
table_if None = record { all = []; spare = 0 }
table_if (Some table) = table

-- a number that is not in the table was never born
abbrev pub born_at : Table → FileId → ℕ
born_at table id = unwrap_or (lookup (ghosts.eq id) table.all) 0

-- each number has in the table the births that the acts have
pub record BornAs (table : Table) (acts : List Act) : Type 0 where
  pub each : (id : FileId) → born_at table id ≡ born acts id

-- the file number was born this often, and the others as often as before
abbrev pub SetsBirths : Table → Table → FileId → ℕ → Type 0
SetsBirths old new id count = (f : FileId) → born_at new f ≡ (if ghosts.eq f id then count else born_at old f)

-- no number has this many births
abbrev pub BornBelow : Table → ℕ → Type 0
BornBelow table most = (id : FileId) → born_at table id < most

-- how many births an act is
abbrev pub births_of : Act → ℕ
births_of (Birth file) = 1
births_of other = 0

-- how many of these acts are births
abbrev pub births_in : List Act → ℕ
births_in acts = sum_by births_of acts

-- the file number was born once more, if its count isn't at its end, and the others as often as before
abbrev pub CountsBirth : Table → Table → FileId → Type 0
CountsBirth old new id =
    born_at old id < 2 ^ 64 - 1 → (f : FileId) → born_at new f ≡ (if same_file id f then born_at old f + 1 else born_at old f)

-- if no count is at its end, the table has the births of this act after those that it had
abbrev pub BearsAct : Table → Table → Act → Type 0
BearsAct old new act = BornBelow old (2 ^ 64 - 1) → (acts : List Act) → BornAs old acts → BornAs new (act ∷ acts)
