-- What a line gives the joiner.
use Rattle.std.specs.Prelude.{◌≡◌, Option, None, Some}
use Rattle.audit_record.specs.declared.types.Read.{Read}
use Rattle.audit_record.specs.declared.types.Read.TheVariants as read
use Rattle.audit_record.specs.declared.types.Record.{Record}
use Rattle.record_join.specs.Keys.{EndsAt}

-- what was read, with its record, is this record, or an end whose record this is
abbrev pub IsReadOf : Read → Record → Record → Type 0
IsReadOf read.Unused item said = ⊥
IsReadOf read.Record item said = item ≡ said
IsReadOf (read.End key) item said = EndsAt key said

-- a record that a line spells, with what was read of the line
pub record IsEntered (given : Read) (item : Record) (said : Option Record) : Type 0 where
  pub made : Record
  pub spelled : said ≡ Some made
  pub gives : IsReadOf given item made

-- what a line gives the joiner, which is nothing if it spells no record
abbrev pub IsGiven : Read → Record → Option Record → Type 0
IsGiven read.Unused item said = said ≡ None
IsGiven given item said = IsEntered given item said
