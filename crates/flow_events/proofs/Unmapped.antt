-- Events whose call is not in the table.
use Rattle.std.proofs.Common.{◌≡◌, ◌<◌, ◌∷◌, ℕ, false, ap, refl, List, Option, None, Some, length, arith}
use Rattle.audit_record.specs.declared.types.Record.{Record}
use Rattle.audit_record.specs.declared.types.Syscall.{Syscall}
use Rattle.acts.specs.declared.act.Act.{Act}
use Rattle.acts.specs.declared.act.Act.TheVariants.{See}
use Rattle.call_acts.specs.declared.calls.Row.{Row}
use Rattle.call_acts.specs.Acts.{acts_by, acts_from, event_acts, row_of, has_no_row, is_without_row, is_unmapped}
use Rattle.call_acts.specs.Records.{call}

-- a call without a row has no acts but its see
mapped_by : (limit : ℕ) (records : List Record) (caller : Syscall) (see : Act) (row : Option Row) → 1 < length (see ∷ acts_by limit records caller row) → has_no_row row ≡ false
mapped_by limit records caller see None more = absurd (omega (arith, more))
mapped_by limit records caller see (Some row) more = refl

mapped_from : (limit : ℕ) (records : List Record) (caller : Option Syscall) → 1 < length (acts_from limit records caller) → is_without_row caller ≡ false
mapped_from limit records None more = refl
mapped_from limit records (Some caller) more = mapped_by limit records caller (See caller.pid caller.ppid caller.exe) (row_of caller) more

-- an event with a second act has a call that is in the table, or none
pub mapped_where_more : (limit : ℕ) (records : List Record) (acts : List Act) → acts ≡ event_acts limit records → 1 < length acts → is_unmapped records ≡ false
mapped_where_more limit records acts is more = mapped_from limit records (call records) (let same = ap length is in omega (arith, same, more))
