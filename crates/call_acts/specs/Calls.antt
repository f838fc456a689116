-- The table of calls, as the code has it: what its rows say.
use Rattle.std.specs.Prelude.{ℕ, ◌==◌, ◌&&◌, nat_lt, Bool, true, List, [], ◌∷◌, Option, None, Some, option_map, if◌then◌else◌}
use Rattle.audit_record.specs.declared.types.Syscall.{Syscall}
use Rattle.call_acts.specs.declared.calls.Call.{Call}
use Rattle.call_acts.specs.declared.calls.Flags.{Flags}
use Rattle.call_acts.specs.declared.calls.Flags.TheVariants as at
use Rattle.call_acts.specs.declared.calls.Row.{Row}
use Rattle.call_acts.specs.declared.calls.TheConstants.{ROWS}

-- the architecture whose calls the table has: x86-64, as records write it
abbrev pub ARCH : ℕ
ARCH = 3221225534

-- the flag of an open that empties the file
abbrev pub TRUNCATE : ℕ
TRUNCATE = 512

-- the numbers of the rows ascend
abbrev pub ascend : List Row → Bool
ascend [] = true
ascend (row ∷ []) = true
ascend (row ∷ next ∷ rows) = nat_lt row.number next.number && ascend (next ∷ rows)

-- the first of these rows that has the number
abbrev pub row_with : ℕ → List Row → Option Row
row_with number [] = None
row_with number (row ∷ rows) = if row.number == number then Some row else row_with number rows

-- the row of an architecture and a number
abbrev pub row_at : ℕ → ℕ → Option Row
row_at arch number = if arch == ARCH then row_with number ROWS else None

-- the kind of call of an architecture and a number
abbrev pub call_of : ℕ → ℕ → Option Call
call_of arch number = option_map (λ row. row.call) (row_at arch number)

-- the flags of a call, by where its row says that they are
abbrev pub flags_of : Flags → Syscall → ℕ
flags_of at.Absent call = 0
flags_of at.Truncate call = TRUNCATE
flags_of at.A0 call = call.a0
flags_of at.A1 call = call.a1
flags_of at.A2 call = call.a2
flags_of at.A3 call = call.a3
