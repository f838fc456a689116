-- Why a run stops before its end, and its cause.
use Rattle.std.specs.Prelude.{⊤, ℕ, ◌≤◌}
use Rattle.audit_order.specs.declared.halt.Halt.{Halt}
use Rattle.audit_order.specs.declared.halt.Halt.TheVariants as halt

-- each fault of a device has its cause
abbrev pub HasCauses : (read write : Type 0) → Halt → Type 0
HasCauses read write halt.NoMemory = ⊤
HasCauses read write halt.ReadFault = read
HasCauses read write halt.WriteFault = write

-- a count of faults doesn't fall, and a spent object stays spent
pub record GoesUp (before now : ℕ) (was_spent spent : Type 0) : Type 0 where
  pub later : before ≤ now
  pub stays : was_spent → spent
