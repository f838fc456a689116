-- Causes of a halt, as they are seen from an earlier moment of a run.
use Rattle.std.proofs.Common.{ℕ, ◌≤◌, inl, inr, arith}
use Rattle.outside.specs.Cause.{Rose}
use Rattle.audit_order.specs.declared.halt.Halt.{Halt}
use Rattle.audit_order.specs.declared.halt.Halt.TheVariants as halt
use Rattle.audit_order.specs.Halts.{HasCauses}

-- what a sink causes by calls since a later moment it causes by those since an earlier one
pub since_before : (read : Type 0) (a b now : ℕ) (spent : Type 0) (why : Halt) → a ≤ b → HasCauses ⊥ (Rose b now spent) why → HasCauses read (Rose a now spent) why
since_before read a b now spent halt.NoMemory le has = tt
since_before read a b now spent halt.ReadFault le has = absurd has
since_before read a b now spent halt.WriteFault le (inl rose) = inl (omega arith)
since_before read a b now spent halt.WriteFault le (inr gone) = inr gone
