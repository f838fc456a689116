-- How a run began.
use Rattle.std.specs.Prelude.{ℕ, List, Option}
use Rattle.audit_order.specs.declared.bounds.Bounds.{Bounds}
use Rattle.audit_order.specs.declared.switches.Switches.{Switches}

-- what was written before a run, if that is known, how long lines wait in it and how many, and which of them it rewrites
pub record Start : Type 0 where
  pub written : Option (List ℕ)
  pub bounds : Bounds
  pub switches : Switches
