use Rattle.std.proofs.Common.{◌≤◌, ◌+◌, ℕ, sym, subst}
use Rattle.order_place.specs.Sights.{others_in}
use Rattle.order_place.proofs.ClockLemmas.{shared}
use Rattle.order_place.proofs.laws.the_clock_is_shared.Goals as goal

pub returns : goal.returns
returns c seen sights serial stands = subst (λ (t : ℕ). t ≤ others_in sights serial + 20000) (sym stands.clock) (shared sights serial)
