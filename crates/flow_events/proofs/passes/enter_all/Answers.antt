use Rattle.std.proofs.Common.{ap}
use Rattle.flow_events.proofs.Rooms.{next_fits}
use Rattle.flow_events.proofs.passes.enter_all.Goals as goal

pub enter-requires-clause-fits : goal.enter-requires-clause-fits
enter-requires-clause-fits c =
    let kept = c.loop-key.invariant.1 in
    next_fits _ _ _ _ _ _ _ _ _ kept.keys kept.all c.in-Some.ensures.some (ap (λ e. e.limit) kept.rest) c.requires.fits
