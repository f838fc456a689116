use Rattle.std.proofs.Common.{ap, Err}
use Rattle.entity_names.specs.Known.{full_at}
use Rattle.flow_events.proofs.Rooms.{past_limit}
use Rattle.flow_events.proofs.passes.enter.Goals as goal

pub unreachable-requires : goal.unreachable-requires
unreachable-requires c =
    let why = c.in-Err.ensures.room c.requires.room in
    let facts = (c.in-Err.ensures.full (full_at c.args.entities.now.limit)).0 (ap Err why) in
    past_limit c.args.entities.now.keys c.args.key c.args.entities.now.limit facts.1.0 facts.1.1 c.requires.fits
