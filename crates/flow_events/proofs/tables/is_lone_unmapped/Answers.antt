use Rattle.std.proofs.Common.{sym}
use Rattle.flow_events.proofs.Unmapped.{mapped_where_more}
use Rattle.flow_events.proofs.tables.is_lone_unmapped.Goals as goal

pub returns-then-acts-gt1 : goal.returns-then-acts-gt1
returns-then-acts-gt1 c =
    let limit = c.requires.acts.0 in
    sym (mapped_where_more limit c.args.event.now.records.now c.args.acts.now c.requires.acts.1 c.if-acts-gt1.true)
