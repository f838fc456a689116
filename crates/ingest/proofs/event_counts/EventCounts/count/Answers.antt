use Rattle.ingest.proofs.Counted.{counted_more}
use Rattle.ingest.proofs.event_counts.EventCounts.count.Goals as goal

pub returns : goal.returns
returns c = λ released event is few late unmapped. counted_more c.args.self.now released event c.args.late c.args.unmapped _ _ _ _ _ is few late unmapped
    c.from.ensures c.from-2.ensures c.saturating_add-self.ensures c.saturating_add-self-2.ensures c.saturating_add-self-3.ensures
