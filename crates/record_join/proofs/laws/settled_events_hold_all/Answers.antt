use Rattle.record_join.proofs.HoldsAll.{holds_all}
use Rattle.record_join.proofs.laws.settled_events_hold_all.Goals as goal

pub returns : goal.returns
returns c = holds_all
