use Rattle.audit_order.proofs.LesserLemmas.{lesser_go_first}
use Rattle.audit_order.proofs.laws.lesser_places_go_first.Goals as goal

pub returns : goal.returns
returns c = lesser_go_first
