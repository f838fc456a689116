use Rattle.order_place.proofs.NodeLemmas.{sees_on_all, writes_on_all}
use Rattle.order_place.proofs.laws.places_look_back.Goals as goal

pub returns-clause-sees : goal.returns-clause-sees
returns-clause-sees c = sees_on_all

pub returns-clause-writes : goal.returns-clause-writes
returns-clause-writes c = writes_on_all
