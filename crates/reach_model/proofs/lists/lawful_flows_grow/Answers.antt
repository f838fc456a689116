use Rattle.reach_model.proofs.Numbering.{lawful_next, only_next, known_push}
use Rattle.reach_model.proofs.lists.lawful_flows_grow.Goals as goal

pub returns-clause-next : goal.returns-clause-next
returns-clause-next c = lawful_next

pub returns-clause-only_next : goal.returns-clause-only_next
returns-clause-only_next c = only_next

pub returns-clause-known : goal.returns-clause-known
returns-clause-known c = known_push
