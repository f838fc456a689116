use Rattle.record_join.proofs.Splits.{all_shut_split}
use Rattle.record_join.proofs.group_map.Groups.close_all.Goals as goal

pub invariant_of-self : goal.invariant_of-self
invariant_of-self c = all_shut_split _ _ _ _ c.close_each.ensures c.close_last.ensures c.self.invariant
