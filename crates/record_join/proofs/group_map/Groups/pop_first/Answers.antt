use Rattle.record_join.proofs.Splits.{popped_split}
use Rattle.record_join.proofs.group_map.Groups.pop_first.Goals as goal

pub invariant_of-self : goal.invariant_of-self
invariant_of-self c = popped_split _ _ _ _ c.in-Some.ensures.removal c.self.invariant
