use Rattle.std.proofs.Common.{rules, true}
use Rattle.std.proofs.lemmas.Map.Made.{map_same_pairs}
use Rattle.record_join.specs.declared.group.Group.{Group}
use Rattle.record_join.proofs.group_map.close_each.Goals as goal

pub returns : goal.returns
returns c = map_same_pairs _ (λ (g : Group). record g { closed = true }) _ (λ k v b w f' t. search rules) _ _ c.retain.ensures.filtered
