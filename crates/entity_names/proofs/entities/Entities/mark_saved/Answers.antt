use Rattle.flow_base.specs.contracts.types.KeyPartialEq.TheImpl.{ghosts}
use Rattle.entity_names.proofs.SavedLemmas.{all_saved}
use Rattle.entity_names.proofs.entities.Entities.mark_saved.Goals as goal

pub returns-clause-saved : goal.returns-clause-saved
returns-clause-saved c = λ k. all_saved (ghosts.eq k) c.save_from.new.names.entries (c.save_from.ensures.saved c.self.invariant.1.1.1)
