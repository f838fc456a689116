use Rattle.std.proofs.Common.{sym}
use Rattle.reduced_store.proofs.store.admit.Goals as goal

pub returns-in-None-clause-saved : goal.returns-in-None-clause-saved
returns-in-None-clause-saved g c = sym c.requires.settled.saved

pub invariant_of-store : goal.invariant_of-store
invariant_of-store g c = (c.requires.lawful, c.requires.placed)
