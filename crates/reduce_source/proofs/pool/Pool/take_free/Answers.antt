use Rattle.std.proofs.Common.{sym, subst, ◌∙◌}
use Rattle.reduce_source.specs.Slots.{owner_of}
use Rattle.reduce_source.specs.Owners.{IsFree}
use Rattle.reduce_source.proofs.pool.Pool.take_free.Goals as goal

pub returns-in-Nobody-clause-free : goal.returns-in-Nobody-clause-free
returns-in-Nobody-clause-free g c =
    subst (λ slots. IsFree (owner_of slots c.args.self.now.free)) c.deref.ensures.value (subst IsFree (sym (c.in-Some.ensures.owner ∙ c.in-Nobody.is)) tt)
