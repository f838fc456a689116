use Rattle.std.proofs.Common.{sym, subst, ◌≤◌}
use Rattle.reduce_source.proofs.Owning.{id_fits, taken_over}
use Rattle.reduce_source.proofs.pool.Pool.take_over.Goals as goal

pub share-requires : goal.share-requires
share-requires g c = subst (λ n. c.args.other ≤ n) (sym c.leave.ensures.notes.places) (id_fits c.args.object c.args.self.now.slots.items c.args.other c.requires.other)

pub returns-clause-replaces : goal.returns-clause-replaces
returns-clause-replaces g c =
    taken_over c.args.object c.args.mine c.args.other c.args.self.now.slots c.leave.new.self.slots c.share.new.self.slots c.requires.other c.leave.ensures.notes c.leave.ensures.kept c.share.ensures.notes c.share.ensures.many
