use Rattle.std.proofs.Common.{◌≡◌, refl, subst}
use Rattle.reduce_source.specs.Slots.{owner_of}
use Rattle.reduce_source.specs.declared.slot.Owner.TheVariants.{One}
use Rattle.reduce_source.proofs.Owning.{put_own, put_new}
use Rattle.reduce_source.proofs.pool.Pool.put.Goals as goal

pub returns-then-is_alone-clause-replaces : goal.returns-then-is_alone-clause-replaces
returns-then-is_alone-clause-replaces g c =
    put_own c.args.object c.args.mine _ c.args.self.now.slots c.set.new.self.slots c.set.ensures refl
    (subst (λ slots. owner_of slots c.args.mine ≡ One c.args.object) c.deref.ensures.value (c.if-is_alone.ensures.alone refl))

pub returns-clause-replaces : goal.returns-clause-replaces
returns-clause-replaces g c =
    put_new c.args.object c.args.mine c.add.result _ c.args.self.now.slots c.add.new.self.slots c.add.ensures.puts refl c.add.ensures.free
