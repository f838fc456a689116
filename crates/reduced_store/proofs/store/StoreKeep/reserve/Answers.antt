use Rattle.std.proofs.Common.{◌∙◌}
use Rattle.reduced_store.proofs.ToldLemmas.{told_roomier}
use Rattle.reduced_store.proofs.store.StoreKeep.reserve.Goals as goal

pub invariant_of-self : goal.invariant_of-self
invariant_of-self g c =
    let a = c.self.inside in (
      c.make_room.ensures.lawful ∙ c.self.invariant.0,
      λ tells. told_roomier (g.D.Disk.state a.disk).reads a.log a.rows c.make_room.new.self (c.self.invariant.1 tells) c.make_room.ensures.rows c.make_room.ensures.placed,
    )
