use Rattle.std.proofs.Common.{◌-◌, refl}
use Rattle.std.proofs.lemmas.List.{length-set}
use Rattle.reduce_source.specs.declared.slot.Slot.{Slot}
use Rattle.reduce_source.proofs.Shelves.{replaced, value_kept}
use Rattle.reduce_source.proofs.pool.Pool.set_owner.Goals as goal

pub returns-clause-notes : goal.returns-clause-notes
returns-clause-notes g c =
    let slots = c.args.self.now.slots.items in
    let was = c.index_mut.result.now in
    let new : Slot g.row.T.Denot = record { value = was.value; owner = c.args.owner } in
    let put = replaced slots new c.args.id c.requires.0 c.requires.1 in
    record {
      values = value_kept slots c.args.id was new c.requires.0 c.requires.1 c.index_mut.ensures.value refl;
      owners = put.owners;
      places = length-set slots (c.args.id - 1) new;
      count = refl;
      capacity = refl;
    }

pub returns-clause-owner : goal.returns-clause-owner
returns-clause-owner g c =
    let new : Slot g.row.T.Denot = record { value = c.index_mut.result.now.value; owner = c.args.owner } in
    (replaced c.args.self.now.slots.items new c.args.id c.requires.0 c.requires.1).owner
