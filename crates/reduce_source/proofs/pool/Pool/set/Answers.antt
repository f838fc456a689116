use Rattle.std.proofs.Common.{refl, arith}
use Rattle.reduce_source.proofs.Shelves.{replaced}
use Rattle.reduce_source.proofs.pool.Pool.set.Goals as goal

pub returns : goal.returns
returns g c =
    let put = replaced c.args.self.now.slots.items c.args.slot c.args.id c.requires.0 c.requires.1 in
    record {
      value = put.value;
      owner = put.owner;
      others = put.others;
      owners = put.owners;
      count = omega arith;
      capacity = refl;
    }
