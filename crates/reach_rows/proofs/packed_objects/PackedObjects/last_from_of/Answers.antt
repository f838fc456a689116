use Rattle.std.proofs.Common.{arith}
use Rattle.reach_rows.proofs.ObjectLemmas.{none_leaves}
use Rattle.reach_rows.proofs.packed_objects.PackedObjects.last_from_of.Goals as goal

pub returns : goal.returns
returns c = λ K a. none_leaves K c.args.id.0 (omega (arith, a.all, c.len.ensures, c.if-id-len.false))
