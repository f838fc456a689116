use Rattle.std.proofs.Common.{◌/◌, ◌<◌, get_or, length, arith}
use Rattle.std.proofs.lemmas.List.{get_or_default}
use Rattle.reduce_source.proofs.BlockBits.{marked}
use Rattle.reduce_source.proofs.block.Block.with_bit.Goals as goal

pub returns : goal.returns
returns c = λ j.
    let words = c.args.self.now.words in
    let k = c.args.bit / 64 in
    let len = c.args.self.now.size in
    let low = c.requires in
    let fits : k < length words = omega (arith, len, low) in
    marked words (get_or words k 0) c.args.bit len low (get_or_default words k 0 (get_or words k 0) fits) j
