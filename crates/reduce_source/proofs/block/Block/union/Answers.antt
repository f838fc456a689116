use Rattle.std.proofs.Common.{arith}
use Rattle.reduce_source.proofs.BlockBits.{joined}
use Rattle.reduce_source.proofs.block.Block.union.Goals as goal

pub returns : goal.returns
returns c = λ j. joined c.args.self.now.words c.args.other.now.words c.loop-place.words c.args.self.now.size c.args.other.now.size c.loop-place.invariant.len
    (λ k low. c.loop-place.invariant.done k (let end = c.loop-place-test.false in omega (arith, low, end))) j
