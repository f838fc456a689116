use Rattle.std.proofs.Common.{arith}
use Rattle.reduce_source.proofs.Numbers.{known_next}
use Rattle.reduce_source.proofs.sets.known_of.Goals as goal

pub loop-flow-preserved : goal.loop-flow-preserved
loop-flow-preserved c = record {
  known = known_next c.args.flows.now c.loop-flow.flow-index _ c.loop-flow.count c.max.result c.max-count.result c.loop-flow-test.true c.loop-flow.invariant.known c.max.ensures c.max-count.ensures;
  most = let i = c.loop-flow.invariant.most in let a = c.max.ensures in let b = c.max-count.ensures in omega arith;
}
