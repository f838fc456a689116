use Rattle.std.proofs.Common.{arith}
use Rattle.reduced_store.proofs.FillLemmas.{rising_rows}
use Rattle.reduced_store.proofs.apart.ascend.Goals as goal

pub returns : goal.returns
returns c = λ _. rising_rows c.args.lasts.now (λ k d h. c.loop-i.invariant k d (omega (arith, h, c.loop-i-test.false)))
