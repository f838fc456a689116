use Rattle.reach_model.proofs.PairLemmas.{pairs_apart}
use Rattle.reduce_continuous.proofs.tables.set_run.Goals as goal

pub returns-clause-others : goal.returns-clause-others
returns-clause-others c = λ u v n. c.in-Ok.ensures.updates.2 (u, v) (pairs_apart c.args.pair.0 c.args.pair.1 u v n)
