use Rattle.std.proofs.Common.{take}
use Rattle.std.specs.Option.{IfSome}
use Rattle.reach_model.specs.Ids.{numbers}
use Rattle.reach_model.specs.Rows.{firsts}
use Rattle.reach_model.specs.Sources.{IsSource}
use Rattle.kept_flows.specs.Answering.{AreThose}
use Rattle.kept_flows.proofs.one_question.sources.Given as goal

-- the sources among the ids so far
abbrev pub invariant-loop-id : goal.invariant-loop-id
invariant-loop-id g l = IfSome (g.W.Rows.rows l.rows) (λ R. AreThose (IsSource (firsts R)) (numbers (take l.id-index l.ids)) (numbers l.those))
