use Rattle.std.proofs.Common.{◌∙◌, sym}
use Rattle.ingest.proofs.Answered.{none_where}
use Rattle.ingest.proofs.EngineSteps.{engine_own, owes_own}
use Rattle.ingest.proofs.Quiet.{owes_stands}
use Rattle.ingest.proofs.engine.Ingest.owed.Goals as goal

pub returns-clause-nothing : goal.returns-clause-nothing
returns-clause-nothing g c = λ is limits h w.
    let own = owes_own limits _ _ h c.self.view_is w in
    engine_own limits _ _ h (sym c.self.view_is) (owes_stands limits _ h own (none_where _ (sym (c.ripe.ensures limits own.rest own.done own.joined) ∙ is)))
