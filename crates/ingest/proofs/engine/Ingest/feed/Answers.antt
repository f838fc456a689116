use Rattle.ingest.specs.EngineSteps.{CatchesUp, HaltsOwing}
use Rattle.ingest.proofs.Answered.{on_ok_so, if_err_so}
use Rattle.ingest.proofs.Parting.{stands_parted, halts_parted}
use Rattle.ingest.proofs.engine.Ingest.feed.Goals as goal

pub returns-clause-again : goal.returns-clause-again
returns-clause-again g c =
    on_ok_so c.feed_next-result.result (CatchesUp c.args.piece.now c.args.self.now c.feed_next-result.new.self) _ (λ takes limits h w.
    stands_parted limits _ _ _ c.self-2.view_is _ (takes limits h w))
    c.feed_next-result.ensures.again

pub returns-clause-halts : goal.returns-clause-halts
returns-clause-halts g c =
    if_err_so c.feed_next-result.result (HaltsOwing c.args.piece.now c.args.self.now c.feed_next-result.new.self) _ (λ stop halts limits h w.
    halts_parted limits _ _ _ c.self-2.view_is h c.args.piece.now stop (halts limits h w))
    c.feed_next-result.ensures.halts
