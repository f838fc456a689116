use Rattle.std.proofs.lemmas.Result.{on_ok_weaker}
use Rattle.order_calls.proofs.FileLemmas.{has_closed, ranged}
use Rattle.order_calls.proofs.files.Files.close_range.Goals as goal

pub returns : goal.returns
returns c = on_ok_weaker c.keep.result
    (λ keeps event. ranged c.args.self.now c.keep.new.self event c.args.pid c.args.first c.args.last
    (has_closed c.args.self.now _ c.keep.new.self c.args.pid c.args.first c.args.last _ _ c.take-held.ensures.here c.close_range.ensures c.take-held.ensures.others c.take-held.ensures.opens keeps))
    c.keep.ensures
