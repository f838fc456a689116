use Rattle.std.proofs.lemmas.Result.{on_ok_weaker}
use Rattle.order_calls.proofs.FileLemmas.{has_run, runs}
use Rattle.order_calls.proofs.files.Files.run.Goals as goal

pub returns : goal.returns
returns c = on_ok_weaker c.keep.result
    (λ keeps event. runs c.args.self.now c.keep.new.self event c.args.pid
    (has_run c.args.self.now _ c.keep.new.self c.args.pid _ _ c.take-held.ensures.here c.in_ok-run.ensures c.take-held.ensures.others c.take-held.ensures.opens keeps))
    c.keep.ensures
