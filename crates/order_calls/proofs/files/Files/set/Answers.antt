use Rattle.std.proofs.lemmas.Result.{on_ok_weaker}
use Rattle.order_calls.proofs.FileLemmas.{has_set}
use Rattle.order_calls.proofs.files.Files.set.Goals as goal

pub returns : goal.returns
returns c = on_ok_weaker c.keep.result
    (λ keeps. has_set c.args.self.now _ c.keep.new.self c.args.pid c.args.fd c.args.thing _ _ c.take-held.ensures.here c.in_ok-set.ensures c.take-held.ensures.others
    c.take-held.ensures.opens keeps)
    c.keep.ensures
