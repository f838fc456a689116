use Rattle.std.proofs.lemmas.Result.{on_ok_weaker}
use Rattle.order_calls.proofs.FileLemmas.{has_forked, forks}
use Rattle.order_calls.proofs.files.Files.fork.Goals as goal

pub returns : goal.returns
returns c = on_ok_weaker c.keep.result
    (λ keeps serial. forks c.args.self.now c.keep.new.self c.args.ms serial c.args.pid c.args.parent c.args.child
    (has_forked c.args.self.now _ c.keep.new.self c.args.ms c.args.pid c.args.parent c.args.child c.in_ok-gift.gift _ _ c.in_ok-gift.ensures c.take-held.ensures.here c.in_ok-begin.ensures
    c.take-held.ensures.others c.take-held.ensures.opens keeps))
    c.keep.ensures
