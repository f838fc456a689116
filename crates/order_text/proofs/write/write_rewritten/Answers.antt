use Rattle.std.proofs.lemmas.List.{take_rest}
use Rattle.std.proofs.lemmas.Result.{IfOk-weaker}
use Rattle.order_text.specs.Seen.{stamp_seen}
use Rattle.order_text.proofs.UndoLemmas.{rewritten_pieces}
use Rattle.order_text.proofs.write.write_rewritten.Goals as goal

pub returns : goal.returns
returns c =
    IfOk-weaker c.write_change.result _ _
    (λ x e. rewritten_pieces c.args.out.now _ _ _ c.as_slice-text.result.now _ (stamp_seen c.args.stamp.now) (stamp_seen c.risen-made.result) c.args.time.now c.args.ms c.args.rewrite.now
    c.risen-made.ensures c.as_slice-text.ensures c.in_ok-write_parts.ensures c.in_ok-append.ensures.ok (take_rest c.args.stamp.now.rest.now c.args.rewrite.now.len) e)
    c.write_change.ensures
