use Rattle.std.proofs.Common.{◌∙◌, ap, ◌++◌, List, ℕ}
use Rattle.std.proofs.lemmas.Result.{IfOk-weaker}
use Rattle.order_text.specs.Undo.{kept_part}
use Rattle.order_text.proofs.MarkLemmas.{six_pieces}
use Rattle.order_text.proofs.mark.write_change.Goals as goal

pub returns : goal.returns
returns c =
    let kept = kept_part c.args.count c.args.part.now in
    IfOk-weaker c.write_part.result _ _
    (λ x e. six_pieces c.args.out.now _ _ _ _ _ kept _ _ _ _ _ _ c.in_ok-append.ensures.ok c.in_ok-append-2.ensures.ok c.in_ok-append-3.ensures.ok
    c.in_ok-append-4.ensures.ok c.in_ok-append-5.ensures.ok e)
    c.write_part.ensures
