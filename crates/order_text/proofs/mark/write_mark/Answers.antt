use Rattle.std.proofs.Common.{◌∙◌, ap, ◌++◌, List, ℕ, append_assoc}
use Rattle.std.proofs.lemmas.Result.{IfOk-weaker}
use Rattle.order_text.specs.Undo.{kept_stamp}
use Rattle.order_text.proofs.mark.write_mark.Goals as goal

pub returns : goal.returns
returns c =
    let kept = kept_stamp c.args.time.now c.args.serial.now in
    IfOk-weaker c.write_kept.result _ _
    (λ x e. e ∙ ap (λ (t : List ℕ). t ++ kept) c.in_ok-append.ensures.ok ∙ append_assoc c.args.out.now _ kept)
    c.write_kept.ensures
