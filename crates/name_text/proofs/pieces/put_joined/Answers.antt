use Rattle.std.proofs.Common.{ap, ◌∙◌}
use Rattle.name_text.proofs.JoinLemmas.{first_put, further_put}
use Rattle.name_text.proofs.pieces.put_joined.Goals.{then-index-gt0+in_ok-push, else-index-gt0}
use Rattle.name_text.proofs.pieces.put_joined.Goals as goal

pub loop-index-preserved : goal.loop-index-preserved
loop-index-preserved c = elim c.if-index-gt0.branch [
  | then-index-gt0+in_ok-push w ↦
      further_put c.args.byte c.args.text.now.items c.loop-index.text.items c.if-index-gt0.text.items _ c.args.pieces.now c.loop-index.index _ c.loop-index-test.true w.if-index-gt0.true
      c.loop-index.invariant (ap (λ t. t.items) w.text-is ∙ w.in_ok-push.ensures.items) c.in_ok-extend_from_slice.ensures.items
  | else-index-gt0 w ↦
      first_put c.args.byte c.args.text.now.items c.if-index-gt0.text.items _ c.args.pieces.now c.loop-index.index _ c.loop-index-test.true w.if-index-gt0.false
      (ap (λ t. t.items) w.text-is ∙ c.loop-index.invariant) c.in_ok-extend_from_slice.ensures.items
]
