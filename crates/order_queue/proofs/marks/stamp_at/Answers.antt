use Rattle.std.proofs.Common.{◌∙◌, sym, ap, subst, Option, Some}
use Rattle.order_text.specs.Seen.{stamp_seen}
use Rattle.order_queue.specs.Marks.{AreMarks}
use Rattle.order_queue.specs.declared.marks.Marks.{Marks}
use Rattle.order_queue.proofs.MarkLemmas.{timed}
use Rattle.order_queue.proofs.marks.stamp_at.Goals as goal

pub returns-in-Some-clause-time : goal.returns-in-Some-clause-time
returns-in-Some-clause-time c =
    let are = subst (λ (m : Option Marks). AreMarks m c.args.line.now) c.in-Some.is c.requires in
    timed c.args.line.now (stamp_seen c.parts_at.result) (are.1 ∙ ap Some (sym c.parts_at.ensures))
