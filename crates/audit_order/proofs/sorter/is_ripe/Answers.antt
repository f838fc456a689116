use Rattle.std.proofs.Common.{◌∙◌, ap}
use Rattle.audit_order.specs.Sorted.{is_past}
use Rattle.audit_order.proofs.RipeLemmas.{ripe}
use Rattle.audit_order.proofs.sorter.is_ripe.Goals as goal

pub returns-clause-past : goal.returns-clause-past
returns-clause-past c =
    c.is_past.ensures ∙ ap (is_past c.args.window c.least_time.result) c.clock.ensures
    ∙ ripe c.args.window c.least_time.result c.args.sorter.now.places.clock c.args.sorter.now.queue.waits c.least_time.ensures.least c.least_time.ensures.one c.least_time.ensures.none
