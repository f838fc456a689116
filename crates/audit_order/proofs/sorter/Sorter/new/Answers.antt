use Rattle.std.proofs.Common.{refl, ap, ℕ, List}
use Rattle.order_queue.specs.Queue.{Held}
use Rattle.audit_order.specs.Turns.{Event}
use Rattle.audit_order.proofs.SortLemmas.{sorts_none}
use Rattle.audit_order.proofs.sorter.Sorter.new.Goals as goal

pub returns-clause-nothing : goal.returns-clause-nothing
returns-clause-nothing c = λ written.
    let event : List ℕ → Event = λ (node : List ℕ). record { node = node; ms = 0; serial = 0 } in
    sorts_none (record { written = written; bounds = c.args.bounds; switches = c.args.switches }) _ c.in_ok-writer.ensures
    (ap event c.new-5.ensures) refl (ap (λ (q : Held). q.waits) c.new-4.ensures) c.new-6.ensures
    (record { compat_is = c.new-2.ensures.compat; clock = c.new-2.ensures.clock; nothing = c.new-2.ensures.nothing })
    c.new-3.ensures.compat c.new-3.ensures.nothing refl
