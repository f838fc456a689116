use Rattle.std.proofs.Common.{◌∷◌, inr, sym, ap, subst, arith, length}
use Rattle.std.specs.List.Sorted.{IsPermutation}
use Rattle.std.proofs.lemmas.Result.{on_ok_weaker}
use Rattle.std.proofs.lemmas.List.Sorted.{length_permutation}
use Rattle.order_queue.specs.Queue.{Held}
use Rattle.order_queue.specs.Order.{IsLeast}
use Rattle.audit_order.specs.Turns.{Turned, tally_with}
use Rattle.audit_order.specs.Sorted.{state_of, event_of}
use Rattle.audit_order.proofs.ReadLemmas.{on_ok_two}
use Rattle.audit_order.proofs.sorter.write_least.Goals as goal

pub returns-in-Some-clause-moves : goal.returns-in-Some-clause-moves
returns-in-Some-clause-moves c =
    let waits = sym c.write_item.ensures.waits in
    on_ok_two c.write_item.result c.write_item.ensures.gives c.write_item.ensures.turned
    (λ gives turned. inr (record {
      item = c.in-Some.item;
      goes = record {
        were = subst (λ (q : Held). IsPermutation c.args.sorter.now.queue.waits (c.in-Some.item ∷ q.waits)) waits c.in-Some.ensures.some;
        least = subst (λ (q : Held). IsLeast c.in-Some.item q.waits) waits c.in-Some.ensures.least;
        turned = subst (λ (q : Held). Turned (record (state_of c.args.sorter.now) { waits = q.waits }) (state_of c.write_item.new.sorter) c.in-Some.item
            (tally_with (event_of c.args.sorter.now.turn) c.args.sorter.now.tally c.in-Some.item)) waits turned;
      };
      gives = record { child = gives.child; told = gives.told; gives = gives.gives };
    }))

pub returns-in-Some-clause-fewer : goal.returns-in-Some-clause-fewer
returns-in-Some-clause-fewer c =
    let same = length_permutation _ _ c.in-Some.ensures.some in
    let one = ap (λ (q : Held). length q.waits) c.write_item.ensures.waits in
    on_ok_weaker c.write_item.result (λ g. omega (arith, same, one)) c.write_item.ensures.gives
