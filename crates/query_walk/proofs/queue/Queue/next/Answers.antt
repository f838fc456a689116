use Rattle.std.proofs.Common.{◌≡◌, ◌<◌, List, length, get_or, heap_items, heap_len, subst, sym, ap, arith, refl, inl, inr}
use Rattle.std.specs.List.{Contains}
use Rattle.std.proofs.lemmas.Bool.{iff_false}
use Rattle.query_walk.specs.Arrivals.{Arrival, IsLeastFrom, at_place, place_after}
use Rattle.query_walk.proofs.HeapLemmas.{popped, left_was_there}
use Rattle.query_walk.proofs.ArrivalLemmas.{no_earlier, popped_first, still_heap}
use Rattle.query_walk.proofs.queue.Queue.next.Goals as goal

pub returns-then-is_after-clause-some : goal.returns-then-is_after-clause-some
returns-then-is_after-clause-some c =
    let items = heap_items c.loop-least.self-inside.heap in
    let i = c.loop-least.invariant in
    let x : Arrival = c.in-Some.least.now in
    let lookup : x ≡ get_or items 0 x = c.in-Some.ensures.lookup in
    let long : 0 < heap_len c.loop-least.self-inside.heap = c.in-Some.ensures.variant.0 refl in
    let some : 0 < length items = omega (arith, long, c.loop-least.self-inside.heap.data.ok.0) in
    subst (λ (xs : List Arrival). IsLeastFrom (Contains xs) (place_after c.args.after) x) c.self.view_is (record {
      high = c.is_after.ensures.0 c.if-is_after.true;
      waited = i.stay.no_more x (0, some, sym lookup);
      least = λ other was high. no_earlier x items (c.in-Some.ensures.greatest i.heap) other (i.stay.rest other was high);
    })

pub loop-least-preserved : goal.loop-least-preserved
loop-least-preserved c =
    let old = heap_items c.loop-least.self-inside.heap in
    let new = heap_items c.pop.new.self in
    let i = c.loop-least.invariant in
    let x : Arrival = c.in-Some.least.now in
    let lookup : x ≡ get_or old 0 x = c.in-Some.ensures.lookup in
    let long : 0 < heap_len c.loop-least.self-inside.heap = c.in-Some.ensures.variant.0 refl in
    let inside : 0 < length old = omega (arith, long, c.loop-least.self-inside.heap.data.ok.0) in
    let some = c.pop.ensures.variant.1 long in
    let perm = popped_first old new x c.pop.result some inside lookup c.pop.ensures.top c.pop.ensures.permutation in
    record {
      heap = still_heap old new c.pop.result some c.pop.ensures.heap_order i.heap;
      stay = record {
        rest = λ other was high. elim (popped old new x other perm (i.stay.rest other was high)) [
          | inl e ↦ absurd (iff_false c.is_after.ensures c.if-is_after.false (omega (arith, ap at_place e, high)))
          | inr left ↦ left
        ];
        no_more = λ other left. i.stay.no_more other (left_was_there old new x other perm left);
      };
    }
