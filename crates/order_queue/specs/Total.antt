-- Any two lines have an order.
use Rattle.std.specs.Cmp.{IsTotalOrder}
use Rattle.std.proofs.lemmas.Cmp.{nat_cmp_total, nat_list_cmp_total, on_total, then_total}
use Rattle.order_queue.specs.Order.{rank_cmp, event_cmp, place_cmp}
use Rattle.order_queue.specs.declared.waiting.Waiting.{Waiting}

rank_total : IsTotalOrder rank_cmp
rank_total =
    then_total (on_total (λ (w : Waiting). w.rank) nat_cmp_total)
    (then_total (on_total (λ (w : Waiting). w.number) nat_cmp_total) (on_total (λ (w : Waiting). w.line) nat_list_cmp_total))

event_total : IsTotalOrder event_cmp
event_total =
    then_total (on_total (λ (w : Waiting). w.serial) nat_cmp_total)
    (then_total (on_total (λ (w : Waiting). w.ms) nat_cmp_total) (then_total (on_total (λ (w : Waiting). w.node) nat_list_cmp_total) rank_total))

-- the order of places is total
pub place_total : IsTotalOrder place_cmp
place_total =
    then_total (on_total (λ (w : Waiting). w.time) nat_cmp_total)
    (then_total (on_total (λ (w : Waiting). w.goes_by) nat_cmp_total) event_total)
