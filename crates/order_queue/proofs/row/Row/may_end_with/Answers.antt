use Rattle.std.proofs.Common.{rules, ◌≡◌, ◌-◌, ℕ, List, length, false, subst, slice_index_or}
use Rattle.std.specs.Ordering.{is_lt}
use Rattle.order_queue.specs.Order.{place_cmp, IsGreatest}
use Rattle.order_queue.specs.declared.waiting.Waiting.{Waiting}
use Rattle.order_queue.proofs.RowLemmas.{past_all}
use Rattle.order_queue.proofs.row.Row.may_end_with.Goals as goal

pub returns-in-Some : goal.returns-in-Some
returns-in-Some c = λ yes.
    let items = c.self.inside.entries.items in
    let same : c.self.inside.entries.len ≡ length items = search rules in
    let last : c.in-Some.last.now ≡ slice_index_or items (length items - 1) c.in-Some.last.now =
    subst (λ (n : ℕ). c.in-Some.last.now ≡ slice_index_or items (n - 1) c.in-Some.last.now) same c.in-Some.ensures.lookup in
    subst (IsGreatest c.args.entry.now) c.self.view_is
    (past_all c.args.entry.now items c.in-Some.last.now c.self.invariant
    (subst (λ (w : Waiting). is_lt (place_cmp c.args.entry.now w) ≡ false) last (c.is_no_later.ensures.yes yes)))
