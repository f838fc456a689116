use Rattle.std.proofs.Common.{◌≡◌, ◌<◌, ◌∙◌, ℕ, map, nat_eq, ap, sym, subst}
use Rattle.std.specs.List.{list_any}
use Rattle.std.proofs.lemmas.Result.{IfOk-weaker}
use Rattle.fd_table.specs.declared.entries.FdEntry.{FdEntry}
use Rattle.fd_table.specs.Holdings.{held_in}
use Rattle.fd_table.specs.Table.{Table, held_at, is_marked}
use Rattle.fd_table.specs.Entries.{Ascends}
use Rattle.fd_table.proofs.EntryLemmas.{closed_listed, descriptors_ascend}
use Rattle.fd_table.proofs.fds.Fds.marked.Goals as goal

pub returns-clause-marked : goal.returns-clause-marked
returns-clause-marked c = IfOk-weaker c.descriptors.result _ _ (λ fds is n.
    ap (list_any (nat_eq n)) (is ∙ ap (map (λ (e : FdEntry). e.fd)) c.as_slice.ensures)
    ∙ closed_listed c.in_ok-entries.entries n _ (c.in_ok-entries.ensures.held n) ∙ ap is_marked (same n)) c.descriptors.ensures
  where
    same : (n : ℕ) → held_in c.deref.result.now c.deref-2.result.now c.holding_of-holding.result n ≡ held_at c.args.self.now c.args.pid n
    same n = (λ i. held_in (c.deref.ensures.value i) (c.deref-2.ensures.value i) (c.holding_of-holding.ensures i) n) ∙ ap (λ (t : Table). held_at t c.args.pid n) c.self.view_is

pub returns-clause-ascends : goal.returns-clause-ascends
returns-clause-ascends c = IfOk-weaker c.descriptors.result _ _ (λ fds is.
    subst (Ascends (λ x y. x < y)) (sym (is ∙ ap (map (λ (e : FdEntry). e.fd)) c.as_slice.ensures)) (descriptors_ascend c.in_ok-entries.entries c.in_ok-entries.ensures.ascends)) c.descriptors.ensures
