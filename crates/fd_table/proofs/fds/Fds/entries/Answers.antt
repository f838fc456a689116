use Rattle.std.proofs.Common.{◌≡◌, ◌∙◌, ℕ, ap}
use Rattle.std.proofs.lemmas.Result.{IfOk-weaker}
use Rattle.fd_table.specs.Holdings.{held_in}
use Rattle.fd_table.specs.Table.{Table, held_at}
use Rattle.fd_table.proofs.EntryLemmas.{chosen_all}
use Rattle.fd_table.proofs.fds.Fds.entries.Goals as goal

pub returns-clause-held : goal.returns-clause-held
returns-clause-held c = IfOk-weaker c.entries_of.result _ _ (λ found says n. says n ∙ chosen_all _ ∙ same n) c.entries_of.ensures.held
  where
    same : (n : ℕ) → held_in c.deref.result.now c.deref-2.result.now c.holding_of-holding.result n ≡ held_at c.args.self.now c.args.pid n
    same n = (λ i. held_in (c.deref.ensures.value i) (c.deref-2.ensures.value i) (c.holding_of-holding.ensures i) n) ∙ ap (λ (t : Table). held_at t c.args.pid n) c.self.view_is
