use Rattle.std.proofs.Common.{◌≡◌, true, sym, subst}
use Rattle.reduced_store.specs.OnDisk.{LeadsOn, OnDisk}
use Rattle.reduced_store.proofs.LeadLemmas.{leads}
use Rattle.reduced_store.proofs.store.Store.recent.Goals as goal

pub returns-clause-leads : goal.returns-clause-leads
returns-clause-leads g c = λ tells.
    let state = g.D.Disk.state in
    let told = c.self.invariant.1 (subst (λ (s : OnDisk _). (state s.disk).tells ≡ true) (sym c.self.view_is) tells) in
    subst LeadsOn c.self.view_is (leads c.self.inside.rows c.recent.ensures.follow told.later)
