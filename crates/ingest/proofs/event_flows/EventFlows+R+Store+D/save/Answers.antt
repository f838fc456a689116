use Rattle.std.proofs.Common.{Ok, refl, ap, subst, rules}
use Rattle.reduced_store.specs.OnDisk.{OnDisk}
use Rattle.kept_flows.specs.Committing.{CommitsRows}
use Rattle.ingest.specs.Parts.{Joined}
use Rattle.ingest.proofs.FewActs.{few_at, few_still}
use Rattle.ingest.proofs.event_flows.EventFlows+R+Store+D.save.Goals as goal

pub returns-in_err-commit-clause-few : goal.returns-in_err-commit-clause-few
returns-in_err-commit-clause-few g c = λ records f. few_still _ _ records (few_at _ _ records c.self.view_is f) refl refl

pub returns-clause-commits : goal.returns-clause-commits
returns-clause-commits g c =
    subst (λ (old : OnDisk g.row.D.Denot). CommitsRows g.D.Disk.state g.D.Disk.faults g.D.Disk.spent g.R.Reducer.mode c.args.entities.now c.args.others.now old c.commit.new.self.keep (Ok tt))
    (ap (λ (j : Joined (OnDisk g.row.D.Denot)). j.keep) c.self.view_is) c.in_ok-commit.ensures.commits

pub returns-clause-few : goal.returns-clause-few
returns-clause-few g c = λ records f. few_still _ _ records (few_at _ _ records c.self.view_is f) refl (search rules)
