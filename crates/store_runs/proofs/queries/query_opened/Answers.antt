use Rattle.std.proofs.Common.{Err}
use Rattle.dialogue.specs.declared.halt.StoreHalt.TheVariants as over
use Rattle.store_runs.specs.Statuses.{store_status}
use Rattle.store_runs.proofs.RefusalLemmas.{nothing_unsound}
use Rattle.store_runs.proofs.StoreRuns.{looks_same, queried_bad, uses_still}
use Rattle.store_runs.proofs.queries.query_opened.Goals as goal

pub returns-in-None-clause-run : goal.returns-in-None-clause-run
returns-in-None-clause-run g c = record { queried = λ kept h asked stood told. queried_bad c.args.limits.now kept h asked (g.Q.Source.left c.args.questions.now) (g.O.Sink.written c.args.out.now) 0 }

pub returns-in-None-clause-unsound : goal.returns-in-None-clause-unsound
returns-in-None-clause-unsound g c = nothing_unsound g.D.Disk.state c.args.limits.now c.args.opened (store_status (Err (over.BadStore 0))) c.requires.found c.in-None.is

pub returns-in-None-clause-looks : goal.returns-in-None-clause-looks
returns-in-None-clause-looks g c = looks_same g.D.Disk.state c.args.opened.store.disk c.into_disk.result c.into_disk.ensures

pub returns-in-None-clause-uses : goal.returns-in-None-clause-uses
returns-in-None-clause-uses g c =
    uses_still g.D.Disk.state g.D.Disk.faults g.D.Disk.spent c.args.opened.store.disk c.into_disk.result _ c.into_disk.ensures (λ is. let no = is in cc)
