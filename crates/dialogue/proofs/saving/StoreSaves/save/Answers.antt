use Rattle.std.proofs.Common.{ap, sym, subst, Err}
use Rattle.std.proofs.lemmas.Result.{err_from_is_err_and}
use Rattle.reach_model.specs.declared.modes.Mode.{Mode}
use Rattle.ingest.specs.Saving.{LeavesEither, PassesFull, Saves}
use Rattle.dialogue.proofs.SaveLemmas.{all_now, away_now, cut_now}
use Rattle.dialogue.proofs.AddLemmas.{adds_saved}
use Rattle.dialogue.proofs.LackLemmas.{lacks_cut, lacks_saved}
use Rattle.dialogue.proofs.saving.StoreSaves.save.Goals as goal

pub returns-in_err-commit-clause-ends : goal.returns-in_err-commit-clause-ends
returns-in_err-commit-clause-ends g c = λ start limits m mode stands away.
    let p = err_from_is_err_and c.from_residual.result c.from_residual.ensures.1 in
    let old = c.args.engine.now in
    let new = c.commit.new.self in
    rw (p.1, p.2) (cut_now g.D.Disk.state start limits old new m c.in_err-commit.field-0.0
    (subst (λ (k : Mode). LeavesEither g.D.Disk.state k old new) (sym mode) (c.commit.ensures.leaves away.told))
    (λ full is. subst (λ (k : Mode). PassesFull g.D.Disk.state k old full) (sym mode) (c.in_err-commit.ensures.full full (ap Err is))) stands away)

pub returns-clause-holds : goal.returns-clause-holds
returns-clause-holds g c = λ start limits m mode stands away.
    let old = c.args.engine.now in
    let new = c.commit.new.self in
    away_now g.D.Disk.state start limits old new m
    (subst (λ (k : Mode). Saves g.D.Disk.state k old new) (sym mode) (c.in_ok-commit.ensures.saves away.told))
    (subst (λ (k : Mode). LeavesEither g.D.Disk.state k old new) (sym mode) (c.commit.ensures.leaves away.told))
    c.commit.ensures.part (c.commit.ensures.uses.still_told away.told) stands away

pub returns-clause-all : goal.returns-clause-all
returns-clause-all g c = λ start limits m mode stands away.
    let old = c.args.engine.now in
    let new = c.commit.new.self in
    all_now g.D.Disk.state start limits old new m
    (subst (λ (k : Mode). Saves g.D.Disk.state k old new) (sym mode) (c.in_ok-commit.ensures.saves away.told)) c.in_ok-commit.ensures.durable stands away

pub returns-in_err-commit-clause-lacks : goal.returns-in_err-commit-clause-lacks
returns-in_err-commit-clause-lacks g c = λ start limits left m most mode stands away told was.
    let p = err_from_is_err_and c.from_residual.result c.from_residual.ensures.1 in
    rw p.1 (lacks_cut g.D.Disk.state c.payloads_are_apart.ensures c.a_disk_reads_in_one_way.ensures.one_list start limits g.R.Reducer.mode c.args.engine.now c.commit.new.self left m most g.met.D.Disk.lawful mode told
    (c.commit.ensures.leaves away.told) stands away was)

pub returns-clause-lacks : goal.returns-clause-lacks
returns-clause-lacks g c = λ start limits left m most mode stands away told was.
    let old = c.args.engine.now in
    let new = c.commit.new.self in
    let all = all_now g.D.Disk.state start limits old new m
    (subst (λ (k : Mode). Saves g.D.Disk.state k old new) (sym mode) (c.in_ok-commit.ensures.saves away.told)) c.in_ok-commit.ensures.durable stands away in
    lacks_saved g.D.Disk.state c.payloads_are_apart.ensures c.a_disk_reads_in_one_way.ensures.one_list start limits g.R.Reducer.mode new.joined.keep left m mode told all

pub returns-in_err-commit-clause-adds : goal.returns-in_err-commit-clause-adds
returns-in_err-commit-clause-adds g c = λ start limits m n away was.
    adds_saved g.D.Disk.state c.a_disk_reads_in_one_way.ensures.one_list start limits c.args.engine.now c.commit.new.self m n g.met.D.Disk.lawful (c.commit.ensures.uses.still_told away.told) (c.commit.ensures.adds away.told) away was

pub returns-clause-adds : goal.returns-clause-adds
returns-clause-adds g c = λ start limits m n away was.
    adds_saved g.D.Disk.state c.a_disk_reads_in_one_way.ensures.one_list start limits c.args.engine.now c.commit.new.self m n g.met.D.Disk.lawful (c.commit.ensures.uses.still_told away.told) (c.commit.ensures.adds away.told) away was
