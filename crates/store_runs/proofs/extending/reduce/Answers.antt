use Rattle.std.proofs.Common.{◌+◌, arith, length, refl}
use Rattle.std.specs.Prelude.{Ok, Err}
use Rattle.std.proofs.lemmas.Result.{err_from_is_err_and}
use Rattle.reduced_store.specs.OnDisk.{OnDisk}
use Rattle.dialogue.specs.Saves.{AddsToStore, Start}
use Rattle.dialogue.specs.Runs.{begun_of, first_of}
use Rattle.store_runs.proofs.StoreRuns.{failed_run, reduces_by}
use Rattle.dialogue.proofs.AddLemmas.{adds_none, pace_adds, pace_at, pace_begun}
use Rattle.dialogue.proofs.LackLemmas.{lacks_at_begin}
use Rattle.store_runs.proofs.extending.reduce.Goals as goal

pub returns-in_err-begin_part-clause-run : goal.returns-in_err-begin_part-clause-run
returns-in_err-begin_part-clause-run g c = λ limits.
    let p = err_from_is_err_and c.from_residual.result c.from_residual.ensures.1 in
    rw (p.1, p.2) (failed_run c.args.resume g.D.Disk.state limits g.R.Reducer.mode c.args.session.now.engine c.begin_part.new.session.engine.joined.keep.disk (g.L.Source.left c.args.log.now) (g.L.Source.left c.begin_part.new.log)
    (g.O.Sink.written c.args.out.now) c.in_err-begin_part.field-0.0 g.met.D.Disk.lawful c.begin_part.ensures.alike.disk.looks c.in_err-begin_part.ensures.written c.in_err-begin_part.ensures.due (c.in_err-begin_part.ensures.short limits))

pub returns-in_err-reduce_all-clause-run : goal.returns-in_err-reduce_all-clause-run
returns-in_err-reduce_all-clause-run g c = λ limits h before bytes x told.
    let p = err_from_is_err_and c.from_residual-in_err-reduce_all.result c.from_residual-in_err-reduce_all.ensures.1 in
    let begun = begun_of c.args.resume h before bytes in
    let m = first_of g.R.Reducer.mode begun in
    let start : Start (OnDisk g.row.D.Denot) = record { begun = begun; rows = c.args.session.now.engine.joined.keep } in
    let at = (c.in_ok-begin_part.ensures.begun limits h before bytes x told).at in
    let r = c.reduce_all.ensures in
    rw (p.1, p.2) (reduces_by c.args.resume g.D.Disk.state start limits g.R.Reducer.mode c.reduce_all.new.session.engine.joined.keep _ _ _ (Err c.in_err-reduce_all.field-0.0) h before bytes refl
    tt (r.leaves start limits m at) (c.in_err-reduce_all.ensures.passes start limits m at) tt tt
    (c.in_err-reduce_all.ensures.front start limits m at) (c.in_err-reduce_all.ensures.due start limits m at) (c.in_ok-begin_part.ensures.enough limits h before bytes x told))

pub returns-clause-run : goal.returns-clause-run
returns-clause-run g c = λ limits h before bytes x told.
    let begun = begun_of c.args.resume h before bytes in
    let m = first_of g.R.Reducer.mode begun in
    let start : Start (OnDisk g.row.D.Denot) = record { begun = begun; rows = c.args.session.now.engine.joined.keep } in
    let at = (c.in_ok-begin_part.ensures.begun limits h before bytes x told).at in
    let r = c.reduce_all.ensures in
    reduces_by c.args.resume g.D.Disk.state start limits g.R.Reducer.mode c.reduce_all.new.session.engine.joined.keep _ _ _ (Ok tt) h before bytes refl
    (c.in_ok-reduce_all.ensures.stored start limits m at) (r.leaves start limits m at) (λ full is. absurd (let no = is in cc)) (c.in_ok-reduce_all.ensures.whole start limits m at) (c.in_ok-reduce_all.ensures.wrote start limits m at)
    tt tt (c.in_ok-begin_part.ensures.enough limits h before bytes x told)

pub returns-in_err-begin_part-clause-lacks : goal.returns-in_err-begin_part-clause-lacks
returns-in_err-begin_part-clause-lacks g c = λ limits h before bytes tells x told.
    let p = err_from_is_err_and c.from_residual.result c.from_residual.ensures.1 in
    let most = c.args.session.now.batch in
    let begun = lacks_at_begin c.payloads_are_apart.ensures c.a_disk_reads_in_one_way.ensures.one_list g.D.Disk.state limits g.R.Reducer.mode c.args.session.now.engine.joined.keep.disk c.begin_part.new.session.engine.joined.keep.disk c.args.resume h before bytes _ most
    c.begin_part.ensures.alike.disk.looks x.images (c.begin_part.ensures.left limits h before bytes x told) in
    rw p.1 begun

pub returns-in_err-reduce_all-clause-lacks : goal.returns-in_err-reduce_all-clause-lacks
returns-in_err-reduce_all-clause-lacks g c = λ limits h before bytes tells x told.
    let p = err_from_is_err_and c.from_residual-in_err-reduce_all.result c.from_residual-in_err-reduce_all.ensures.1 in
    let begun = begun_of c.args.resume h before bytes in
    let m = first_of g.R.Reducer.mode begun in
    let start : Start (OnDisk g.row.D.Denot) = record { begun = begun; rows = c.args.session.now.engine.joined.keep } in
    let at = (c.in_ok-begin_part.ensures.begun limits h before bytes x told).at in
    let first = lacks_at_begin c.payloads_are_apart.ensures c.a_disk_reads_in_one_way.ensures.one_list g.D.Disk.state limits g.R.Reducer.mode c.args.session.now.engine.joined.keep.disk c.begin_part.new.session.engine.joined.keep.disk c.args.resume h before bytes _
    c.begin_part.new.session.unsaved c.begin_part.ensures.alike.disk.looks x.images (c.begin_part.ensures.left limits h before bytes x told) in
    rw (p.1, ← c.begin_part.ensures.batch) (c.in_err-reduce_all.ensures.lacks start limits m at first)

pub returns-clause-lacks : goal.returns-clause-lacks
returns-clause-lacks g c = λ limits h before bytes tells x told. tt

pub returns-in_err-begin_part-clause-adds : goal.returns-in_err-begin_part-clause-adds
returns-in_err-begin_part-clause-adds g c = λ limits h before bytes rest x told left.
    adds_none limits (g.D.Disk.state c.args.session.now.engine.joined.keep.disk) (g.D.Disk.state c.begin_part.new.session.engine.joined.keep.disk) _ (c.begin_part.ensures.alike.disk.looks.same x.told)

pub returns-in_err-reduce_all-clause-adds : goal.returns-in_err-reduce_all-clause-adds
returns-in_err-reduce_all-clause-adds g c = λ limits h before bytes rest x told left.
    let begun = begun_of c.args.resume h before bytes in
    let m = first_of g.R.Reducer.mode begun in
    let start : Start (OnDisk g.row.D.Denot) = record { begun = begun; rows = c.args.session.now.engine.joined.keep } in
    let at = (c.in_ok-begin_part.ensures.begun limits h before bytes x told).at in
    let adds = AddsToStore g.D.Disk.state start limits in
    let session = c.begin_part.new.session in
    let none = adds_none limits (g.D.Disk.state c.args.session.now.engine.joined.keep.disk) (g.D.Disk.state session.engine.joined.keep.disk) 0 (c.begin_part.ensures.alike.disk.looks.same x.told) in
    let first = pace_begun adds session.batch session.engine.joined.keep session.unsaved (g.L.Source.left c.begin_part.new.log) begun.log at.stands_at.told (λ seen. none) in
    let most = session.unsaved + length begun.log in
    let pace = c.reduce_all.ensures.adds start limits m most at first in
    let batch = c.begin_part.ensures.batch in
    let unsaved = c.begin_part.ensures.unsaved in
    let few = c.args.session.now.few in
    let rows = c.reduce_all.new.session.engine.joined.keep in
    pace_adds g.D.Disk.state start limits rows c.args.session.now.batch c.args.session.now.unsaved 1 (most + session.batch) begun.log rest (g.L.Source.left c.reduce_all.new.log) (omega (arith, few)) (omega (arith, batch, unsaved)) left
    (pace_at adds session.batch c.args.session.now.batch rows 0 (g.L.Source.left c.reduce_all.new.log) (most + session.batch) batch pace)
    (c.reduce_all.ensures.uses.still_told (c.begin_part.ensures.alike.disk.looks.tells x.told))

pub returns-clause-adds : goal.returns-clause-adds
returns-clause-adds g c = λ limits h before bytes rest x told left.
    let begun = begun_of c.args.resume h before bytes in
    let m = first_of g.R.Reducer.mode begun in
    let start : Start (OnDisk g.row.D.Denot) = record { begun = begun; rows = c.args.session.now.engine.joined.keep } in
    let at = (c.in_ok-begin_part.ensures.begun limits h before bytes x told).at in
    let adds = AddsToStore g.D.Disk.state start limits in
    let session = c.begin_part.new.session in
    let none = adds_none limits (g.D.Disk.state c.args.session.now.engine.joined.keep.disk) (g.D.Disk.state session.engine.joined.keep.disk) 0 (c.begin_part.ensures.alike.disk.looks.same x.told) in
    let first = pace_begun adds session.batch session.engine.joined.keep session.unsaved (g.L.Source.left c.begin_part.new.log) begun.log at.stands_at.told (λ seen. none) in
    let most = session.unsaved + length begun.log in
    let pace = c.reduce_all.ensures.adds start limits m most at first in
    let batch = c.begin_part.ensures.batch in
    let unsaved = c.begin_part.ensures.unsaved in
    let few = c.args.session.now.few in
    let rows = c.reduce_all.new.session.engine.joined.keep in
    pace_adds g.D.Disk.state start limits rows c.args.session.now.batch c.args.session.now.unsaved 1 (most + session.batch) begun.log rest (g.L.Source.left c.reduce_all.new.log) (omega (arith, few)) (omega (arith, batch, unsaved)) left
    (pace_at adds session.batch c.args.session.now.batch rows 0 (g.L.Source.left c.reduce_all.new.log) (most + session.batch) batch pace)
    (c.reduce_all.ensures.uses.still_told (c.begin_part.ensures.alike.disk.looks.tells x.told))
