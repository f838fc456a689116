use Rattle.std.proofs.Common.{◌+◌, ◌*◌, false, length, refl, arith}
use Rattle.std.specs.Prelude.{Ok}
use Rattle.std.proofs.lemmas.Result.{err_from_is_err_and}
use Rattle.reduced_store.specs.OnDisk.{OnDisk, SameBut}
use Rattle.dialogue.specs.Saves.{AddsToStore, LacksInStore, Start}
use Rattle.dialogue.specs.Runs.{begun_of, first_of}
use Rattle.store_runs.proofs.StoreRuns.{at_new_part, watched_saved, watched_short}
use Rattle.store_runs.proofs.EndLemmas.{heard_out, heard_still}
use Rattle.dialogue.specs.Dialogue.{asks, lines_in}
use Rattle.dialogue.specs.Settles.{settles}
use Rattle.dialogue.proofs.AddLemmas.{adds_none, pace_adds, pace_begun, pace_settled}
use Rattle.dialogue.proofs.LackLemmas.{lacks_at_begin, lacks_last, lacks_run, left_all}
use Rattle.store_runs.proofs.extending.watch_on.Goals as goal

pub returns-in_err-watch-clause-watched : goal.returns-in_err-watch-clause-watched
returns-in_err-watch-clause-watched g c = λ h before bytes questions x told tells.
    let p = err_from_is_err_and c.from_residual.result c.from_residual.ensures.1 in
    let limits = c.args.limits.now in
    let begun = begun_of false h before bytes in
    let m = first_of g.R.Reducer.mode begun in
    let start : Start (OnDisk g.row.D.Denot) = record { begun = begun; rows = c.args.session.now.engine.joined.keep } in
    let at = (at_new_part g.D.Disk.state limits g.R.Reducer.mode c.args.session.now.engine c.new_part.new.self (g.L.Source.left c.args.log.now) h before bytes c.what_is_saved_stays_saved.ensures g.met.D.Disk.lawful
    c.new_part.ensures.part c.new_part.ensures.stands x told).at in
    rw (p.1, p.2) (watched_short g.D.Disk.state start limits g.R.Reducer.mode c.watch.new.session.engine.joined.keep _ _ _ c.in_err-watch.field-0.0 begun questions _ _ _ refl
    (c.in_err-watch.ensures.talked start m questions at tells) (c.in_err-watch.ensures.ends start m questions at tells))

pub returns-clause-watched : goal.returns-clause-watched
returns-clause-watched g c = λ h before bytes questions x told tells.
    let limits = c.args.limits.now in
    let begun = begun_of false h before bytes in
    let m = first_of g.R.Reducer.mode begun in
    let start : Start (OnDisk g.row.D.Denot) = record { begun = begun; rows = c.args.session.now.engine.joined.keep } in
    let at = (at_new_part g.D.Disk.state limits g.R.Reducer.mode c.args.session.now.engine c.new_part.new.self (g.L.Source.left c.args.log.now) h before bytes c.what_is_saved_stays_saved.ensures g.met.D.Disk.lawful
    c.new_part.ensures.part c.new_part.ensures.stands x told).at in
    let talked = c.in_ok-watch.ensures.talked start m questions at tells in
    let here = talked.at in
    watched_saved g.D.Disk.state start limits g.R.Reducer.mode c.watch.new.session.engine c.save.new.engine _ _ _ c.save.result begun questions refl talked
    (c.save.ensures.all start limits talked.to here.in_mode here.stands_at.stands here.holds) (c.save.ensures.holds start limits talked.to here.in_mode here.stands_at.stands here.holds)
    (c.save.ensures.ends start limits talked.to here.in_mode here.stands_at.stands here.holds) c.save.ensures.due

pub returns-in_err-watch-clause-lacks : goal.returns-in_err-watch-clause-lacks
returns-in_err-watch-clause-lacks g c = λ h before bytes tells x told.
    let p = err_from_is_err_and c.from_residual.result c.from_residual.ensures.1 in
    let limits = c.args.limits.now in
    let begun = begun_of false h before bytes in
    let m = first_of g.R.Reducer.mode begun in
    let start : Start (OnDisk g.row.D.Denot) = record { begun = begun; rows = c.args.session.now.engine.joined.keep } in
    let at = (at_new_part g.D.Disk.state limits g.R.Reducer.mode c.args.session.now.engine c.new_part.new.self (g.L.Source.left c.args.log.now) h before bytes c.what_is_saved_stays_saved.ensures g.met.D.Disk.lawful
    c.new_part.ensures.part c.new_part.ensures.stands x told).at in
    let first = lacks_at_begin c.payloads_are_apart.ensures c.a_disk_reads_in_one_way.ensures.one_list g.D.Disk.state limits g.R.Reducer.mode c.args.session.now.engine.joined.keep.disk c.new_part.new.self.joined.keep.disk false h before bytes
    (g.L.Source.left c.args.log.now) c.args.session.now.unsaved c.new_part.ensures.alike.disk.looks x.images (left_all _ bytes _ told) in
    rw p.1 (c.in_err-watch.ensures.lacks start m tells.0 at tells.1 first)

pub returns-clause-lacks : goal.returns-clause-lacks
returns-clause-lacks g c = λ h before bytes tells x told.
    let limits = c.args.limits.now in
    let begun = begun_of false h before bytes in
    let m = first_of g.R.Reducer.mode begun in
    let start : Start (OnDisk g.row.D.Denot) = record { begun = begun; rows = c.args.session.now.engine.joined.keep } in
    let at = (at_new_part g.D.Disk.state limits g.R.Reducer.mode c.args.session.now.engine c.new_part.new.self (g.L.Source.left c.args.log.now) h before bytes c.what_is_saved_stays_saved.ensures g.met.D.Disk.lawful
    c.new_part.ensures.part c.new_part.ensures.stands x told).at in
    let first = lacks_at_begin c.payloads_are_apart.ensures c.a_disk_reads_in_one_way.ensures.one_list g.D.Disk.state limits g.R.Reducer.mode c.args.session.now.engine.joined.keep.disk c.new_part.new.self.joined.keep.disk false h before bytes
    (g.L.Source.left c.args.log.now) c.args.session.now.unsaved c.new_part.ensures.alike.disk.looks x.images (left_all _ bytes _ told) in
    let talked = c.in_ok-watch.ensures.talked start m tells.0 at tells.1 in
    let here = talked.at in
    let session = c.watch.new.session in
    let few = session.few in
    let batch = c.watch.ensures.batch in
    let saved = c.save.ensures.lacks start limits _ talked.to session.unsaved here.in_mode here.stands_at.stands here.holds here.stands_at.told (c.in_ok-watch.ensures.lacks start m tells.0 at tells.1 first) in
    lacks_run _ c.save.result (lacks_last (SameBut g.D.Disk.state g.D.Disk.faults g.D.Disk.spent) (LacksInStore g.D.Disk.state) c.lacks_lawfully.ensures start limits g.R.Reducer.mode c.save.new.engine.joined.keep _ c.save.result session.unsaved c.args.session.now.batch
    (omega (arith, few, batch)) saved)

pub returns-in_err-watch-clause-heard : goal.returns-in_err-watch-clause-heard
returns-in_err-watch-clause-heard g c = λ h before bytes questions x told tells.
    let p = err_from_is_err_and c.from_residual.result c.from_residual.ensures.1 in
    rw p.1 tt

pub returns-clause-heard : goal.returns-clause-heard
returns-clause-heard g c = λ h before bytes questions x told tells.
    let limits = c.args.limits.now in
    let begun = begun_of false h before bytes in
    let m = first_of g.R.Reducer.mode begun in
    let start : Start (OnDisk g.row.D.Denot) = record { begun = begun; rows = c.args.session.now.engine.joined.keep } in
    let at = (at_new_part g.D.Disk.state limits g.R.Reducer.mode c.args.session.now.engine c.new_part.new.self (g.L.Source.left c.args.log.now) h before bytes c.what_is_saved_stays_saved.ensures g.met.D.Disk.lawful
    c.new_part.ensures.part c.new_part.ensures.stands x told).at in
    heard_still _ c.save.result (heard_out c.stops_stay.ensures c.what_fits_never_stops.ensures _ limits m questions _ _ _ _ _ (Ok tt) (c.in_ok-watch.ensures.talked start m questions at tells)
    (c.in_ok-watch.ensures.within start m questions at tells) (c.in_ok-watch.ensures.left start m questions at tells))

pub returns-in_err-watch-clause-adds : goal.returns-in_err-watch-clause-adds
returns-in_err-watch-clause-adds g c = λ asked tells h before bytes rest x told left.
    let limits = c.args.limits.now in
    let begun = begun_of false h before bytes in
    let m = first_of g.R.Reducer.mode begun in
    let start : Start (OnDisk g.row.D.Denot) = record { begun = begun; rows = c.args.session.now.engine.joined.keep } in
    let at = (at_new_part g.D.Disk.state limits g.R.Reducer.mode c.args.session.now.engine c.new_part.new.self (g.L.Source.left c.args.log.now) h before bytes c.what_is_saved_stays_saved.ensures g.met.D.Disk.lawful
    c.new_part.ensures.part c.new_part.ensures.stands x told).at in
    let adds = AddsToStore g.D.Disk.state start limits in
    let batch = c.args.session.now.batch in
    let unsaved = c.args.session.now.unsaved in
    let few = c.args.session.now.few in
    let none = adds_none limits (g.D.Disk.state c.args.session.now.engine.joined.keep.disk) (g.D.Disk.state c.new_part.new.self.joined.keep.disk) 0 (c.new_part.ensures.alike.disk.looks.same x.told) in
    let first = pace_begun adds batch c.new_part.new.self.joined.keep unsaved (g.L.Source.left c.args.log.now) begun.log at.stands_at.told (λ seen. none) in
    let count = settles (asks limits (lines_in asked)) in
    let most = unsaved + length begun.log in
    let rows = c.watch.new.session.engine.joined.keep in
    pace_adds g.D.Disk.state start limits rows batch unsaved (count + 1) (most + count * batch) begun.log rest (g.L.Source.left c.watch.new.log) (omega (arith, few)) (omega arith) left
    (c.in_err-watch.ensures.adds start m asked most at tells first) (c.watch.ensures.uses.still_told (c.new_part.ensures.alike.disk.looks.tells x.told))

pub returns-clause-adds : goal.returns-clause-adds
returns-clause-adds g c = λ asked tells h before bytes rest x told left.
    let limits = c.args.limits.now in
    let begun = begun_of false h before bytes in
    let m = first_of g.R.Reducer.mode begun in
    let start : Start (OnDisk g.row.D.Denot) = record { begun = begun; rows = c.args.session.now.engine.joined.keep } in
    let at = (at_new_part g.D.Disk.state limits g.R.Reducer.mode c.args.session.now.engine c.new_part.new.self (g.L.Source.left c.args.log.now) h before bytes c.what_is_saved_stays_saved.ensures g.met.D.Disk.lawful
    c.new_part.ensures.part c.new_part.ensures.stands x told).at in
    let adds = AddsToStore g.D.Disk.state start limits in
    let batch = c.args.session.now.batch in
    let unsaved = c.args.session.now.unsaved in
    let few = c.args.session.now.few in
    let none = adds_none limits (g.D.Disk.state c.args.session.now.engine.joined.keep.disk) (g.D.Disk.state c.new_part.new.self.joined.keep.disk) 0 (c.new_part.ensures.alike.disk.looks.same x.told) in
    let first = pace_begun adds batch c.new_part.new.self.joined.keep unsaved (g.L.Source.left c.args.log.now) begun.log at.stands_at.told (λ seen. none) in
    let count = settles (asks limits (lines_in asked)) in
    let most = unsaved + length begun.log in
    let talked = c.in_ok-watch.ensures.talked start m asked at tells in
    let rows = c.save.new.engine.joined.keep in
    let watched = c.in_ok-watch.ensures.adds start m asked most at tells first in
    pace_adds g.D.Disk.state start limits rows batch unsaved (count + 1) ((most + count * batch) + batch) begun.log rest (g.L.Source.left c.watch.new.log) (omega (arith, few)) (omega arith) left
    (pace_settled adds batch c.watch.new.session.engine.joined.keep rows c.watch.new.session.unsaved (g.L.Source.left c.watch.new.log) (most + count * batch) (λ n so. c.save.ensures.adds start limits talked.to n talked.at.holds so) watched)
    (c.save.ensures.uses.still_told (c.watch.ensures.uses.still_told (c.new_part.ensures.alike.disk.looks.tells x.told)))
