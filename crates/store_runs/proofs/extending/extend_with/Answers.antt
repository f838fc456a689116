use Rattle.std.proofs.Common.{refl, subst, sym}
use Rattle.std.specs.Prelude.{Err, ⊤}
use Rattle.dialogue.specs.Saves.{IsHiddenIn}
use Rattle.dialogue.specs.StoreHalts.{no_lengths, no_modes, shorter_in}
use Rattle.outside.specs.Cause.{Rose}
use Rattle.store_runs.specs.Stores.{AsksTold, IsOpenAt, IsReopened, WaitsUnsoundly, is_resumed}
use Rattle.store_runs.proofs.StoreRuns.{causes_by, engine_run, engine_watch, looked_rose, looked_uses, looks_as, never_refused, open_images, refused_run, refused_watch, reopened, restore_causes, uses_renamed}
use Rattle.store_runs.proofs.EndLemmas.{hears_from}
use Rattle.dialogue.proofs.AddLemmas.{adds_as, adds_none}
use Rattle.dialogue.proofs.LackLemmas.{lacks_from, lacks_images}
use Rattle.store_runs.proofs.RefusalLemmas.{restored_refuses, unrestored_refuses}
use Rattle.store_runs.specs.Statuses.{store_status}
use Rattle.store_runs.proofs.extending.extend_with.Goals as goal

pub returns-in-Err-clause-reduced : goal.returns-in-Err-clause-reduced
returns-in-Err-clause-reduced g c = λ resume is.
    refused_run resume g.D.Disk.state c.args.limits.now g.R.Reducer.mode c.args.opened c.in-Err.back c.into_disk.result (g.L.Source.left c.args.log.now) (g.O.Sink.written c.args.out.now) c.halt_of_restore.result
    c.what_is_found_was_stored.ensures g.met.D.Disk.lawful
    (looks_as g.D.Disk.state c.args.opened.store.disk c.in-Err.back.keep.disk c.into_disk.result c.into_disk.ensures c.in-Err.ensures.alike.disk.looks)
    c.in-Err.ensures.full c.in-Err.ensures.hidden c.halt_of_restore.ensures

pub returns-in-Err-clause-watched : goal.returns-in-Err-clause-watched
returns-in-Err-clause-watched g c = λ is.
    refused_watch g.D.Disk.state c.args.limits.now g.R.Reducer.mode c.args.opened c.in-Err.back c.into_disk.result (g.L.Source.left c.args.log.now) (g.Q.Source.left c.args.questions.now) (g.O.Sink.written c.args.out.now)
    c.halt_of_restore.result c.what_is_found_was_stored.ensures g.met.D.Disk.lawful
    (looks_as g.D.Disk.state c.args.opened.store.disk c.in-Err.back.keep.disk c.into_disk.result c.into_disk.ensures c.in-Err.ensures.alike.disk.looks)
    c.in-Err.ensures.full c.in-Err.ensures.hidden c.halt_of_restore.ensures

pub returns-in-Ok-clause-reduced : goal.returns-in-Ok-clause-reduced
returns-in-Ok-clause-reduced g c = λ resume is.
    engine_run resume g.D.Disk.state c.args.limits.now g.R.Reducer.mode c.args.opened c.in-Ok.engine (g.D.Disk.state c.extend_engine.result.disk) _ _ _ _ c.extend_engine.result.outcome
    g.met.D.Disk.lawful c.in-Ok.ensures.alike.disk.looks (λ h before x. reopened g.D.Disk.state c.args.limits.now g.R.Reducer.mode c.args.opened c.in-Ok.engine h before c.in-Ok.ensures.stored c.in-Ok.ensures.alike x)
    (c.extend_engine.ensures.reduced resume is)

pub returns-in-Ok-clause-watched : goal.returns-in-Ok-clause-watched
returns-in-Ok-clause-watched g c = λ is.
    engine_watch g.D.Disk.state c.args.limits.now g.R.Reducer.mode c.args.opened c.in-Ok.engine (g.D.Disk.state c.extend_engine.result.disk) _ _ _ _ _ c.extend_engine.result.outcome
    g.met.D.Disk.lawful c.in-Ok.ensures.alike.disk.looks (λ h before x. reopened g.D.Disk.state c.args.limits.now g.R.Reducer.mode c.args.opened c.in-Ok.engine h before c.in-Ok.ensures.stored c.in-Ok.ensures.alike x)
    (c.extend_engine.ensures.watched is)

pub returns-in-Ok-clause-causes : goal.returns-in-Ok-clause-causes
returns-in-Ok-clause-causes g c =
    causes_by _ _ _ _ _ _ _ _ _ _ _ _ _ c.extend_engine.result.outcome (λ read. read)
    (looked_rose g.D.Disk.state g.D.Disk.faults g.D.Disk.spent c.args.opened.store.disk c.in-Ok.engine.joined.keep.disk c.extend_engine.result.disk _ c.in-Ok.ensures.alike.disk.uses)
    (λ hidden told. hidden (c.in-Ok.ensures.alike.disk.looks.tells told))
    (λ place none. absurd none) (λ kept want none. absurd none) (λ taken had shorter. shorter) c.extend_engine.ensures.causes

pub returns-in-Err-clause-lacks : goal.returns-in-Err-clause-lacks
returns-in-Err-clause-lacks g c =
    lacks_images c.payloads_are_apart.ensures c.a_disk_reads_in_one_way.ensures.one_list (is_resumed c.args.taking) (AsksTold c.args.taking (g.Q.Source.left c.args.questions.now)) (IsOpenAt g.D.Disk.state c.args.limits.now g.R.Reducer.mode c.args.opened)
    c.args.limits.now g.R.Reducer.mode (g.D.Disk.state c.into_disk.result) (g.L.Source.left c.args.log.now) c.args.limits.now.batch (Err c.halt_of_restore.result)
    (λ h before x bs image. open_images g.D.Disk.state c.args.limits.now g.R.Reducer.mode c.args.opened h before x bs
    ((looks_as g.D.Disk.state c.args.opened.store.disk c.in-Err.back.keep.disk c.into_disk.result c.into_disk.ensures c.in-Err.ensures.alike.disk.looks).image bs image))

pub returns-in-Ok-clause-lacks : goal.returns-in-Ok-clause-lacks
returns-in-Ok-clause-lacks g c =
    lacks_from (is_resumed c.args.taking) (AsksTold c.args.taking (g.Q.Source.left c.args.questions.now)) (IsOpenAt g.D.Disk.state c.args.limits.now g.R.Reducer.mode c.args.opened) (IsReopened g.D.Disk.state g.R.Reducer.mode c.args.limits.now c.in-Ok.engine)
    c.args.limits.now g.R.Reducer.mode (g.D.Disk.state c.extend_engine.result.disk) _ _ c.args.limits.now.batch c.extend_engine.result.outcome
    (λ h before x. reopened g.D.Disk.state c.args.limits.now g.R.Reducer.mode c.args.opened c.in-Ok.engine h before c.in-Ok.ensures.stored c.in-Ok.ensures.alike x) c.extend_engine.ensures.lacks

pub returns-in-Err-clause-refused : goal.returns-in-Err-clause-refused
returns-in-Err-clause-refused g c = λ is. (refl, refl, refl, looks_as g.D.Disk.state c.args.opened.store.disk c.in-Err.back.keep.disk c.into_disk.result c.into_disk.ensures c.in-Err.ensures.alike.disk.looks)

pub returns-in-Ok-clause-refused : goal.returns-in-Ok-clause-refused
returns-in-Ok-clause-refused g c = λ is. absurd (never_refused _ _ _ _ _ c.extend_engine.result.outcome c.extend_engine.ensures.causes is)

pub returns-in-Err-clause-unsound : goal.returns-in-Err-clause-unsound
returns-in-Err-clause-unsound g c = rw c.halt_of_restore.ensures (unrestored_refuses g.D.Disk.state c.args.limits.now c.args.opened c.in-Err.back c.in-Err.back.why refl c.in-Err.ensures.bad c.in-Err.ensures.full
    c.in-Err.ensures.hidden)

pub returns-in-Ok-clause-unsound : goal.returns-in-Ok-clause-unsound
returns-in-Ok-clause-unsound g c = restored_refuses g.D.Disk.state c.args.limits.now c.args.opened (store_status c.extend_engine.result.outcome) c.in-Ok.ensures.sound

pub returns-in-Err-clause-heard : goal.returns-in-Err-clause-heard
returns-in-Err-clause-heard g c = λ is h before bytes questions x told tells. tt

pub returns-in-Ok-clause-heard : goal.returns-in-Ok-clause-heard
returns-in-Ok-clause-heard g c = λ is.
    hears_from (IsOpenAt g.D.Disk.state c.args.limits.now g.R.Reducer.mode c.args.opened) (IsReopened g.D.Disk.state g.R.Reducer.mode c.args.limits.now c.in-Ok.engine) c.args.limits.now g.R.Reducer.mode _ _ _ c.extend_engine.result.outcome
    (λ h before x. reopened g.D.Disk.state c.args.limits.now g.R.Reducer.mode c.args.opened c.in-Ok.engine h before c.in-Ok.ensures.stored c.in-Ok.ensures.alike x) (c.extend_engine.ensures.heard is)

pub returns-in-Err-clause-adds : goal.returns-in-Err-clause-adds
returns-in-Err-clause-adds g c = λ resume is h before bytes rest x told left.
    adds_none c.args.limits.now (g.D.Disk.state c.args.opened.store.disk) (g.D.Disk.state c.into_disk.result) _
    ((looks_as g.D.Disk.state c.args.opened.store.disk c.in-Err.back.keep.disk c.into_disk.result c.into_disk.ensures c.in-Err.ensures.alike.disk.looks).same x.open_on.told)

pub returns-in-Ok-clause-adds : goal.returns-in-Ok-clause-adds
returns-in-Ok-clause-adds g c = λ resume is h before bytes rest x told left.
    let last = g.D.Disk.state c.extend_engine.result.disk in
    adds_as c.args.limits.now (g.D.Disk.state c.args.opened.store.disk) (g.D.Disk.state c.in-Ok.engine.joined.keep.disk) last last _ (c.in-Ok.ensures.alike.disk.looks.same x.open_on.told) refl
    (c.extend_engine.ensures.adds resume is h before bytes rest (reopened g.D.Disk.state c.args.limits.now g.R.Reducer.mode c.args.opened c.in-Ok.engine h before c.in-Ok.ensures.stored c.in-Ok.ensures.alike x) told left)

pub returns-in-Err-clause-watch_adds : goal.returns-in-Err-clause-watch_adds
returns-in-Err-clause-watch_adds g c = λ is asked tells h before bytes rest x told left.
    adds_none c.args.limits.now (g.D.Disk.state c.args.opened.store.disk) (g.D.Disk.state c.into_disk.result) _
    ((looks_as g.D.Disk.state c.args.opened.store.disk c.in-Err.back.keep.disk c.into_disk.result c.into_disk.ensures c.in-Err.ensures.alike.disk.looks).same x.open_on.told)

pub returns-in-Ok-clause-watch_adds : goal.returns-in-Ok-clause-watch_adds
returns-in-Ok-clause-watch_adds g c = λ is asked tells h before bytes rest x told left.
    let last = g.D.Disk.state c.extend_engine.result.disk in
    adds_as c.args.limits.now (g.D.Disk.state c.args.opened.store.disk) (g.D.Disk.state c.in-Ok.engine.joined.keep.disk) last last _ (c.in-Ok.ensures.alike.disk.looks.same x.open_on.told) refl
    (c.extend_engine.ensures.watch_adds is asked tells h before bytes rest (reopened g.D.Disk.state c.args.limits.now g.R.Reducer.mode c.args.opened c.in-Ok.engine h before c.in-Ok.ensures.stored c.in-Ok.ensures.alike x) told left)

pub returns-in-Err-clause-causes : goal.returns-in-Err-clause-causes
returns-in-Err-clause-causes g c =
    rw c.halt_of_restore.ensures (restore_causes c.in-Err.back _ _ _ _ (WaitsUnsoundly c.args.limits.now c.args.opened) no_modes (shorter_in (is_resumed c.args.taking))
    (λ place is. (let bad = c.in-Err.ensures.bad place is in record { is = bad.0; unsound = bad.1 }))
    (λ is. subst (λ (d : g.row.D.Denot). Rose (g.D.Disk.faults c.args.opened.store.disk) (g.D.Disk.faults d) (g.D.Disk.spent d)) (sym c.into_disk.ensures) (c.in-Err.ensures.fault is))
    c.in-Err.ensures.hidden c.in-Err.back.why refl)

pub returns-in-Err-clause-uses : goal.returns-in-Err-clause-uses
returns-in-Err-clause-uses g c =
    uses_renamed g.D.Disk.state g.D.Disk.faults g.D.Disk.spent c.args.opened.store.disk c.in-Err.back.keep.disk c.into_disk.result ⊤ ⊤ (IsHiddenIn g.D.Disk.state c.args.opened.store) (WaitsUnsoundly c.args.limits.now c.args.opened)
    no_modes no_lengths (Err c.halt_of_restore.result) c.into_disk.ensures c.in-Err.ensures.alike.disk.uses
    (rw c.halt_of_restore.ensures (restore_causes c.in-Err.back _ _ _ _ (WaitsUnsoundly c.args.limits.now c.args.opened) no_modes no_lengths
    (λ place is. (let bad = c.in-Err.ensures.bad place is in record { is = bad.0; unsound = bad.1 }))
    c.in-Err.ensures.fault c.in-Err.ensures.hidden c.in-Err.back.why refl))

pub returns-in-Ok-clause-uses : goal.returns-in-Ok-clause-uses
returns-in-Ok-clause-uses g c =
    looked_uses g.D.Disk.state g.D.Disk.faults g.D.Disk.spent c.args.opened.store.disk c.in-Ok.engine.joined.keep.disk c.extend_engine.result.disk _ _ c.in-Ok.ensures.alike.disk.uses c.extend_engine.ensures.uses
