use Rattle.std.proofs.Common.{inl, inr, refl, Some}
use Rattle.outside.specs.Looking.{looks_in_a_row}
use Rattle.store_runs.specs.Stores.{AsksTold, IsBadIn, IsOpenAt, IsWrongIn, StoodAt, WaitsUnsoundly, is_resumed}
use Rattle.dialogue.specs.StoreHalts.{no_modes, shorter_in}
use Rattle.store_runs.proofs.StoreRuns.{bad_opened, causes_by, looked_rose, open_at, open_causes, opened_run, opened_watch, unopened_run, unopened_watch}
use Rattle.store_runs.proofs.EndLemmas.{hears_from}
use Rattle.dialogue.proofs.AddLemmas.{adds_as, adds_none}
use Rattle.dialogue.proofs.LackLemmas.{lacks_from}
use Rattle.store_runs.proofs.RefusalLemmas.{opened_refuses, unopened_refuses}
use Rattle.store_runs.specs.Statuses.{store_status}
use Rattle.store_runs.proofs.extending.extend.Goals as goal

pub returns-in-Err-clause-reduced : goal.returns-in-Err-clause-reduced
returns-in-Err-clause-reduced g c = λ resume is.
    unopened_run resume g.D.Disk.state c.args.limits.now c.args.mode c.args.disk c.in-Err.back.disk (g.L.Source.left c.args.log.now) (g.O.Sink.written c.args.out.now) c.in-Err.back.fault c.halt_of_open.result
    c.in-Err.ensures.looks c.halt_of_open.ensures

pub returns-in-Err-clause-watched : goal.returns-in-Err-clause-watched
returns-in-Err-clause-watched g c = λ is.
    unopened_watch g.D.Disk.state c.args.limits.now c.args.mode c.args.disk c.in-Err.back.disk (g.L.Source.left c.args.log.now) (g.Q.Source.left c.args.questions.now) (g.O.Sink.written c.args.out.now) c.in-Err.back.fault
    c.halt_of_open.result c.in-Err.ensures.looks c.halt_of_open.ensures

pub returns-in-Err-clause-causes : goal.returns-in-Err-clause-causes
returns-in-Err-clause-causes g c =
    rw c.halt_of_open.ensures (open_causes _ _ _ _ (IsBadIn c.args.limits.now (g.D.Disk.state c.args.disk)) (IsWrongIn c.args.limits.now (g.D.Disk.state c.args.disk) (Some c.args.mode)) (shorter_in (is_resumed c.args.taking)) c.in-Err.back.fault
    (λ is. c.in-Err.ensures.uses.rose is) (λ place is told. inl (c.in-Err.ensures.bad told place is)) (λ kept want is told. c.in-Err.ensures.wrong told kept want is))

pub returns-in-Ok-clause-reduced : goal.returns-in-Ok-clause-reduced
returns-in-Ok-clause-reduced g c = λ resume is.
    opened_run resume g.D.Disk.state c.args.limits.now c.args.mode c.args.disk c.in-Ok.opened (g.D.Disk.state c.extend_opened.result.disk) (g.L.Source.left c.args.log.now) (g.L.Source.left c.extend_opened.new.log)
    (g.O.Sink.written c.args.out.now) (g.O.Sink.written c.extend_opened.new.out) c.extend_opened.result.outcome g.met.D.Disk.lawful c.in-Ok.ensures.looks c.in-Ok.ensures.settles
    (λ h part stood. open_at g.D.Disk.state c.args.limits.now c.args.mode c.args.disk c.in-Ok.opened h part stood c.in-Ok.ensures.store c.in-Ok.ensures.durable c.in-Ok.ensures.looks c.in-Ok.ensures.saved c.in-Ok.ensures.log)
    (c.extend_opened.ensures.reduced resume is)

pub returns-in-Ok-clause-watched : goal.returns-in-Ok-clause-watched
returns-in-Ok-clause-watched g c = λ is.
    opened_watch g.D.Disk.state c.args.limits.now c.args.mode c.args.disk c.in-Ok.opened (g.D.Disk.state c.extend_opened.result.disk) (g.L.Source.left c.args.log.now) (g.L.Source.left c.extend_opened.new.log)
    (g.Q.Source.left c.args.questions.now) (g.O.Sink.written c.args.out.now) (g.O.Sink.written c.extend_opened.new.out) c.extend_opened.result.outcome g.met.D.Disk.lawful c.in-Ok.ensures.looks c.in-Ok.ensures.settles
    (λ h part stood. open_at g.D.Disk.state c.args.limits.now c.args.mode c.args.disk c.in-Ok.opened h part stood c.in-Ok.ensures.store c.in-Ok.ensures.durable c.in-Ok.ensures.looks c.in-Ok.ensures.saved c.in-Ok.ensures.log)
    (c.extend_opened.ensures.watched is)

pub returns-in-Ok-clause-causes : goal.returns-in-Ok-clause-causes
returns-in-Ok-clause-causes g c =
    causes_by _ _ _ _ _ _ _ (WaitsUnsoundly c.args.limits.now c.in-Ok.opened) (IsBadIn c.args.limits.now (g.D.Disk.state c.args.disk)) no_modes (IsWrongIn c.args.limits.now (g.D.Disk.state c.args.disk) (Some c.args.mode)) (shorter_in (is_resumed c.args.taking)) (shorter_in (is_resumed c.args.taking))
    c.extend_opened.result.outcome (λ read. read)
    (looked_rose g.D.Disk.state g.D.Disk.faults g.D.Disk.spent c.args.disk c.in-Ok.opened.store.disk c.extend_opened.result.disk _ c.in-Ok.ensures.uses)
    (λ hidden told. hidden (c.in-Ok.ensures.uses.still_told told))
    (λ place bad told. inr (bad_opened c.args.limits.now c.in-Ok.opened _ place (c.in-Ok.ensures.store told) (c.in-Ok.ensures.last told) bad)) (λ kept want none. absurd none) (λ taken had shorter. shorter) c.extend_opened.ensures.causes

pub returns-in-Err-clause-lacks : goal.returns-in-Err-clause-lacks
returns-in-Err-clause-lacks g c = inl (c.in-Err.ensures.looks, refl)

pub returns-in-Ok-clause-lacks : goal.returns-in-Ok-clause-lacks
returns-in-Ok-clause-lacks g c =
    inr (lacks_from (is_resumed c.args.taking) (AsksTold c.args.taking (g.Q.Source.left c.args.questions.now)) (StoodAt g.D.Disk.state c.args.limits.now c.args.mode c.args.disk) (IsOpenAt g.D.Disk.state c.args.limits.now c.args.mode c.in-Ok.opened)
    c.args.limits.now c.args.mode (g.D.Disk.state c.extend_opened.result.disk) _ _ c.args.limits.now.batch c.extend_opened.result.outcome
    (λ h part stood. open_at g.D.Disk.state c.args.limits.now c.args.mode c.args.disk c.in-Ok.opened h part stood c.in-Ok.ensures.store c.in-Ok.ensures.durable c.in-Ok.ensures.looks c.in-Ok.ensures.saved c.in-Ok.ensures.log)
    c.extend_opened.ensures.lacks)

pub returns-in-Ok-clause-refused : goal.returns-in-Ok-clause-refused
returns-in-Ok-clause-refused g c = λ is.
    let left = c.extend_opened.ensures.refused is in
    (left.0, left.1, left.2, looks_in_a_row (g.D.Disk.state c.args.disk) (g.D.Disk.state c.in-Ok.opened.store.disk) (g.D.Disk.state c.extend_opened.result.disk) c.in-Ok.ensures.looks left.3)

pub returns-in-Err-clause-always : goal.returns-in-Err-clause-always
returns-in-Err-clause-always g c =
    rw c.halt_of_open.ensures (unopened_refuses c.a_store_reads_in_one_way.ensures.never_bad c.a_store_reads_in_one_way.ensures.one_place c.a_store_reads_in_one_way.ensures.mode c.args.limits.now (g.D.Disk.state c.args.disk)
    (Some c.args.mode) c.in-Err.back.fault (λ told place is. c.in-Err.ensures.bad told place is) (λ told kept want is. c.in-Err.ensures.wrong told kept want is))

pub returns-in-Ok-clause-always : goal.returns-in-Ok-clause-always
returns-in-Ok-clause-always g c =
    opened_refuses g.D.Disk.state c.a_store_reads_in_one_way.ensures.never_bad c.a_store_reads_in_one_way.ensures.mode c.a_store_reads_in_one_way.ensures.others c.a_store_reads_in_one_way.ensures.last c.args.limits.now
    (g.D.Disk.state c.args.disk) (Some c.args.mode) c.in-Ok.opened (store_status c.extend_opened.result.outcome) c.in-Ok.ensures.store c.in-Ok.ensures.last c.in-Ok.ensures.lawful c.in-Ok.ensures.agree
    c.in-Ok.ensures.looks.tells c.extend_opened.ensures.unsound

pub returns-in-Err-clause-heard : goal.returns-in-Err-clause-heard
returns-in-Err-clause-heard g c = λ is h before bytes questions stood told tells. tt

pub returns-in-Ok-clause-heard : goal.returns-in-Ok-clause-heard
returns-in-Ok-clause-heard g c = λ is.
    hears_from (StoodAt g.D.Disk.state c.args.limits.now c.args.mode c.args.disk) (IsOpenAt g.D.Disk.state c.args.limits.now c.args.mode c.in-Ok.opened) c.args.limits.now c.args.mode _ _ _ c.extend_opened.result.outcome
    (λ h part stood. open_at g.D.Disk.state c.args.limits.now c.args.mode c.args.disk c.in-Ok.opened h part stood c.in-Ok.ensures.store c.in-Ok.ensures.durable c.in-Ok.ensures.looks c.in-Ok.ensures.saved c.in-Ok.ensures.log)
    (c.extend_opened.ensures.heard is)

pub returns-in-Err-clause-adds : goal.returns-in-Err-clause-adds
returns-in-Err-clause-adds g c = λ resume is h before bytes rest stood told left.
    adds_none c.args.limits.now (g.D.Disk.state c.args.disk) (g.D.Disk.state c.in-Err.back.disk) _ (c.in-Err.ensures.looks.same stood.told)

pub returns-in-Ok-clause-adds : goal.returns-in-Ok-clause-adds
returns-in-Ok-clause-adds g c = λ resume is h before bytes rest stood told left.
    let last = g.D.Disk.state c.extend_opened.result.disk in
    let x = open_at g.D.Disk.state c.args.limits.now c.args.mode c.args.disk c.in-Ok.opened h before stood c.in-Ok.ensures.store c.in-Ok.ensures.durable c.in-Ok.ensures.looks c.in-Ok.ensures.saved c.in-Ok.ensures.log in
    adds_as c.args.limits.now (g.D.Disk.state c.args.disk) (g.D.Disk.state c.in-Ok.opened.store.disk) last last _ (c.in-Ok.ensures.looks.same stood.told) refl (c.extend_opened.ensures.adds resume is h before bytes rest x told left)

pub returns-in-Err-clause-watch_adds : goal.returns-in-Err-clause-watch_adds
returns-in-Err-clause-watch_adds g c = λ is asked tells h before bytes rest stood told left.
    adds_none c.args.limits.now (g.D.Disk.state c.args.disk) (g.D.Disk.state c.in-Err.back.disk) _ (c.in-Err.ensures.looks.same stood.told)

pub returns-in-Ok-clause-watch_adds : goal.returns-in-Ok-clause-watch_adds
returns-in-Ok-clause-watch_adds g c = λ is asked tells h before bytes rest stood told left.
    let last = g.D.Disk.state c.extend_opened.result.disk in
    let x = open_at g.D.Disk.state c.args.limits.now c.args.mode c.args.disk c.in-Ok.opened h before stood c.in-Ok.ensures.store c.in-Ok.ensures.durable c.in-Ok.ensures.looks c.in-Ok.ensures.saved c.in-Ok.ensures.log in
    adds_as c.args.limits.now (g.D.Disk.state c.args.disk) (g.D.Disk.state c.in-Ok.opened.store.disk) last last _ (c.in-Ok.ensures.looks.same stood.told) refl (c.extend_opened.ensures.watch_adds is asked tells h before bytes rest x told left)
