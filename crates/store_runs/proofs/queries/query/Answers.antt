use Rattle.std.proofs.Common.{inl, None}
use Rattle.std.specs.Prelude.{◌⊎◌}
use Rattle.store_runs.specs.Stores.{HasNoBatch, IsBadOrNone, IsWrongIn, WaitsUnsoundly}
use Rattle.dialogue.specs.StoreHalts.{no_lengths, no_modes}
use Rattle.outside.specs.Looking.{looks_in_a_row}
use Rattle.store_runs.proofs.StoreRuns.{bad_or_none, causes_by, open_at, open_causes, queried_unopened, looked_rose, looked_uses}
use Rattle.store_runs.proofs.RefusalLemmas.{opened_no_batch, opened_refuses, unopened_no_batch, unopened_refuses}
use Rattle.store_runs.specs.Statuses.{store_status}
use Rattle.store_runs.proofs.queries.query.Goals as goal

pub returns-in-Err-clause-run : goal.returns-in-Err-clause-run
returns-in-Err-clause-run g c = record { queried = λ kept h asked stood told. rw c.halt_of_open.ensures (queried_unopened c.args.limits.now kept h asked (g.Q.Source.left c.args.questions.now) (g.O.Sink.written c.args.out.now) c.in-Err.back.fault) }

pub returns-in-Err-clause-causes : goal.returns-in-Err-clause-causes
returns-in-Err-clause-causes g c =
    rw c.halt_of_open.ensures (open_causes _ _ _ _ (IsBadOrNone c.args.limits.now (g.D.Disk.state c.args.disk)) (IsWrongIn c.args.limits.now (g.D.Disk.state c.args.disk) None) no_lengths c.in-Err.back.fault
    (λ is. c.in-Err.ensures.uses.rose is) (λ place is told. inl (inl (c.in-Err.ensures.bad told place is))) (λ kept want is told. c.in-Err.ensures.wrong told kept want is))

pub returns-in-Ok-clause-run : goal.returns-in-Ok-clause-run
returns-in-Ok-clause-run g c = record {
  queried = λ kept h asked stood told.
      c.query_opened.ensures.run.queried kept h asked (
        stood.0,
        open_at g.D.Disk.state c.args.limits.now kept c.args.disk c.in-Ok.opened h stood.0 stood.1 c.in-Ok.ensures.store c.in-Ok.ensures.durable c.in-Ok.ensures.looks
            c.in-Ok.ensures.saved c.in-Ok.ensures.log,
      ) told;
}

pub returns-in-Ok-clause-causes : goal.returns-in-Ok-clause-causes
returns-in-Ok-clause-causes g c =
    causes_by _ _ _ _ _ _ _ (λ place. WaitsUnsoundly c.args.limits.now c.in-Ok.opened place ⊎ HasNoBatch c.in-Ok.opened place) (IsBadOrNone c.args.limits.now (g.D.Disk.state c.args.disk)) no_modes
    (IsWrongIn c.args.limits.now (g.D.Disk.state c.args.disk) None) no_lengths no_lengths c.query_opened.result.outcome (λ read. read)
    (looked_rose g.D.Disk.state g.D.Disk.faults g.D.Disk.spent c.args.disk c.in-Ok.opened.store.disk c.query_opened.result.disk _ c.in-Ok.ensures.uses)
    (λ hidden told. hidden (c.in-Ok.ensures.uses.still_told told))
    (λ place bad told. bad_or_none c.args.limits.now c.in-Ok.opened _ place (c.in-Ok.ensures.store told) (c.in-Ok.ensures.last told) bad) (λ kept want none. absurd none) (λ taken had none. absurd none) c.query_opened.ensures.causes

pub returns-in-Err-clause-always : goal.returns-in-Err-clause-always
returns-in-Err-clause-always g c =
    rw c.halt_of_open.ensures (unopened_refuses c.a_store_reads_in_one_way.ensures.never_bad c.a_store_reads_in_one_way.ensures.one_place c.a_store_reads_in_one_way.ensures.mode c.args.limits.now (g.D.Disk.state c.args.disk)
    None c.in-Err.back.fault (λ told place is. c.in-Err.ensures.bad told place is) (λ told kept want is. c.in-Err.ensures.wrong told kept want is))

pub returns-in-Err-clause-no_batch : goal.returns-in-Err-clause-no_batch
returns-in-Err-clause-no_batch g c =
    rw c.halt_of_open.ensures (unopened_no_batch c.a_store_reads_in_one_way.ensures.never_bad c.args.limits.now (g.D.Disk.state c.args.disk) c.in-Err.back.fault
    (λ told place is. c.in-Err.ensures.bad told place is) (λ told kept want is. c.in-Err.ensures.wrong told kept want is))

pub returns-in-Ok-clause-always : goal.returns-in-Ok-clause-always
returns-in-Ok-clause-always g c =
    opened_refuses g.D.Disk.state c.a_store_reads_in_one_way.ensures.never_bad c.a_store_reads_in_one_way.ensures.mode c.a_store_reads_in_one_way.ensures.others c.a_store_reads_in_one_way.ensures.last c.args.limits.now
    (g.D.Disk.state c.args.disk) None c.in-Ok.opened (store_status c.query_opened.result.outcome) c.in-Ok.ensures.store c.in-Ok.ensures.last c.in-Ok.ensures.lawful c.in-Ok.ensures.agree
    c.in-Ok.ensures.looks.tells c.query_opened.ensures.unsound

pub returns-in-Ok-clause-no_batch : goal.returns-in-Ok-clause-no_batch
returns-in-Ok-clause-no_batch g c =
    opened_no_batch c.a_store_reads_in_one_way.ensures.mode c.args.limits.now (g.D.Disk.state c.args.disk) c.in-Ok.opened c.query_opened.result.outcome c.in-Ok.ensures.store c.query_opened.ensures.none

pub returns-in-Ok-clause-looks : goal.returns-in-Ok-clause-looks
returns-in-Ok-clause-looks g c =
    looks_in_a_row (g.D.Disk.state c.args.disk) (g.D.Disk.state c.in-Ok.opened.store.disk) (g.D.Disk.state c.query_opened.result.disk) c.in-Ok.ensures.looks c.query_opened.ensures.looks

pub returns-in-Ok-clause-uses : goal.returns-in-Ok-clause-uses
returns-in-Ok-clause-uses g c =
    looked_uses g.D.Disk.state g.D.Disk.faults g.D.Disk.spent c.args.disk c.in-Ok.opened.store.disk c.query_opened.result.disk _ _ c.in-Ok.ensures.uses c.query_opened.ensures.uses
