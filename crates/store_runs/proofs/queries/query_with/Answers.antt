use Rattle.std.proofs.Common.{sym, subst, refl, inl}
use Rattle.std.specs.Prelude.{◌⊎◌, Err, ⊤}
use Rattle.outside.specs.Cause.{Rose}
use Rattle.outside.specs.Looking.{looks_in_a_row}
use Rattle.dialogue.specs.Saves.{IsHiddenIn}
use Rattle.dialogue.specs.StoreHalts.{no_lengths, no_modes, no_place}
use Rattle.reach_model.specs.declared.modes.Mode.{Mode}
use Rattle.store_runs.specs.Stores.{HasNoBatch, IsOpenAt, IsQueried, WaitsUnsoundly}
use Rattle.store_runs.proofs.StoreRuns.{causes_by, kept_mode, looked_rose, looked_uses, looks_as, never_refused, queried_unrestored, reopened, restore_causes, uses_renamed}
use Rattle.store_runs.proofs.RefusalLemmas.{restored_refuses, unrestored_refuses}
use Rattle.store_runs.specs.Statuses.{store_status}
use Rattle.store_runs.proofs.queries.query_with.Goals as goal

pub returns-in-Err-clause-run : goal.returns-in-Err-clause-run
returns-in-Err-clause-run g c = record {
  queried = λ kept h asked stood told.
      rw c.halt_of_restore.ensures (queried_unrestored g.D.Disk.state c.args.limits.now kept c.args.opened h stood.0 asked (g.Q.Source.left c.args.questions.now) (g.O.Sink.written c.args.out.now) c.in-Err.back
      c.what_is_found_was_stored.ensures stood.1 c.in-Err.ensures.full c.in-Err.ensures.hidden c.in-Err.back.why refl);
}

pub returns-in-Ok-clause-run : goal.returns-in-Ok-clause-run
returns-in-Ok-clause-run g c = record {
  queried = λ kept h asked stood told.
      let same = kept_mode g.D.Disk.state c.args.limits.now kept g.R.Reducer.mode c.args.opened h stood.0 c.what_is_found_was_stored.ensures c.requires.mode stood.1 in
      let x = subst (λ (m : Mode). IsOpenAt g.D.Disk.state c.args.limits.now m c.args.opened h stood.0) same stood.1 in
      subst (λ (m : Mode). IsQueried c.args.limits.now m h asked (g.Q.Source.left c.query_engine.new.questions) (g.O.Sink.written c.args.out.now) (g.O.Sink.written c.query_engine.new.out) c.query_engine.result.outcome) (sym same)
      (c.query_engine.ensures.queried h stood.0 asked (reopened g.D.Disk.state c.args.limits.now g.R.Reducer.mode c.args.opened c.in-Ok.engine h stood.0 c.in-Ok.ensures.stored c.in-Ok.ensures.alike x) told);
}

pub returns-in-Ok-clause-refused : goal.returns-in-Ok-clause-refused
returns-in-Ok-clause-refused g c = λ is. absurd (never_refused _ _ _ _ _ c.query_engine.result.outcome c.query_engine.ensures.causes is)

pub returns-in-Err-clause-unsound : goal.returns-in-Err-clause-unsound
returns-in-Err-clause-unsound g c = rw c.halt_of_restore.ensures (unrestored_refuses g.D.Disk.state c.args.limits.now c.args.opened c.in-Err.back c.in-Err.back.why refl c.in-Err.ensures.bad c.in-Err.ensures.full
    c.in-Err.ensures.hidden)

pub returns-in-Ok-clause-unsound : goal.returns-in-Ok-clause-unsound
returns-in-Ok-clause-unsound g c = restored_refuses g.D.Disk.state c.args.limits.now c.args.opened (store_status c.query_engine.result.outcome) c.in-Ok.ensures.sound

pub returns-in-Err-clause-looks : goal.returns-in-Err-clause-looks
returns-in-Err-clause-looks g c =
    looks_as g.D.Disk.state c.args.opened.store.disk c.in-Err.back.keep.disk c.into_disk.result c.into_disk.ensures c.in-Err.ensures.alike.disk.looks

pub returns-in-Ok-clause-looks : goal.returns-in-Ok-clause-looks
returns-in-Ok-clause-looks g c =
    looks_in_a_row (g.D.Disk.state c.args.opened.store.disk) (g.D.Disk.state c.in-Ok.engine.joined.keep.disk) (g.D.Disk.state c.query_engine.result.disk) c.in-Ok.ensures.alike.disk.looks c.query_engine.ensures.looks

pub returns-in-Err-clause-causes : goal.returns-in-Err-clause-causes
returns-in-Err-clause-causes g c =
    rw c.halt_of_restore.ensures (restore_causes c.in-Err.back _ _ _ _ (λ place. WaitsUnsoundly c.args.limits.now c.args.opened place ⊎ HasNoBatch c.args.opened place) no_modes no_lengths
    (λ place is. (let bad = c.in-Err.ensures.bad place is in inl (record { is = bad.0; unsound = bad.1 })))
    (λ is. subst (λ (d : g.row.D.Denot). Rose (g.D.Disk.faults c.args.opened.store.disk) (g.D.Disk.faults d) (g.D.Disk.spent d)) (sym c.into_disk.ensures) (c.in-Err.ensures.fault is))
    c.in-Err.ensures.hidden c.in-Err.back.why refl)

pub returns-in-Ok-clause-causes : goal.returns-in-Ok-clause-causes
returns-in-Ok-clause-causes g c =
    causes_by _ _ _ _ _ _ _ no_place (λ place. WaitsUnsoundly c.args.limits.now c.args.opened place ⊎ HasNoBatch c.args.opened place) no_modes no_modes no_lengths no_lengths c.query_engine.result.outcome (λ read. read)
    (looked_rose g.D.Disk.state g.D.Disk.faults g.D.Disk.spent c.args.opened.store.disk c.in-Ok.engine.joined.keep.disk c.query_engine.result.disk _ c.in-Ok.ensures.alike.disk.uses)
    (λ hidden told. hidden (c.in-Ok.ensures.alike.disk.looks.tells told))
    (λ place none. absurd none) (λ kept want none. absurd none) (λ taken had none. absurd none) c.query_engine.ensures.causes

pub returns-in-Err-clause-uses : goal.returns-in-Err-clause-uses
returns-in-Err-clause-uses g c =
    uses_renamed g.D.Disk.state g.D.Disk.faults g.D.Disk.spent c.args.opened.store.disk c.in-Err.back.keep.disk c.into_disk.result ⊤ ⊤ (IsHiddenIn g.D.Disk.state c.args.opened.store) (WaitsUnsoundly c.args.limits.now c.args.opened)
    no_modes no_lengths (Err c.halt_of_restore.result) c.into_disk.ensures c.in-Err.ensures.alike.disk.uses
    (rw c.halt_of_restore.ensures (restore_causes c.in-Err.back _ _ _ _ (WaitsUnsoundly c.args.limits.now c.args.opened) no_modes no_lengths
    (λ place is. (let bad = c.in-Err.ensures.bad place is in record { is = bad.0; unsound = bad.1 }))
    c.in-Err.ensures.fault c.in-Err.ensures.hidden c.in-Err.back.why refl))

pub returns-in-Ok-clause-uses : goal.returns-in-Ok-clause-uses
returns-in-Ok-clause-uses g c =
    looked_uses g.D.Disk.state g.D.Disk.faults g.D.Disk.spent c.args.opened.store.disk c.in-Ok.engine.joined.keep.disk c.query_engine.result.disk _ _ c.in-Ok.ensures.alike.disk.uses c.query_engine.ensures.uses
