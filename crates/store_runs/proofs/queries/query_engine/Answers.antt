use Rattle.std.proofs.Common.{◌≡◌, ◌∙◌, [], ap, Some, refl, arith}
use Rattle.reduced_store.specs.OnDisk.{OnDisk}
use Rattle.dialogue.specs.Saves.{Begun, Start}
use Rattle.dialogue.specs.StoreHalts.{no_lengths, no_modes, no_place, over_run}
use Rattle.store_runs.specs.Stores.{querying}
use Rattle.store_runs.proofs.EndLemmas.{any_limit, at_query, heard_out, run_names}
use Rattle.dialogue.proofs.SaveLemmas.{causes_on}
use Rattle.store_runs.proofs.StoreRuns.{causes_renamed, looks_as, looks_same, no_log, over_causes, queried_none, queried_of, uses_renamed, uses_still}
use Rattle.store_runs.proofs.queries.query_engine.Goals as goal

pub returns-in-Err-clause-queried : goal.returns-in-Err-clause-queried
returns-in-Err-clause-queried g c = λ h before asked stands told. queried_none c.args.limits.now g.R.Reducer.mode h asked (g.Q.Source.left c.args.questions.now) (g.O.Sink.written c.args.out.now)

pub invariant_of-session : goal.invariant_of-session
invariant_of-session g c = record { few = omega (arith, c.args.limits.now.batch_some); room = c.in-Ok.ensures }

pub returns-clause-queried : goal.returns-clause-queried
returns-clause-queried g c = λ h before asked x told.
    let limits = c.args.limits.now in
    let begun : Begun = record { history = h; before = before; part = before; log = [] } in
    let start : Start (OnDisk g.row.D.Denot) = record { begun = begun; rows = c.args.engine.joined.keep } in
    let from = querying g.R.Reducer.mode h in
    let at = at_query g.D.Disk.state limits g.R.Reducer.mode c.args.engine _ h before c.what_is_saved_stays_saved.ensures g.met.D.Disk.lawful x (ap Some (c.new-log.ensures ∙ c.new.ensures)) in
    let watch = c.watch-outcome.ensures in
    let talked = watch.talked start from asked at told in
    let heard = heard_out c.stops_stay.ensures c.what_fits_never_stops.ensures _ limits from asked _ _ _ _ _ c.watch-outcome.result talked (watch.within start from asked at told) (watch.left start from asked at told) in
    rw c.halted.ensures (queried_of _ limits g.R.Reducer.mode h asked _ _ _ _ _ c.watch-outcome.result (run_names _ _ _ _ c.watch-outcome.result watch.causes) heard talked)

pub returns-in-Err-clause-looks : goal.returns-in-Err-clause-looks
returns-in-Err-clause-looks g c =
    let last : c.into_disk.result ≡ c.args.engine.joined.keep.disk = c.into_disk.ensures ∙ ap (λ (k : OnDisk g.row.D.Denot). k.disk) c.into_keep.ensures in
    looks_same g.D.Disk.state c.args.engine.joined.keep.disk c.into_disk.result last

pub returns-in-Err-clause-uses : goal.returns-in-Err-clause-uses
returns-in-Err-clause-uses g c =
    let last : c.into_disk.result ≡ c.args.engine.joined.keep.disk = c.into_disk.ensures ∙ ap (λ (k : OnDisk g.row.D.Denot). k.disk) c.into_keep.ensures in
    uses_still g.D.Disk.state g.D.Disk.faults g.D.Disk.spent c.args.engine.joined.keep.disk c.into_disk.result _ last (λ is. let no = is in cc)

pub returns-clause-looks : goal.returns-clause-looks
returns-clause-looks g c =
    let now = c.watch-outcome.new.session.engine.joined.keep.disk in
    let last : c.into_disk-2.result ≡ now = c.into_disk-2.ensures ∙ ap (λ (k : OnDisk g.row.D.Denot). k.disk) c.into_keep-2.ensures in
    looks_as g.D.Disk.state c.args.engine.joined.keep.disk now c.into_disk-2.result last (c.watch-outcome.ensures.alike refl).disk.looks

pub returns-clause-causes : goal.returns-clause-causes
returns-clause-causes g c =
    let now = c.watch-outcome.new.session.engine.joined.keep.disk in
    let last : c.into_disk-2.result ≡ now = c.into_disk-2.ensures ∙ ap (λ (k : OnDisk g.row.D.Denot). k.disk) c.into_keep-2.ensures in
    rw c.halted.ensures (causes_renamed g.D.Disk.faults g.D.Disk.spent c.args.engine.joined.keep.disk now c.into_disk-2.result _ _ _ no_place no_modes no_lengths (over_run c.watch-outcome.result) last
    (over_causes _ _ _ _ no_place no_modes no_lengths c.watch-outcome.result (causes_on _ _ _ _ _ _ _ _ _ c.watch-outcome.result (no_log _) (λ write. write) (λ store. store) (λ hidden. hidden)
    (any_limit _ _ _ _ c.watch-outcome.result c.watch-outcome.ensures.causes))))

pub returns-clause-uses : goal.returns-clause-uses
returns-clause-uses g c =
    let now = c.watch-outcome.new.session.engine.joined.keep.disk in
    let last : c.into_disk-2.result ≡ now = c.into_disk-2.ensures ∙ ap (λ (k : OnDisk g.row.D.Denot). k.disk) c.into_keep-2.ensures in
    rw c.halted.ensures (uses_renamed g.D.Disk.state g.D.Disk.faults g.D.Disk.spent c.args.engine.joined.keep.disk now c.into_disk-2.result _ _ _ no_place no_modes no_lengths (over_run c.watch-outcome.result) last
    (c.watch-outcome.ensures.alike refl).disk.uses (over_causes _ _ _ _ no_place no_modes no_lengths c.watch-outcome.result (any_limit _ _ _ _ c.watch-outcome.result c.watch-outcome.ensures.causes)))
