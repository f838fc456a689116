use Rattle.std.proofs.Common.{refl, ap, subst}
use Rattle.std.specs.Prelude.{OnOk}
use Rattle.reduced_store.specs.OnDisk.{OnDisk, payload_between}
use Rattle.ingest.specs.Asking.{StandsStill}
use Rattle.ingest.specs.Parts.{Engine, Joined}
use Rattle.ingest.specs.Saving.{AddsOne, LeavesEither, PassesFull, Saves}
use Rattle.ingest.proofs.FewActs.{few_stays}
use Rattle.ingest.proofs.Saving.{HasParts, adds_none, has_parts, leaves_now, leaves_still, named, passes_now, passes_unspelled, saves_now, still_stands}
use Rattle.ingest.proofs.engine.Ingest+R+Store+D.commit.Goals as goal

pub returns-in_err-state-clause-leaves : goal.returns-in_err-state-clause-leaves
returns-in_err-state-clause-leaves g c = λ told. leaves_still g.D.Disk.state g.R.Reducer.mode c.args.self.now c.args.self.now g.met.D.Disk.lawful refl

pub returns-in_err-rows-clause-leaves : goal.returns-in_err-rows-clause-leaves
returns-in_err-rows-clause-leaves g c = λ told. leaves_still g.D.Disk.state g.R.Reducer.mode c.args.self.now c.args.self.now g.met.D.Disk.lawful refl

pub returns-then-not-are_spelled-clause-leaves : goal.returns-then-not-are_spelled-clause-leaves
returns-then-not-are_spelled-clause-leaves g c = λ told. leaves_still g.D.Disk.state g.R.Reducer.mode c.args.self.now c.args.self.now g.met.D.Disk.lawful refl

pub returns-then-not-are_spelled-clause-full : goal.returns-then-not-are_spelled-clause-full
returns-then-not-are_spelled-clause-full g c = λ full is.
    let seen : Engine (OnDisk g.row.D.Denot) = record { reader = c.self.inside.reader; joined = c.self.inside.joined; part = c.self.inside.part } in
    let parts : HasParts g.R.Reducer.mode seen c.as_slice-entities.result.now c.as_slice-others.result.now =
    has_parts g.R.Reducer.mode seen c.in_ok-state.state c.in_ok-rows.rows.entities c.in_ok-rows.rows.others _ _ c.in_ok-state.ensures.state c.in_ok-rows.ensures.put c.as_slice-entities.ensures c.as_slice-others.ensures c.in_ok-rows.ensures.mode in
    subst (λ (old : Engine (OnDisk g.row.D.Denot)). PassesFull g.D.Disk.state g.R.Reducer.mode old full) c.self.view_is
    (passes_unspelled g.D.Disk.state g.R.Reducer.mode seen _ _ full c.histories_may_be_committed.ensures.since c.acts_of_events_are_admitted.ensures c.a_commit_by_rows_is_that_of_its_moments.ensures
    c.rows_that_fit_can_be_spelled.ensures parts (λ both. cc (c.if-not-are_spelled.ensures.1 both)) (named full _ _ c.limits.ensures is))

pub invariant_of-self : goal.invariant_of-self
invariant_of-self g c = few_stays c.self.inside.reader c.self.inside.joined c.save.new.self c.self.invariant c.save.ensures.few

pub returns-clause-saves : goal.returns-clause-saves
returns-clause-saves g c =
    let seen : Engine (OnDisk g.row.D.Denot) = record { reader = c.self.inside.reader; joined = c.self.inside.joined; part = c.self.inside.part } in
    let new : Engine (OnDisk g.row.D.Denot) = record { reader = c.self.inside.reader; joined = c.save.new.self; part = c.self.inside.part } in
    let parts : HasParts g.R.Reducer.mode seen c.as_slice-entities.result.now c.as_slice-others.result.now =
    has_parts g.R.Reducer.mode seen c.in_ok-state.state c.in_ok-rows.rows.entities c.in_ok-rows.rows.others _ _ c.in_ok-state.ensures.state c.in_ok-rows.ensures.put c.as_slice-entities.ensures c.as_slice-others.ensures c.in_ok-rows.ensures.mode in
    subst (λ (old : Engine (OnDisk g.row.D.Denot)). (g.D.Disk.state old.joined.keep.disk).told → OnOk c.save.result (Saves g.D.Disk.state g.R.Reducer.mode old new)) c.self.view_is
    (saves_now g.D.Disk.state g.D.Disk.faults g.D.Disk.spent g.R.Reducer.mode seen new _ _ c.save.result c.histories_may_be_committed.ensures.since c.acts_of_events_are_admitted.ensures
    c.a_commit_by_rows_is_that_of_its_moments.ensures c.a_disk_reads_in_one_way.ensures.one_list c.stores_follow_histories.ensures.bytes parts (record { disks = g.met.D.Disk.lawful; own = c.save.ensures.own; leads = c.save.ensures.commits.leads }) c.save.ensures.commits c.save.ensures.marked)

pub returns-clause-leaves : goal.returns-clause-leaves
returns-clause-leaves g c =
    let seen : Engine (OnDisk g.row.D.Denot) = record { reader = c.self.inside.reader; joined = c.self.inside.joined; part = c.self.inside.part } in
    let new : Engine (OnDisk g.row.D.Denot) = record { reader = c.self.inside.reader; joined = c.save.new.self; part = c.self.inside.part } in
    let parts : HasParts g.R.Reducer.mode seen c.as_slice-entities.result.now c.as_slice-others.result.now =
    has_parts g.R.Reducer.mode seen c.in_ok-state.state c.in_ok-rows.rows.entities c.in_ok-rows.rows.others _ _ c.in_ok-state.ensures.state c.in_ok-rows.ensures.put c.as_slice-entities.ensures c.as_slice-others.ensures c.in_ok-rows.ensures.mode in
    subst (λ (old : Engine (OnDisk g.row.D.Denot)). (g.D.Disk.state old.joined.keep.disk).told → LeavesEither g.D.Disk.state g.R.Reducer.mode old new) c.self.view_is
    (λ told. leaves_now g.D.Disk.state g.D.Disk.faults g.D.Disk.spent g.R.Reducer.mode seen new _ _ c.histories_may_be_committed.ensures.since c.acts_of_events_are_admitted.ensures
    c.a_commit_by_rows_is_that_of_its_moments.ensures c.a_disk_reads_in_one_way.ensures.one_list c.stores_follow_histories.ensures.bytes parts (record { disks = g.met.D.Disk.lawful; own = c.save.ensures.own; leads = c.save.ensures.commits.leads }) told g.met.D.Disk.lawful c.save.result c.save.ensures.commits)

pub returns-in_err-state-clause-adds : goal.returns-in_err-state-clause-adds
returns-in_err-state-clause-adds g c = λ told. adds_none g.D.Disk.state c.args.self.now c.args.self.now g.met.D.Disk.lawful refl

pub returns-in_err-rows-clause-adds : goal.returns-in_err-rows-clause-adds
returns-in_err-rows-clause-adds g c = λ told. adds_none g.D.Disk.state c.args.self.now c.args.self.now g.met.D.Disk.lawful refl

pub returns-then-not-are_spelled-clause-adds : goal.returns-then-not-are_spelled-clause-adds
returns-then-not-are_spelled-clause-adds g c = λ told. adds_none g.D.Disk.state c.args.self.now c.args.self.now g.met.D.Disk.lawful refl

pub returns-clause-adds : goal.returns-clause-adds
returns-clause-adds g c =
    let seen : Engine (OnDisk g.row.D.Denot) = record { reader = c.self.inside.reader; joined = c.self.inside.joined; part = c.self.inside.part } in
    let new : Engine (OnDisk g.row.D.Denot) = record { reader = c.self.inside.reader; joined = c.save.new.self; part = c.self.inside.part } in
    subst (λ (old : Engine (OnDisk g.row.D.Denot)). (g.D.Disk.state old.joined.keep.disk).told → AddsOne g.D.Disk.state old new) c.self.view_is
    (λ told payloads each. (payload_between seen.joined.keep g.R.Reducer.mode c.as_slice-entities.result.now c.as_slice-others.result.now, c.save.ensures.commits.any_moment told payloads each))

pub returns-clause-full : goal.returns-clause-full
returns-clause-full g c = λ full is.
    let seen : Engine (OnDisk g.row.D.Denot) = record { reader = c.self.inside.reader; joined = c.self.inside.joined; part = c.self.inside.part } in
    let new : Engine (OnDisk g.row.D.Denot) = record { reader = c.self.inside.reader; joined = c.save.new.self; part = c.self.inside.part } in
    let parts : HasParts g.R.Reducer.mode seen c.as_slice-entities.result.now c.as_slice-others.result.now =
    has_parts g.R.Reducer.mode seen c.in_ok-state.state c.in_ok-rows.rows.entities c.in_ok-rows.rows.others _ _ c.in_ok-state.ensures.state c.in_ok-rows.ensures.put c.as_slice-entities.ensures c.as_slice-others.ensures c.in_ok-rows.ensures.mode in
    subst (λ (old : Engine (OnDisk g.row.D.Denot)). PassesFull g.D.Disk.state g.R.Reducer.mode old full) c.self.view_is
    (passes_now g.D.Disk.state g.D.Disk.faults g.D.Disk.spent g.R.Reducer.mode seen new _ _ c.save.result full c.histories_may_be_committed.ensures.since c.acts_of_events_are_admitted.ensures
    c.a_commit_by_rows_is_that_of_its_moments.ensures parts (record { disks = g.met.D.Disk.lawful; own = c.save.ensures.own; leads = c.save.ensures.commits.leads }) c.save.ensures.commits is)

pub returns-clause-stands : goal.returns-clause-stands
returns-clause-stands g c =
    let seen : Engine (OnDisk g.row.D.Denot) = record { reader = c.self.inside.reader; joined = c.self.inside.joined; part = c.self.inside.part } in
    let new : Engine (OnDisk g.row.D.Denot) = record { reader = c.self.inside.reader; joined = c.save.new.self; part = c.self.inside.part } in
    subst (λ (old : Engine (OnDisk g.row.D.Denot)). StandsStill old new) c.self.view_is
    (still_stands seen new refl (ap (λ (j : Joined (OnDisk g.row.D.Denot)). j.join) c.save.ensures.same) c.save.ensures.stands)
