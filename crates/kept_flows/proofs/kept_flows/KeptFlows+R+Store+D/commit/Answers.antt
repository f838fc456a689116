use Rattle.std.proofs.Common.{◌∙◌, ap, subst}
use Rattle.outside.proofs.Moments.{same_tells}
use Rattle.reach_model.specs.declared.modes.Mode.{Mode}
use Rattle.reduced_store.specs.OnDisk.{OnDisk}
use Rattle.kept_flows.specs.Committing.{CommitsRows}
use Rattle.kept_flows.specs.KeptFlows.{OverRows}
use Rattle.kept_flows.proofs.Saved.{kept_still}
use Rattle.kept_flows.proofs.kept_flows.KeptFlows+R+Store+D.commit.Goals as goal

pub returns-clause-kept : goal.returns-clause-kept
returns-clause-kept g c =
    let old : OnDisk g.row.D.Denot = c.self.inside.rows in
    let new : OnDisk g.row.D.Denot = c.commit_rows.new.self in
    kept_still g.D.Disk.state g.R.Reducer.mode old new
    (same_tells old.disk new.disk (g.met.D.Disk.lawful old.disk) (g.met.D.Disk.lawful new.disk) c.commit_rows.ensures.uses) c.commit_rows.ensures.rows
    ∙ ap (λ (k : OverRows (OnDisk g.row.D.Denot)). k.kept) c.self.view_is

pub returns-clause-commits : goal.returns-clause-commits
returns-clause-commits g c =
    subst (λ (old : OnDisk g.row.D.Denot). CommitsRows g.D.Disk.state g.D.Disk.faults g.D.Disk.spent g.R.Reducer.mode c.args.front.now c.args.back.now old c.commit_rows.new.self c.commit_rows.result)
    (ap (λ (k : OverRows (OnDisk g.row.D.Denot)). k.keep) c.self.view_is)
    (subst (λ (m : Mode). CommitsRows g.D.Disk.state g.D.Disk.faults g.D.Disk.spent m c.args.front.now c.args.back.now c.self.inside.rows c.commit_rows.new.self c.commit_rows.result) c.mode-mode.ensures
    (record {
      payload = c.commit_rows.ensures.payload;
      adds = c.commit_rows.ensures.adds;
      durable = c.commit_rows.ensures.durable;
      any_moment = c.commit_rows.ensures.any_moment;
      log = c.commit_rows.ensures.log;
      full = c.commit_rows.ensures.full;
      refused = c.commit_rows.ensures.refused;
      uses = c.commit_rows.ensures.uses;
      leads = c.commit_rows.ensures.leads;
      rows = c.commit_rows.ensures.rows;
      lawful = c.commit_rows.ensures.lawful;
      saved = c.commit_rows.ensures.saved;
      unsaved = c.commit_rows.ensures.unsaved;
    }))
