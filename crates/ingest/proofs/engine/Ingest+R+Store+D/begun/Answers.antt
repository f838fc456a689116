use Rattle.std.proofs.Common.{◌∙◌, ap, sym, subst, [], ℕ, List, Some}
use Rattle.reach_model.specs.Rows.{Row}
use Rattle.reduced_store.specs.OnDisk.{OnDisk}
use Rattle.ingest.specs.Parts.{Engine, Joined}
use Rattle.ingest.specs.StandsFor.{StandsFor}
use Rattle.ingest.proofs.Told.{none_if_told, rows_told}
use Rattle.ingest.proofs.engine.Ingest+R+Store+D.begun.Goals as goal

pub new-engine-requires-clause-none : goal.new-engine-requires-clause-none
new-engine-requires-clause-none g c = none_if_told (g.D.Disk.state c.args.store.disk).tells c.args.store.rows.rows c.requires.none

pub invariant_of-engine : goal.invariant_of-engine
invariant_of-engine g c =
    let w = c.engine.invariant in
    record { records = w.records; few = c.remember.ensures.few w.records w.few; paid = w.paid; within = w.within }

pub returns-clause-stands : goal.returns-clause-stands
returns-clause-stands g c = λ told.
    let none = rows_told g.D.Disk.state c.args.store (g.met.D.Disk.lawful c.args.store.disk) told ∙ ap (λ (R : List Row). Some R) c.requires.none in
    let st = subst (λ (e : Engine (OnDisk g.row.D.Denot)). StandsFor c.args.limits.now e []) (sym c.engine.view_is) (c.new-engine.ensures.stands none) in
    record { reader = st.reader; joined = c.remember.ensures.stands c.args.limits.now _ _ st.joined; fits = st.fits }

pub returns-clause-keep : goal.returns-clause-keep
returns-clause-keep g c =
    ap (λ (j : Joined (OnDisk g.row.D.Denot)). j.keep) c.remember.ensures.same ∙ ap (λ (e : Engine (OnDisk g.row.D.Denot)). e.joined.keep) c.engine.view_is ∙ c.new-engine.ensures.keep

pub returns-clause-marked : goal.returns-clause-marked
returns-clause-marked g c =
    c.remember.ensures.marked ∙ ap (λ (e : Engine (OnDisk g.row.D.Denot)). Some e.joined.tables.acts) c.engine.view_is ∙ ap (λ (n : ℕ). Some n) c.new-engine.ensures.acts
