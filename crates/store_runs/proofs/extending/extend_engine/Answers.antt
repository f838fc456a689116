use Rattle.std.proofs.Common.{◌+◌, false, ◌≡◌, ◌∙◌, ◌-◌, length, ap, refl, sym, subst, arith}
use Rattle.std.specs.Prelude.{Err}
use Rattle.reduced_store.specs.OnDisk.{OnDisk}
use Rattle.dialogue.specs.declared.halt.Halt.TheVariants as halt
use Rattle.dialogue.specs.declared.halt.StoreHalt.TheVariants as over
use Rattle.store_runs.specs.Stores.{AsksTold, IsReopened, is_resumed}
use Rattle.dialogue.specs.Runs.{LacksIn, begun_of, steps_of}
use Rattle.store_runs.proofs.StoreRuns.{causes_renamed, looks_same, renamed, renamed_watch, still_reached, unbegun_run, unbegun_watch, uses_renamed, uses_still}
use Rattle.dialogue.specs.Dialogue.{asks, lines_in}
use Rattle.dialogue.specs.Settles.{settles}
use Rattle.dialogue.proofs.AddLemmas.{adds_as, adds_none, unsaved_none}
use Rattle.dialogue.proofs.LackLemmas.{image_of, lacks_images}
use Rattle.store_runs.proofs.extending.extend_engine.Goals as goal

pub invariant_of-session : goal.invariant_of-session
invariant_of-session g c = record { few = omega (arith, c.args.limits.now.batch_some); room = c.in-Ok.ensures }

pub returns-in-Err-clause-reduced : goal.returns-in-Err-clause-reduced
returns-in-Err-clause-reduced g c = λ resume is.
    let last : c.into_disk.result ≡ c.args.engine.joined.keep.disk = c.into_disk.ensures ∙ ap (λ (k : OnDisk g.row.D.Denot). k.disk) c.into_keep.ensures in
    unbegun_run resume (IsReopened g.D.Disk.state g.R.Reducer.mode c.args.limits.now c.args.engine) c.args.limits.now g.R.Reducer.mode (g.D.Disk.state c.args.engine.joined.keep.disk) (g.D.Disk.state c.into_disk.result) _ _
    (λ h before bytes x. still_reached g.D.Disk.state c.args.limits.now g.R.Reducer.mode c.args.engine c.into_disk.result resume (Err (over.Run halt.NoMemory)) h before bytes (steps_of (begun_of resume h before bytes)) g.met.D.Disk.lawful
    (looks_same g.D.Disk.state c.args.engine.joined.keep.disk c.into_disk.result last) x)

pub returns-in-Err-clause-watched : goal.returns-in-Err-clause-watched
returns-in-Err-clause-watched g c = λ is.
    let last : c.into_disk.result ≡ c.args.engine.joined.keep.disk = c.into_disk.ensures ∙ ap (λ (k : OnDisk g.row.D.Denot). k.disk) c.into_keep.ensures in
    unbegun_watch (IsReopened g.D.Disk.state g.R.Reducer.mode c.args.limits.now c.args.engine) c.args.limits.now g.R.Reducer.mode (g.D.Disk.state c.args.engine.joined.keep.disk) (g.D.Disk.state c.into_disk.result) _ _ _
    (λ h before bytes steps x. still_reached g.D.Disk.state c.args.limits.now g.R.Reducer.mode c.args.engine c.into_disk.result false (Err (over.Run halt.NoMemory)) h before bytes steps g.met.D.Disk.lawful
    (looks_same g.D.Disk.state c.args.engine.joined.keep.disk c.into_disk.result last) x)

pub returns-clause-reduced : goal.returns-clause-reduced
returns-clause-reduced g c = λ resume is h before bytes x told.
    let last : c.into_disk-2.result ≡ c.take_in-outcome.new.session.engine.joined.keep.disk = c.into_disk-2.ensures ∙ ap (λ (k : OnDisk g.row.D.Denot). k.disk) c.into_keep-2.ensures in
    renamed resume g.D.Disk.state c.args.limits.now g.R.Reducer.mode c.args.engine.joined.keep.disk c.args.engine.joined.keep.disk c.take_in-outcome.new.session.engine.joined.keep.disk c.into_disk-2.result _ _ _ c.take_in-outcome.result
    h before bytes refl last (c.take_in-outcome.ensures.reduced resume is h before bytes x told)

pub returns-clause-watched : goal.returns-clause-watched
returns-clause-watched g c = λ is h before bytes questions x told tells.
    let last : c.into_disk-2.result ≡ c.take_in-outcome.new.session.engine.joined.keep.disk = c.into_disk-2.ensures ∙ ap (λ (k : OnDisk g.row.D.Denot). k.disk) c.into_keep-2.ensures in
    renamed_watch g.D.Disk.state c.args.limits.now g.R.Reducer.mode c.args.engine.joined.keep.disk c.args.engine.joined.keep.disk c.take_in-outcome.new.session.engine.joined.keep.disk c.into_disk-2.result _ _ _ c.take_in-outcome.result
    (begun_of false h before bytes) questions refl last (c.take_in-outcome.ensures.watched is h before bytes questions x told tells)

pub returns-clause-causes : goal.returns-clause-causes
returns-clause-causes g c =
    let last : c.into_disk-2.result ≡ c.take_in-outcome.new.session.engine.joined.keep.disk = c.into_disk-2.ensures ∙ ap (λ (k : OnDisk g.row.D.Denot). k.disk) c.into_keep-2.ensures in
    causes_renamed g.D.Disk.faults g.D.Disk.spent c.args.engine.joined.keep.disk c.take_in-outcome.new.session.engine.joined.keep.disk c.into_disk-2.result _ _ _ _ _ _ c.take_in-outcome.result last c.take_in-outcome.ensures.causes

pub returns-clause-uses : goal.returns-clause-uses
returns-clause-uses g c =
    let last : c.into_disk-2.result ≡ c.take_in-outcome.new.session.engine.joined.keep.disk = c.into_disk-2.ensures ∙ ap (λ (k : OnDisk g.row.D.Denot). k.disk) c.into_keep-2.ensures in
    uses_renamed g.D.Disk.state g.D.Disk.faults g.D.Disk.spent c.args.engine.joined.keep.disk c.take_in-outcome.new.session.engine.joined.keep.disk c.into_disk-2.result _ _ _ _ _ _ c.take_in-outcome.result last
    c.take_in-outcome.ensures.uses c.take_in-outcome.ensures.causes

pub returns-in-Err-clause-lacks : goal.returns-in-Err-clause-lacks
returns-in-Err-clause-lacks g c =
    let last : c.into_disk.result ≡ c.args.engine.joined.keep.disk = c.into_disk.ensures ∙ ap (λ (k : OnDisk g.row.D.Denot). k.disk) c.into_keep.ensures in
    lacks_images c.payloads_are_apart.ensures c.a_disk_reads_in_one_way.ensures.one_list (is_resumed c.args.taking) (AsksTold c.args.taking (g.Q.Source.left c.args.questions.now)) (IsReopened g.D.Disk.state g.R.Reducer.mode c.args.limits.now c.args.engine)
    c.args.limits.now g.R.Reducer.mode (g.D.Disk.state c.into_disk.result) (g.L.Source.left c.args.log.now) c.args.limits.now.batch (Err (over.Run halt.NoMemory))
    (λ h before x bs image. x.images bs (image_of g.D.Disk.state c.args.engine.joined.keep.disk c.into_disk.result bs last image))

pub returns-clause-lacks : goal.returns-clause-lacks
returns-clause-lacks g c =
    let last : c.into_disk-2.result ≡ c.take_in-outcome.new.session.engine.joined.keep.disk = c.into_disk-2.ensures ∙ ap (λ (k : OnDisk g.row.D.Denot). k.disk) c.into_keep-2.ensures in
    subst (λ (d : g.row.D.Denot). LacksIn (is_resumed c.args.taking) (AsksTold c.args.taking (g.Q.Source.left c.args.questions.now)) (IsReopened g.D.Disk.state g.R.Reducer.mode c.args.limits.now c.args.engine)
    c.args.limits.now g.R.Reducer.mode (g.D.Disk.state d) (g.L.Source.left c.args.log.now) (g.L.Source.left c.take_in-outcome.new.log) c.args.limits.now.batch c.take_in-outcome.result) (sym last) c.take_in-outcome.ensures.lacks

pub returns-in-Err-clause-heard : goal.returns-in-Err-clause-heard
returns-in-Err-clause-heard g c = λ is h before bytes questions x told tells. tt

pub returns-clause-heard : goal.returns-clause-heard
returns-clause-heard g c = c.take_in-outcome.ensures.heard

pub returns-in-Err-clause-adds : goal.returns-in-Err-clause-adds
returns-in-Err-clause-adds g c = λ resume is h before bytes rest x told left.
    let last : c.into_disk.result ≡ c.args.engine.joined.keep.disk = c.into_disk.ensures ∙ ap (λ (k : OnDisk g.row.D.Denot). k.disk) c.into_keep.ensures in
    adds_none c.args.limits.now (g.D.Disk.state c.args.engine.joined.keep.disk) (g.D.Disk.state c.into_disk.result) _ (ap (λ (d : g.row.D.Denot). (g.D.Disk.state d).reads) last)

pub returns-clause-adds : goal.returns-clause-adds
returns-clause-adds g c = λ resume is h before bytes rest x told left.
    let last : c.into_disk-2.result ≡ c.take_in-outcome.new.session.engine.joined.keep.disk = c.into_disk-2.ensures ∙ ap (λ (k : OnDisk g.row.D.Denot). k.disk) c.into_keep-2.ensures in
    let old = g.D.Disk.state c.args.engine.joined.keep.disk in
    let new = g.D.Disk.state c.take_in-outcome.new.session.engine.joined.keep.disk in
    adds_as c.args.limits.now old old new (g.D.Disk.state c.into_disk-2.result) _ refl (sym (ap (λ (d : g.row.D.Denot). (g.D.Disk.state d).reads) last))
    (unsaved_none c.args.limits.now old new (length (begun_of resume h before bytes).log - length rest) c.args.limits.now.batch 1 (c.take_in-outcome.ensures.adds resume is h before bytes rest x told left))

pub returns-in-Err-clause-watch_adds : goal.returns-in-Err-clause-watch_adds
returns-in-Err-clause-watch_adds g c = λ is asked tells h before bytes rest x told left.
    let last : c.into_disk.result ≡ c.args.engine.joined.keep.disk = c.into_disk.ensures ∙ ap (λ (k : OnDisk g.row.D.Denot). k.disk) c.into_keep.ensures in
    adds_none c.args.limits.now (g.D.Disk.state c.args.engine.joined.keep.disk) (g.D.Disk.state c.into_disk.result) _ (ap (λ (d : g.row.D.Denot). (g.D.Disk.state d).reads) last)

pub returns-clause-watch_adds : goal.returns-clause-watch_adds
returns-clause-watch_adds g c = λ is asked tells h before bytes rest x told left.
    let last : c.into_disk-2.result ≡ c.take_in-outcome.new.session.engine.joined.keep.disk = c.into_disk-2.ensures ∙ ap (λ (k : OnDisk g.row.D.Denot). k.disk) c.into_keep-2.ensures in
    let old = g.D.Disk.state c.args.engine.joined.keep.disk in
    let new = g.D.Disk.state c.take_in-outcome.new.session.engine.joined.keep.disk in
    adds_as c.args.limits.now old old new (g.D.Disk.state c.into_disk-2.result) _ refl (sym (ap (λ (d : g.row.D.Denot). (g.D.Disk.state d).reads) last))
    (unsaved_none c.args.limits.now old new (length (begun_of false h before bytes).log - length rest) c.args.limits.now.batch (settles (asks c.args.limits.now (lines_in asked)) + 1)
    (c.take_in-outcome.ensures.watch_adds is asked tells h before bytes rest x told left))

pub returns-in-Err-clause-uses : goal.returns-in-Err-clause-uses
returns-in-Err-clause-uses g c =
    let last : c.into_disk.result ≡ c.args.engine.joined.keep.disk = c.into_disk.ensures ∙ ap (λ (k : OnDisk g.row.D.Denot). k.disk) c.into_keep.ensures in
    uses_still g.D.Disk.state g.D.Disk.faults g.D.Disk.spent c.args.engine.joined.keep.disk c.into_disk.result _ last (λ is. let no = is in cc)
