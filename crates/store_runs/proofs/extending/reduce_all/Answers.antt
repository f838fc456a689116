use Rattle.std.proofs.Common.{◌≡◌, ◌∙◌, ◌+◌, ℕ, ap, arith, Some, subst, sym}
use Rattle.reduced_store.specs.OnDisk.{SameBut}
use Rattle.std.proofs.lemmas.Result.{err_from_is_err_and}
use Rattle.std.proofs.Math.ListN.{drop_of_length-le}
use Rattle.audit_lex.specs.History.{History}
use Rattle.ingest.specs.StandsFor.{StandsFor}
use Rattle.ingest.specs.Stops.{Stops}
use Rattle.dialogue.specs.Dialogue.{Moment, settled_on, taken_on}
use Rattle.dialogue.specs.Saves.{AddsToStore, IsAllPutAway, IsCutShort, IsPutAway, KeepsPace, LacksInStore}
use Rattle.dialogue.specs.Runs.{settled_all}
use Rattle.dialogue.proofs.AddLemmas.{adds_lawfully, pace_at, pace_on}
use Rattle.dialogue.proofs.HearLemmas.{on_ok}
use Rattle.dialogue.proofs.MomentLemmas.{due_weaker}
use Rattle.dialogue.proofs.SaveLemmas.{all_alike, all_of, away_leaves, cut_leaves, cut_passes, cut_within, log_fits, causes_on, never_named, taken_whole}
use Rattle.dialogue.proofs.StoreLemmas.{front_none, never_due, stops_whole}
use Rattle.dialogue.proofs.LackLemmas.{lacks_if}
use Rattle.store_runs.proofs.EndLemmas.{any_limit}
use Rattle.store_runs.proofs.extending.reduce_all.Goals as goal

pub returns-in_err-_taken-clause-leaves : goal.returns-in_err-_taken-clause-leaves
returns-in_err-_taken-clause-leaves g c = λ start limits m at.
    cut_leaves g.D.Disk.state start limits g.R.Reducer.mode c.take.new.session.engine.joined.keep (settled_all m) c.in_err-_taken.field-0.0 at.in_mode
    (cut_within g.D.Disk.state start limits c.take.new.session.engine.joined.keep m c.in_err-_taken.field-0.0 (c.in_err-_taken.ensures.ends _ start limits m at))

pub returns-in_err-_taken-clause-passes : goal.returns-in_err-_taken-clause-passes
returns-in_err-_taken-clause-passes g c = λ start limits m at full is.
    let p = err_from_is_err_and c.from_residual.result c.from_residual.ensures.1 in
    cut_passes g.D.Disk.state start limits g.R.Reducer.mode c.take.new.session.engine.joined.keep (settled_all m) c.in_err-_taken.field-0.0 full at.in_mode
    (cut_within g.D.Disk.state start limits c.take.new.session.engine.joined.keep m c.in_err-_taken.field-0.0 (c.in_err-_taken.ensures.ends _ start limits m at)) (let e = rw (p.1, p.2) at is in cc)

pub returns-in_err-_taken-clause-front : goal.returns-in_err-_taken-clause-front
returns-in_err-_taken-clause-front g c = λ start limits m at.
    let p = err_from_is_err_and c.from_residual.result c.from_residual.ensures.1 in
    rw p.1 (front_none limits g.R.Reducer.mode (settled_all m).history (g.O.Sink.written c.args.out.now))

pub returns-in_err-_taken-clause-due : goal.returns-in_err-_taken-clause-due
returns-in_err-_taken-clause-due g c = λ start limits m at.
    let p = err_from_is_err_and c.from_residual.result c.from_residual.ensures.1 in
    rw (p.1, p.2) (due_weaker c.in_err-_taken.field-0.0 (Stops limits (taken_on all_of m).history) (Stops limits (settled_all m).history)
    (λ full stops. stops_whole c.stops_stay.ensures limits m all_of full stops) (c.in_err-_taken.ensures.due _ start limits m at))

pub returns-in_err-_settled-clause-leaves : goal.returns-in_err-_settled-clause-leaves
returns-in_err-_settled-clause-leaves g c = λ start limits m at.
    let taken = c.in_ok-_taken.ensures.took _ start limits m at in
    let whole = taken_whole m (log_fits limits c.take.new.session.engine m taken.stands_at.stands) in
    let cut = subst (λ (x : Moment). IsCutShort g.D.Disk.state start limits c.settle_all.new.session.engine.joined.keep (settled_on x) c.in_err-_settled.field-0.0) whole (c.in_err-_settled.ensures.ends _ start limits _ (taken_on all_of m) taken) in
    cut_leaves g.D.Disk.state start limits g.R.Reducer.mode c.settle_all.new.session.engine.joined.keep (settled_all m) c.in_err-_settled.field-0.0 at.in_mode cut

pub returns-in_err-_settled-clause-passes : goal.returns-in_err-_settled-clause-passes
returns-in_err-_settled-clause-passes g c = λ start limits m at full is.
    let p = err_from_is_err_and c.from_residual-in_err-_settled.result c.from_residual-in_err-_settled.ensures.1 in
    let taken = c.in_ok-_taken.ensures.took _ start limits m at in
    let whole = taken_whole m (log_fits limits c.take.new.session.engine m taken.stands_at.stands) in
    let cut = subst (λ (x : Moment). IsCutShort g.D.Disk.state start limits c.settle_all.new.session.engine.joined.keep (settled_on x) c.in_err-_settled.field-0.0) whole (c.in_err-_settled.ensures.ends _ start limits _ (taken_on all_of m) taken) in
    cut_passes g.D.Disk.state start limits g.R.Reducer.mode c.settle_all.new.session.engine.joined.keep (settled_all m) c.in_err-_settled.field-0.0 full at.in_mode cut (let e = rw (p.1, p.2) at is in cc)

pub returns-in_err-_settled-clause-front : goal.returns-in_err-_settled-clause-front
returns-in_err-_settled-clause-front g c = λ start limits m at.
    let p = err_from_is_err_and c.from_residual-in_err-_settled.result c.from_residual-in_err-_settled.ensures.1 in
    rw p.1 (front_none limits g.R.Reducer.mode (settled_all m).history (g.O.Sink.written c.args.out.now))

pub returns-in_err-_settled-clause-due : goal.returns-in_err-_settled-clause-due
returns-in_err-_settled-clause-due g c = λ start limits m at.
    let p = err_from_is_err_and c.from_residual-in_err-_settled.result c.from_residual-in_err-_settled.ensures.1 in
    let taken = c.in_ok-_taken.ensures.took _ start limits m at in
    let whole = taken_whole m (log_fits limits c.take.new.session.engine m taken.stands_at.stands) in
    rw (p.1, p.2) (due_weaker c.in_err-_settled.field-0.0 (Stops limits (settled_on (taken_on all_of m)).history) (Stops limits (settled_all m).history)
    (λ full stops. subst (λ (x : Moment). Stops limits (settled_on x).history full) whole stops) (c.in_err-_settled.ensures.due _ start limits _ (taken_on all_of m) taken))

pub returns-clause-stored : goal.returns-clause-stored
returns-clause-stored g c = λ start limits m at.
    let taken = c.in_ok-_taken.ensures.took _ start limits m at in
    let whole = taken_whole m (log_fits limits c.take.new.session.engine m taken.stands_at.stands) in
    let all = subst (λ (x : Moment). IsAllPutAway g.D.Disk.state start limits c.settle_all.new.session.engine.joined.keep (settled_on x)) whole (c.in_ok-_settled.ensures.all _ start limits _ (taken_on all_of m) taken) in
    let away = (c.in_ok-_settled.ensures.settled _ start limits _ (taken_on all_of m) taken).holds in
    on_ok c.write_stat.result _ (all_alike g.D.Disk.state start limits c.settle_all.new.session.engine.joined.keep c.write_stat.new.engine.joined.keep (settled_all m) away.told c.write_stat.ensures.alike all)

pub returns-clause-leaves : goal.returns-clause-leaves
returns-clause-leaves g c = λ start limits m at.
    let taken = c.in_ok-_taken.ensures.took _ start limits m at in
    let whole = taken_whole m (log_fits limits c.take.new.session.engine m taken.stands_at.stands) in
    let settled = c.in_ok-_settled.ensures.settled _ start limits _ (taken_on all_of m) taken in
    let away = subst (λ (x : Moment). IsPutAway g.D.Disk.state start limits c.settle_all.new.session.engine (settled_on x)) whole settled.holds in
    away_leaves g.D.Disk.state start limits g.R.Reducer.mode c.settle_all.new.session.engine c.write_stat.new.engine.joined.keep (settled_all m) at.in_mode c.write_stat.ensures.alike away

pub returns-clause-passes : goal.returns-clause-passes
returns-clause-passes g c = λ start limits m at full is. absurd (never_named c.write_stat.result _ _ _ _ full c.write_stat.ensures.causes is)

pub returns-clause-causes : goal.returns-clause-causes
returns-clause-causes g c =
    let laws = c.saves_lawfully.ensures in
    let old = c.args.session.now.engine.joined.keep in
    let settled = c.settle_all.new.session.engine.joined.keep in
    let uses = laws.uses_both old c.take.new.session.engine.joined.keep settled c.take.ensures.uses c.settle_all.ensures.uses in
    any_limit _ _ _ _ c.write_stat.result (causes_on _ _ _ _ _ _ _ _ _ c.write_stat.result (λ none. absurd none) (λ write. write)
    (laws.rose_after old settled c.write_stat.new.engine.joined.keep uses) (c.reads_lawfully.ensures.before old settled uses) c.write_stat.ensures.causes)

pub returns-clause-whole : goal.returns-clause-whole
returns-clause-whole g c = λ start limits m at.
    let taken = c.in_ok-_taken.ensures.took _ start limits m at in
    let within = log_fits limits c.take.new.session.engine m taken.stands_at.stands in
    on_ok c.write_stat.result _ (taken.stands_at.told ∙ ap Some (drop_of_length-le m.log within))

pub returns-clause-wrote : goal.returns-clause-wrote
returns-clause-wrote g c = λ start limits m at.
    let taken = c.in_ok-_taken.ensures.took _ start limits m at in
    let whole = taken_whole m (log_fits limits c.take.new.session.engine m taken.stands_at.stands) in
    let settled = c.in_ok-_settled.ensures.settled _ start limits _ (taken_on all_of m) taken in
    let history : (settled_on (taken_on all_of m)).history ≡ (settled_all m).history = ap (λ (x : Moment). (settled_on x).history) whole in
    c.write_stat.ensures.wrote limits (settled_all m).history (subst (λ (h : History). StandsFor limits c.settle_all.new.session.engine h) history settled.stands_at.stands)

pub returns-clause-front : goal.returns-clause-front
returns-clause-front g c = λ start limits m at.
    let taken = c.in_ok-_taken.ensures.took _ start limits m at in
    let whole = taken_whole m (log_fits limits c.take.new.session.engine m taken.stands_at.stands) in
    let settled = c.in_ok-_settled.ensures.settled _ start limits _ (taken_on all_of m) taken in
    let history : (settled_on (taken_on all_of m)).history ≡ (settled_all m).history = ap (λ (x : Moment). (settled_on x).history) whole in
    c.write_stat.ensures.front limits (settled_all m).history (subst (λ (h : History). StandsFor limits c.settle_all.new.session.engine h) history settled.stands_at.stands)

pub returns-clause-due : goal.returns-clause-due
returns-clause-due g c = λ start limits m at.
    let taken = c.in_ok-_taken.ensures.took _ start limits m at in
    let whole = taken_whole m (log_fits limits c.take.new.session.engine m taken.stands_at.stands) in
    let settled = c.in_ok-_settled.ensures.settled _ start limits _ (taken_on all_of m) taken in
    let history : (settled_on (taken_on all_of m)).history ≡ (settled_all m).history = ap (λ (x : Moment). (settled_on x).history) whole in
    never_due c.write_stat.result (Stops limits (settled_all m).history)
    (c.write_stat.ensures.due limits (settled_all m).history (subst (λ (h : History). StandsFor limits c.settle_all.new.session.engine h) history settled.stands_at.stands))

pub returns-in_err-_taken-clause-lacks : goal.returns-in_err-_taken-clause-lacks
returns-in_err-_taken-clause-lacks g c = λ start limits m at was.
    let p = err_from_is_err_and c.from_residual.result c.from_residual.ensures.1 in
    rw p.1 (c.in_err-_taken.ensures.lacks _ start limits m at was)

pub returns-in_err-_settled-clause-lacks : goal.returns-in_err-_settled-clause-lacks
returns-in_err-_settled-clause-lacks g c = λ start limits m at was.
    let p = err_from_is_err_and c.from_residual-in_err-_settled.result c.from_residual-in_err-_settled.ensures.1 in
    let taken = c.in_ok-_taken.ensures.took _ start limits m at in
    let lacks = c.in_err-_settled.ensures.lacks _ start limits _ (taken_on all_of m) taken (c.in_ok-_taken.ensures.lacks _ start limits m at was) in
    rw (p.1, ← c.take.ensures.batch) lacks

pub returns-clause-lacks : goal.returns-clause-lacks
returns-clause-lacks g c = λ start limits m at was.
    let taken = c.in_ok-_taken.ensures.took _ start limits m at in
    let session = c.settle_all.new.session in
    let few = session.few in
    let batch = c.settle_all.ensures.batch in
    let batch2 = c.take.ensures.batch in
    lacks_if (SameBut g.D.Disk.state g.D.Disk.faults g.D.Disk.spent) (LacksInStore g.D.Disk.state) c.lacks_lawfully.ensures start limits g.R.Reducer.mode session.engine.joined.keep c.write_stat.new.engine.joined.keep _ c.write_stat.result session.unsaved c.args.session.now.batch
    c.write_stat.ensures.alike (omega (arith, few, batch, batch2)) (c.in_ok-_settled.ensures.lacks _ start limits _ (taken_on all_of m) taken (c.in_ok-_taken.ensures.lacks _ start limits m at was))

pub returns-in_err-_taken-clause-adds : goal.returns-in_err-_taken-clause-adds
returns-in_err-_taken-clause-adds g c = λ start limits m most at pace.
    let keep = c.take.new.session.engine.joined.keep in
    pace_on (AddsToStore g.D.Disk.state start limits) c.args.session.now.batch keep keep 0 0 (g.L.Source.left c.take.new.log) most (most + c.args.session.now.batch) (λ n so. so) (omega arith) (omega arith)
    (c.in_err-_taken.ensures.adds _ start limits m most at pace)

pub returns-in_err-_settled-clause-adds : goal.returns-in_err-_settled-clause-adds
returns-in_err-_settled-clause-adds g c = λ start limits m most at pace.
    let adds = AddsToStore g.D.Disk.state start limits in
    let batch = c.args.session.now.batch in
    let taken = c.in_ok-_taken.ensures.took _ start limits m at in
    let before = pace_at adds batch c.take.new.session.batch c.take.new.session.engine.joined.keep c.take.new.session.unsaved (g.L.Source.left c.take.new.log) most (sym c.take.ensures.batch) (c.in_ok-_taken.ensures.adds _ start limits m most at pace) in
    subst (λ (b : ℕ). KeepsPace adds b c.settle_all.new.session.engine.joined.keep 0 (g.L.Source.left c.take.new.log) (most + b)) c.take.ensures.batch (c.in_err-_settled.ensures.adds _ start limits _ (taken_on all_of m) most taken before)

pub returns-clause-adds : goal.returns-clause-adds
returns-clause-adds g c = λ start limits m most at pace.
    let adds = AddsToStore g.D.Disk.state start limits in
    let batch = c.args.session.now.batch in
    let taken = c.in_ok-_taken.ensures.took _ start limits m at in
    let before = pace_at adds batch c.take.new.session.batch c.take.new.session.engine.joined.keep c.take.new.session.unsaved (g.L.Source.left c.take.new.log) most (sym c.take.ensures.batch) (c.in_ok-_taken.ensures.adds _ start limits m most at pace) in
    let rows = c.settle_all.new.session.engine.joined.keep in
    let unsaved = c.settle_all.new.session.unsaved in
    let settled = subst (λ (b : ℕ). KeepsPace adds b rows unsaved (g.L.Source.left c.take.new.log) (most + b)) c.take.ensures.batch (c.in_ok-_settled.ensures.adds _ start limits _ (taken_on all_of m) most taken before) in
    pace_on adds batch rows c.write_stat.new.engine.joined.keep unsaved 0 (g.L.Source.left c.take.new.log) (most + batch) (most + batch) (λ n so. adds_lawfully g.D.Disk.state start limits rows c.write_stat.new.engine.joined.keep n c.write_stat.ensures.alike so)
    (omega arith) (omega arith) settled
