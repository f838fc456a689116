use Rattle.std.proofs.lemmas.Result.{err_from_is_err_and}
use Rattle.dialogue.specs.Dialogue.{settled_on}
use Rattle.std.proofs.Common.{◌+◌, arith}
use Rattle.dialogue.proofs.AddLemmas.{pace_on, pace_settled}
use Rattle.dialogue.proofs.LackLemmas.{lacks_halted}
use Rattle.dialogue.proofs.saving.settle_all.Goals as goal

pub returns-in_err-save-clause-ends : goal.returns-in_err-save-clause-ends
returns-in_err-save-clause-ends g c = λ takes start limits left m at.
    let p = err_from_is_err_and c.from_residual-in_err-save.result c.from_residual-in_err-save.ensures.1 in
    let stands = c.in_ok-reply.ensures.stands limits m.history at.stands_at.stands in
    let held = c.saves_lawfully.ensures.settles_on start limits c.args.session.now.engine c.settle.new.engine m c.settle.ensures.alike c.settle.ensures.marked c.settle.ensures.part at.holds in
    rw (p.1, p.2) (c.in_err-save.ensures.ends start limits (settled_on m) at.in_mode stands held)

pub returns-clause-settled : goal.returns-clause-settled
returns-clause-settled g c = λ takes start limits left m at.
    let stands = c.in_ok-reply.ensures.stands limits m.history at.stands_at.stands in
    let held = c.saves_lawfully.ensures.settles_on start limits c.args.session.now.engine c.settle.new.engine m c.settle.ensures.alike c.settle.ensures.marked c.settle.ensures.part at.holds in
    record {
      in_mode = at.in_mode;
      may_take = at.may_take;
      stands_at = record { stands = c.save.ensures.stands.stands limits (settled_on m).history stands; told = at.stands_at.told };
      holds = c.in_ok-save.ensures.holds start limits (settled_on m) at.in_mode stands held;
    }

pub returns-clause-all : goal.returns-clause-all
returns-clause-all g c = λ takes start limits left m at.
    let stands = c.in_ok-reply.ensures.stands limits m.history at.stands_at.stands in
    let held = c.saves_lawfully.ensures.settles_on start limits c.args.session.now.engine c.settle.new.engine m c.settle.ensures.alike c.settle.ensures.marked c.settle.ensures.part at.holds in
    c.in_ok-save.ensures.all start limits (settled_on m) at.in_mode stands held

pub returns-in_err-reply-clause-lacks : goal.returns-in_err-reply-clause-lacks
returns-in_err-reply-clause-lacks g c = λ takes start limits left m at was.
    let p = err_from_is_err_and c.from_residual.result c.from_residual.ensures.1 in
    let laws = c.lacks_lawfully.ensures in
    rw p.1 (laws.same start limits g.R.Reducer.mode _ _ left c.args.session.now.batch c.settle.ensures.alike
    (lacks_halted g.K.Rows.alike g.K.Saves.lacks laws start limits g.R.Reducer.mode c.args.session.now.engine.joined.keep left c.args.session.now.unsaved c.args.session.now.batch c.args.session.now.few was))

pub returns-in_err-save-clause-lacks : goal.returns-in_err-save-clause-lacks
returns-in_err-save-clause-lacks g c = λ takes start limits left m at was.
    let p = err_from_is_err_and c.from_residual-in_err-save.result c.from_residual-in_err-save.ensures.1 in
    let laws = c.lacks_lawfully.ensures in
    let stands = c.in_ok-reply.ensures.stands limits m.history at.stands_at.stands in
    let held = c.saves_lawfully.ensures.settles_on start limits c.args.session.now.engine c.settle.new.engine m c.settle.ensures.alike c.settle.ensures.marked c.settle.ensures.part at.holds in
    let here = laws.same start limits g.R.Reducer.mode _ _ left c.args.session.now.unsaved c.settle.ensures.alike was in
    rw p.1 (lacks_halted g.K.Rows.alike g.K.Saves.lacks laws start limits g.R.Reducer.mode c.save.new.engine.joined.keep left c.args.session.now.unsaved c.args.session.now.batch c.args.session.now.few
    (c.in_err-save.ensures.lacks start limits left (settled_on m) c.args.session.now.unsaved at.in_mode stands held at.stands_at.told here))

pub returns-clause-lacks : goal.returns-clause-lacks
returns-clause-lacks g c = λ takes start limits left m at was.
    let laws = c.lacks_lawfully.ensures in
    let stands = c.in_ok-reply.ensures.stands limits m.history at.stands_at.stands in
    let held = c.saves_lawfully.ensures.settles_on start limits c.args.session.now.engine c.settle.new.engine m c.settle.ensures.alike c.settle.ensures.marked c.settle.ensures.part at.holds in
    let here = laws.same start limits g.R.Reducer.mode _ _ left c.args.session.now.unsaved c.settle.ensures.alike was in
    c.in_ok-save.ensures.lacks start limits left (settled_on m) c.args.session.now.unsaved at.in_mode stands held at.stands_at.told here

pub returns-in_err-reply-clause-adds : goal.returns-in_err-reply-clause-adds
returns-in_err-reply-clause-adds g c = λ takes start limits left m most at pace.
    let p = err_from_is_err_and c.from_residual.result c.from_residual.ensures.1 in
    rw p.1 (pace_on (g.K.Saves.adds start limits) c.args.session.now.batch c.args.session.now.engine.joined.keep c.settle.new.engine.joined.keep c.args.session.now.unsaved 0 left most (most + c.args.session.now.batch)
    (λ n so. c.adds_lawfully.ensures start limits _ _ n c.settle.ensures.alike so) (omega arith) (omega arith) pace)

pub returns-in_err-save-clause-adds : goal.returns-in_err-save-clause-adds
returns-in_err-save-clause-adds g c = λ takes start limits left m most at pace.
    let p = err_from_is_err_and c.from_residual-in_err-save.result c.from_residual-in_err-save.ensures.1 in
    let held = c.saves_lawfully.ensures.settles_on start limits c.args.session.now.engine c.settle.new.engine m c.settle.ensures.alike c.settle.ensures.marked c.settle.ensures.part at.holds in
    rw p.1 (pace_settled (g.K.Saves.adds start limits) c.args.session.now.batch c.args.session.now.engine.joined.keep c.save.new.engine.joined.keep c.args.session.now.unsaved left most
    (λ n so. c.save.ensures.adds start limits (settled_on m) n held (c.adds_lawfully.ensures start limits _ _ n c.settle.ensures.alike so)) pace)

pub returns-clause-adds : goal.returns-clause-adds
returns-clause-adds g c = λ takes start limits left m most at pace.
    let held = c.saves_lawfully.ensures.settles_on start limits c.args.session.now.engine c.settle.new.engine m c.settle.ensures.alike c.settle.ensures.marked c.settle.ensures.part at.holds in
    pace_settled (g.K.Saves.adds start limits) c.args.session.now.batch c.args.session.now.engine.joined.keep c.save.new.engine.joined.keep c.args.session.now.unsaved left most
    (λ n so. c.save.ensures.adds start limits (settled_on m) n held (c.adds_lawfully.ensures start limits _ _ n c.settle.ensures.alike so)) pace
