use Rattle.std.proofs.Common.{◌+◌, arith}
use Rattle.std.proofs.lemmas.Result.{err_from_is_err_and}
use Rattle.dialogue.proofs.AddLemmas.{pace_saved}
use Rattle.dialogue.proofs.saving.fill.Goals as goal

pub returns-in_err-save-clause-lacks : goal.returns-in_err-save-clause-lacks
returns-in_err-save-clause-lacks g c = λ takes start limits left m at lacks.
    let p = err_from_is_err_and c.from_residual.result c.from_residual.ensures.1 in
    let most = c.args.session.now.unsaved + c.args.taken in
    rw p.1 (c.lacks_lawfully.ensures.more start limits g.R.Reducer.mode c.save.new.engine.joined.keep left most c.args.session.now.batch c.requires.within
    (c.in_err-save.ensures.lacks start limits left m most at.in_mode at.stands_at.stands at.holds at.stands_at.told lacks))

pub returns-clause-lacks : goal.returns-clause-lacks
returns-clause-lacks g c = λ takes start limits left m at lacks.
    c.in_ok-save.ensures.lacks start limits left m (c.args.session.now.unsaved + c.args.taken) at.in_mode at.stands_at.stands at.holds at.stands_at.told lacks

pub returns-in_err-save-clause-adds : goal.returns-in_err-save-clause-adds
returns-in_err-save-clause-adds g c = λ takes start limits left m most at pace.
    let p = err_from_is_err_and c.from_residual.result c.from_residual.ensures.1 in
    rw p.1 (pace_saved (g.K.Saves.adds start limits) c.args.session.now.batch c.args.session.now.engine.joined.keep c.save.new.engine.joined.keep (c.args.session.now.unsaved + c.args.taken) left most (omega arith)
    (λ n so. c.save.ensures.adds start limits m n at.holds so) pace)

pub returns-clause-adds : goal.returns-clause-adds
returns-clause-adds g c = λ takes start limits left m most at pace.
    pace_saved (g.K.Saves.adds start limits) c.args.session.now.batch c.args.session.now.engine.joined.keep c.save.new.engine.joined.keep (c.args.session.now.unsaved + c.args.taken) left most (omega arith)
    (λ n so. c.save.ensures.adds start limits m n at.holds so) pace
