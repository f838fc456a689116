use Rattle.std.proofs.lemmas.Result.{err_from_is_err_and}
use Rattle.dialogue.proofs.SaveLemmas.{asked_why, causes_on}
use Rattle.dialogue.proofs.StoreLemmas.{front_cut}
use Rattle.store_runs.proofs.extending.write_stat.Goals as goal

pub returns-in_err-reply-clause-causes : goal.returns-in_err-reply-clause-causes
returns-in_err-reply-clause-causes g c =
    let p = err_from_is_err_and c.from_residual.result c.from_residual.ensures.1 in
    let old = c.args.engine.now.joined.keep in
    let laws = c.reads_lawfully.ensures in
    rw (p.1, p.2) (asked_why _ _ _ _ _ _ _ c.in_err-reply.field-0.0 (laws.unseen old) (laws.failed old c.reply_of.new.engine.joined.keep) c.in_err-reply.ensures.causes)

pub returns-clause-causes : goal.returns-clause-causes
returns-clause-causes g c = causes_on _ _ _ _ _ _ _ _ _ c.say.result (λ none. none) (λ write. write) (λ none. absurd none) (λ none. absurd none) c.say.ensures.causes

pub returns-clause-front : goal.returns-clause-front
returns-clause-front g c = λ limits h stands. front_cut limits g.R.Reducer.mode h _ _ c.in_ok-reply.reply c.say.result (c.in_ok-reply.ensures.reply limits h stands) c.say.ensures.cut
