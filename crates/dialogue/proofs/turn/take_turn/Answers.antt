use Rattle.std.proofs.Common.{[], arith, take, ◌∙◌, ◌+◌, ◌*◌}
use Rattle.std.proofs.lemmas.Result.{err_from_is_err_and}
use Rattle.report_json.specs.Replies.{text_of}
use Rattle.dialogue.specs.Dialogue.{after, nothing_beyond}
use Rattle.dialogue.proofs.SaveLemmas.{after_mode, cut_short, names_none}
use Rattle.dialogue.proofs.TalkLemmas.{appends_none, no_reply, other_halt, half_said, one_turn}
use Rattle.dialogue.specs.Settles.{settles_in_one}
use Rattle.dialogue.proofs.AddLemmas.{pace_on}
use Rattle.dialogue.proofs.LackLemmas.{lacks_halted}
use Rattle.dialogue.proofs.turn.take_turn.Goals as goal

pub returns-in_err-reply-clause-talk : goal.returns-in_err-reply-clause-talk
returns-in_err-reply-clause-talk g c = λ start limits m h.
    let p = err_from_is_err_and c.from_residual.result c.from_residual.ensures.1 in
    rw (p.1, p.2) (record {
      to = m;
      bytes = [];
      wrote = appends_none _;
      course = no_reply limits m c.args.question.now _ h.stands_at.stands.fits (c.in_err-reply.ensures.due start limits m h);
      at = tt;
    })

pub returns-in_err-say-clause-talk : goal.returns-in_err-say-clause-talk
returns-in_err-say-clause-talk g c = λ start limits m h.
    let p = err_from_is_err_and c.from_residual-in_err-say.result c.from_residual-in_err-say.ensures.1 in
    let cut = c.in_err-say.ensures.cut in
    rw (p.1, p.2) (record {
      to = m;
      bytes = take cut.0 (text_of c.in_ok-reply.reply);
      wrote = cut.1;
      course = other_halt limits nothing_beyond m _ _ _ c.in_err-say.ensures.due (half_said limits m c.args.question.now _ cut.0 (c.in_ok-reply.ensures.answers start limits m h));
      at = tt;
    })

pub returns-clause-talk : goal.returns-clause-talk
returns-clause-talk g c = λ start limits m h.
    rw c.turn_after.ensures (record {
      to = after c.args.question.now m;
      bytes = text_of c.in_ok-reply.reply;
      wrote = c.in_ok-say.ensures.said;
      course = one_turn limits nothing_beyond c.args.question.now m _ (c.in_ok-reply.ensures.answers start limits m h);
      at = c.in_ok-reply.ensures.moves start limits m h;
    })

pub returns-in_err-reply-clause-ends : goal.returns-in_err-reply-clause-ends
returns-in_err-reply-clause-ends g c = λ start limits m h.
    let p = err_from_is_err_and c.from_residual.result c.from_residual.ensures.1 in
    rw (p.1, p.2) (record { to = after c.args.question.now m; in_mode = after_mode c.args.question.now m ∙ h.in_mode; ends = c.in_err-reply.ensures.ends start limits m h })

pub returns-in_err-say-clause-ends : goal.returns-in_err-say-clause-ends
returns-in_err-say-clause-ends g c = λ start limits m h.
    let p = err_from_is_err_and c.from_residual-in_err-say.result c.from_residual-in_err-say.ensures.1 in
    let here = c.in_ok-reply.ensures.moves start limits m h in
    rw (p.1, p.2) (cut_short g.K.Rows.alike g.K.Saves.can g.K.Saves.holds g.K.Saves.ends g.K.Saves.uses g.K.Saves.rose c.saves_lawfully.ensures start limits g.R.Reducer.mode c.args.takes c.answer.new.session.engine _
    c.answer.new.session.engine.joined.keep (after c.args.question.now m) c.in_err-say.field-0.0 (names_none _ _ _ _ _ c.in_err-say.ensures.causes) (g.met.K.Rows.goes_along.same c.answer.new.session.engine.joined.keep) here)

pub returns-in_err-reply-clause-lacks : goal.returns-in_err-reply-clause-lacks
returns-in_err-reply-clause-lacks g c = λ start limits m h was.
    let p = err_from_is_err_and c.from_residual.result c.from_residual.ensures.1 in
    rw p.1 (c.in_err-reply.ensures.lacks start limits m h was)

pub returns-in_err-say-clause-lacks : goal.returns-in_err-say-clause-lacks
returns-in_err-say-clause-lacks g c = λ start limits m h was.
    let p = err_from_is_err_and c.from_residual-in_err-say.result c.from_residual-in_err-say.ensures.1 in
    let session = c.answer.new.session in
    let few = session.few in
    let batch = c.answer.ensures.batch in
    rw p.1 (lacks_halted g.K.Rows.alike g.K.Saves.lacks c.lacks_lawfully.ensures start limits g.R.Reducer.mode session.engine.joined.keep _ session.unsaved c.args.session.now.batch (omega (arith, few, batch))
    (c.in_ok-reply.ensures.lacks start limits m h was))

pub returns-clause-lacks : goal.returns-clause-lacks
returns-clause-lacks g c = λ start limits m h was. c.in_ok-reply.ensures.lacks start limits m h was

pub returns-in_err-reply-clause-adds : goal.returns-in_err-reply-clause-adds
returns-in_err-reply-clause-adds g c = λ start limits m most h pace.
    let p = err_from_is_err_and c.from_residual.result c.from_residual.ensures.1 in
    rw p.1 (c.in_err-reply.ensures.adds start limits m most h pace)

pub returns-in_err-say-clause-adds : goal.returns-in_err-say-clause-adds
returns-in_err-say-clause-adds g c = λ start limits m most h pace.
    let p = err_from_is_err_and c.from_residual-in_err-say.result c.from_residual-in_err-say.ensures.1 in
    let session = c.answer.new.session in
    let keep = session.engine.joined.keep in
    let more = most + settles_in_one c.args.question.now * c.args.session.now.batch in
    rw p.1 (pace_on (g.K.Saves.adds start limits) c.args.session.now.batch keep keep session.unsaved 0 (g.L.Source.left c.answer.new.log) more more (λ n so. so) (omega arith) (omega arith) (c.in_ok-reply.ensures.adds start limits m most h pace))

pub returns-clause-adds : goal.returns-clause-adds
returns-clause-adds g c = λ start limits m most h pace. c.in_ok-reply.ensures.adds start limits m most h pace
