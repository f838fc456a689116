use Rattle.std.proofs.Common.{◌∙◌, [], take, ap, Some, refl}
use Rattle.std.proofs.lemmas.Result.{err_from_is_err_and}
use Rattle.report_json.specs.declared.ask.Ask.TheVariants as ask
use Rattle.report_json.specs.Replies.{text_of}
use Rattle.dialogue.specs.Dialogue.{after, begin}
use Rattle.dialogue.proofs.TalkLemmas.{appends_none}
use Rattle.dialogue.proofs.SaveLemmas.{causes_later, in_memory}
use Rattle.audit_cli.proofs.BackLemmas.{taken, nothing_left, take_stops, settle_stops, last_said, last_cut, quiet_halt, cut_halt}
use Rattle.audit_cli.proofs.back.back.Goals as goal

pub returns-in_err-_taken-clause-talked : goal.returns-in_err-_taken-clause-talked
returns-in_err-_taken-clause-talked g c = λ limits bytes small h.
    let start = in_memory bytes c.args.session.now.engine.joined.keep in
    let p = err_from_is_err_and c.from_residual.result c.from_residual.ensures.1 in
    rw (p.1, p.2) (record {
      to = begin g.R.Reducer.mode bytes;
      bytes = [];
      wrote = appends_none _;
      course = quiet_halt limits _ _ _ _ _ (c.in_err-_taken.ensures.due start limits _ h) (λ full. take_stops c.stops_stay.ensures _ limits c.args.of.0 bytes full h.stands_at.stands.fits);
      at = tt;
    })

pub returns-in_err-_settled-clause-talked : goal.returns-in_err-_settled-clause-talked
returns-in_err-_settled-clause-talked g c = λ limits bytes small h.
    let start = in_memory bytes c.args.session.now.engine.joined.keep in
    let p = err_from_is_err_and c.from_residual-in_err-_settled.result c.from_residual-in_err-_settled.ensures.1 in
    let at = c.in_ok-_taken.ensures.moves start limits _ h in
    let a = c.in_ok-_taken.ensures.answers start limits _ h in
    rw (p.1, p.2) (record {
      to = begin g.R.Reducer.mode bytes;
      bytes = [];
      wrote = appends_none _;
      course = quiet_halt limits _ _ _ _ _ (c.in_err-_settled.ensures.due start limits _ at) (λ full. settle_stops _ limits c.args.of.0 bytes c.in_ok-_taken._taken full small at.stands_at.stands.fits a);
      at = tt;
    })

pub returns-in_err-reply-clause-talked : goal.returns-in_err-reply-clause-talked
returns-in_err-reply-clause-talked g c = λ limits bytes small h.
    let start = in_memory bytes c.args.session.now.engine.joined.keep in
    let p = err_from_is_err_and c.from_residual-in_err-reply.result c.from_residual-in_err-reply.ensures.1 in
    let at = c.in_ok-_taken.ensures.moves start limits _ h in
    let a = c.in_ok-_taken.ensures.answers start limits _ h in
    let settled = c.in_ok-_settled.ensures.moves start limits _ at in
    rw (p.1, p.2) (record {
      to = begin g.R.Reducer.mode bytes;
      bytes = [];
      wrote = appends_none _;
      course = quiet_halt limits _ _ _ _ _ (c.in_err-reply.ensures.due start limits _ settled) (λ full. settle_stops _ limits c.args.of.0 bytes c.in_ok-_taken._taken full small at.stands_at.stands.fits a);
      at = tt;
    })

pub returns-in_err-say-clause-talked : goal.returns-in_err-say-clause-talked
returns-in_err-say-clause-talked g c = λ limits bytes small h.
    let start = in_memory bytes c.args.session.now.engine.joined.keep in
    let p = err_from_is_err_and c.from_residual-in_err-say.result c.from_residual-in_err-say.ensures.1 in
    let at = c.in_ok-_taken.ensures.moves start limits _ h in
    let a = c.in_ok-_taken.ensures.answers start limits _ h in
    let settled = c.in_ok-_settled.ensures.moves start limits _ at in
    let b = c.in_ok-_settled.ensures.answers start limits _ at in
    let r = c.in_ok-reply.ensures.answers start limits _ settled in
    let cut = c.in_err-say.ensures.cut in
    rw (p.1, p.2) (record {
      to = begin g.R.Reducer.mode bytes;
      bytes = take cut.0 (text_of c.in_ok-reply.reply);
      wrote = cut.1;
      course = cut_halt limits _ _ _ _ _ c.in_err-say.ensures.due (last_cut _ limits c.args.of.0 bytes _ _ c.in_ok-reply.reply cut.0 small at.stands_at.stands.fits a b r);
      at = tt;
    })

pub returns-clause-talked : goal.returns-clause-talked
returns-clause-talked g c = λ limits bytes small h.
    let start = in_memory bytes c.args.session.now.engine.joined.keep in
    let at = c.in_ok-_taken.ensures.moves start limits _ h in
    let a = c.in_ok-_taken.ensures.answers start limits _ h in
    let settled = c.in_ok-_settled.ensures.moves start limits _ at in
    let b = c.in_ok-_settled.ensures.answers start limits _ at in
    let r = c.in_ok-reply.ensures.answers start limits _ settled in
    record {
      to = after (Some ask.Settle) (taken g.R.Reducer.mode bytes);
      bytes = text_of c.in_ok-reply.reply;
      wrote = c.in_ok-say.ensures.said;
      course = last_said _ limits c.args.of.0 bytes _ _ c.in_ok-reply.reply _ small at.stands_at.stands.fits a b r refl;
      at = c.in_ok-reply.ensures.moves start limits _ settled;
    }

pub returns-clause-whole : goal.returns-clause-whole
returns-clause-whole g c = λ limits bytes small h.
    let start = in_memory bytes c.args.session.now.engine.joined.keep in
    let at = c.in_ok-_taken.ensures.moves start limits _ h in
    let settled = c.in_ok-_settled.ensures.moves start limits _ at in
    let asked = c.in_ok-reply.ensures.moves start limits _ settled in
    asked.stands_at.told ∙ ap Some (nothing_left g.R.Reducer.mode limits bytes small at.stands_at.stands.fits)

pub returns-in_err-say-clause-causes : goal.returns-in_err-say-clause-causes
returns-in_err-say-clause-causes g c =
    let p = err_from_is_err_and c.from_residual-in_err-say.result c.from_residual-in_err-say.ensures.1 in
    rw (p.1, p.2) (causes_later _ _ _ _ _ _ _ _ _ c.in_err-say.field-0.0 (λ none. absurd none) (λ rose. rose) (λ none. none) (λ none. none) c.in_err-say.ensures.causes)
