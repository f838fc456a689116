use Rattle.std.proofs.Common.{rules, true, ◌≡◌, ◌+◌, ◌*◌, ℕ, arith, sym, ◌∙◌, ap, subst, Some, Option}
use Rattle.report_json.specs.declared.ask.Ask.{Ask}
use Rattle.report_json.specs.declared.ask.Ask.TheVariants as ask
use Rattle.std.proofs.lemmas.Result.{err_from_is_err_and}
use Rattle.report_json.specs.declared.reply.Reply.TheVariants as reply
use Rattle.ingest.specs.Parts.{Engine}
use Rattle.ingest.specs.Replies.{IsQuestion}
use Rattle.ingest.specs.Stops.{Stops}
use Rattle.dialogue.specs.Settles.{settles_in_one}
use Rattle.dialogue.specs.Dialogue.{Moment, after, Answers}
use Rattle.dialogue.specs.Saves.{KeepsPace, lack_of}
use Rattle.dialogue.specs.Course.{At, IsDue, kind_of}
use Rattle.dialogue.proofs.MomentLemmas.{settle_said, settles_on, still, take_said, takes_on, engine_reply}
use Rattle.dialogue.proofs.HearLemmas.{on_ok}
use Rattle.dialogue.proofs.SaveLemmas.{asked_causes, causes_later, causes_on, ends_asked}
use Rattle.dialogue.proofs.AddLemmas.{pace_free, pace_halted, pace_still}
use Rattle.dialogue.proofs.LackLemmas.{lacks_still}
use Rattle.dialogue.proofs.StoreLemmas.{never_due}
use Rattle.dialogue.proofs.turn.answer.Goals as goal

pub returns-in-None-clause-uses : goal.returns-in-None-clause-uses
returns-in-None-clause-uses g c = c.saves_lawfully.ensures.uses_same _ _ (g.met.K.Rows.goes_along.same c.args.session.now.engine.joined.keep)

pub returns-in-Some-Take-2-clause-uses : goal.returns-in-Some-Take-2-clause-uses
returns-in-Some-Take-2-clause-uses g c = c.saves_lawfully.ensures.uses_same _ _ (g.met.K.Rows.goes_along.same c.args.session.now.engine.joined.keep)

pub returns-in-Some-Settle-2-clause-uses : goal.returns-in-Some-Settle-2-clause-uses
returns-in-Some-Settle-2-clause-uses g c = c.saves_lawfully.ensures.uses_same _ _ (g.met.K.Rows.goes_along.same c.args.session.now.engine.joined.keep)

pub returns-in-Some-End-clause-uses : goal.returns-in-Some-End-clause-uses
returns-in-Some-End-clause-uses g c = c.saves_lawfully.ensures.uses_same _ _ (g.met.K.Rows.goes_along.same c.args.session.now.engine.joined.keep)

pub returns-in-Some-clause-uses : goal.returns-in-Some-clause-uses
returns-in-Some-clause-uses g c = c.saves_lawfully.ensures.uses_same _ _ c.reply_of.ensures.alike

pub returns-in-Some-clause-can : goal.returns-in-Some-clause-can
returns-in-Some-clause-can g c = on_ok c.reply_of.result _ (c.saves_lawfully.ensures.still_can _ _ c.reply_of.ensures.alike c.requires.can)

pub returns-in-Some-clause-ends : goal.returns-in-Some-clause-ends
returns-in-Some-clause-ends g c = λ start limits m h.
    let asks : IsQuestion c.in-Some.ask = search rules in
    rw (c.in-Some.is, still c.in-Some.ask m asks) (ends_asked g.K.Rows.alike g.K.Saves.can g.K.Saves.holds g.K.Saves.ends g.K.Saves.uses g.K.Saves.rose c.saves_lawfully.ensures start limits g.R.Reducer.mode c.args.takes
    c.args.session.now.engine _ c.reply_of.new.engine.joined.keep m _ _ _ _ c.reply_of.result c.reply_of.ensures.alike h c.reply_of.ensures.causes)

pub returns-in_ok-count-in-Some-Take-clause-moves : goal.returns-in_ok-count-in-Some-Take-clause-moves
returns-in_ok-count-in-Some-Take-clause-moves g c = λ start limits m h.
    let inner = rw c.in-Some-Take.is at c.in-Some-Take.field-0-is in
    let e : c.args.question.now ≡ Some (ask.Take c.in-Some-Take.most) = c.in-Some-Take.is ∙ ap Some inner in
    let kind = kind_of g.R.Reducer.mode c.args.takes (g.K.Saves.holds start limits) in
    let takes : m.takes ≡ true = h.may_take ∙ c.if-takes.true in
    subst (λ (q : Option Ask). At kind limits c.take.new.session.engine (g.L.Source.left c.take.new.log) (after q m)) (sym e)
    (subst (λ (x : Moment). At kind limits c.take.new.session.engine (g.L.Source.left c.take.new.log) x) (sym (takes_on m c.in-Some-Take.most takes)) (c.in_ok-count-in-Some-Take.ensures.took c.args.takes start limits m h))

pub returns-in_err-count-in-Some-Take-clause-due : goal.returns-in_err-count-in-Some-Take-clause-due
returns-in_err-count-in-Some-Take-clause-due g c = λ start limits m h.
    let inner = rw c.in-Some-Take.is at c.in-Some-Take.field-0-is in
    let e : c.args.question.now ≡ Some (ask.Take c.in-Some-Take.most) = c.in-Some-Take.is ∙ ap Some inner in
    let p = err_from_is_err_and c.from_residual.result c.from_residual.ensures.1 in
    let due = subst (λ (q : Option Ask). IsDue (Stops limits (after q m).history) c.in_err-count-in-Some-Take.field-0.0) (sym e)
    (subst (λ (x : Moment). IsDue (Stops limits x.history) c.in_err-count-in-Some-Take.field-0.0) (sym (takes_on m c.in-Some-Take.most (h.may_take ∙ c.if-takes.true))) (c.in_err-count-in-Some-Take.ensures.due c.args.takes start limits m h)) in
    rw (p.1, p.2) due

pub returns-in_err-count-in-Some-Take-clause-ends : goal.returns-in_err-count-in-Some-Take-clause-ends
returns-in_err-count-in-Some-Take-clause-ends g c = λ start limits m h.
    let inner = rw c.in-Some-Take.is at c.in-Some-Take.field-0-is in
    let e : c.args.question.now ≡ Some (ask.Take c.in-Some-Take.most) = c.in-Some-Take.is ∙ ap Some inner in
    let p = err_from_is_err_and c.from_residual.result c.from_residual.ensures.1 in
    let why = c.in_err-count-in-Some-Take.field-0.0 in
    let cut = subst (λ (q : Option Ask). g.K.Saves.ends start limits c.take.new.session.engine.joined.keep (after q m) why) (sym e)
    (subst (λ (x : Moment). g.K.Saves.ends start limits c.take.new.session.engine.joined.keep x why) (sym (takes_on m c.in-Some-Take.most (h.may_take ∙ c.if-takes.true)))
    (c.in_err-count-in-Some-Take.ensures.ends c.args.takes start limits m h)) in
    rw (p.1, p.2) cut

pub returns-in_ok-count-in-Some-Take-clause-answers : goal.returns-in_ok-count-in-Some-Take-clause-answers
returns-in_ok-count-in-Some-Take-clause-answers g c = λ start limits m h.
    let inner = rw c.in-Some-Take.is at c.in-Some-Take.field-0-is in
    let e : c.args.question.now ≡ Some (ask.Take c.in-Some-Take.most) = c.in-Some-Take.is ∙ ap Some inner in
    subst (λ (q : Option Ask). Answers limits q m (reply.Take c.in_ok-count-in-Some-Take.count)) (sym e)
    (take_said limits m c.in-Some-Take.most c.in_ok-count-in-Some-Take.count (h.may_take ∙ c.if-takes.true) (c.in_ok-count-in-Some-Take.ensures.count c.args.takes start limits m h))

pub returns-in-Some-Settle-clause-moves : goal.returns-in-Some-Settle-clause-moves
returns-in-Some-Settle-clause-moves g c = λ start limits m h.
    let inner = rw c.in-Some-Settle.is at c.in-Some-Settle.field-0-is in
    let e : c.args.question.now ≡ Some ask.Settle = c.in-Some-Settle.is ∙ ap Some inner in
    let takes : m.takes ≡ true = h.may_take ∙ c.if-takes-2.true in
    rw (e, settles_on m takes) (c.settle_all.ensures.settled c.args.takes start limits _ m h)

pub returns-in-Some-Settle-clause-answers : goal.returns-in-Some-Settle-clause-answers
returns-in-Some-Settle-clause-answers g c = λ start limits m h.
    let inner = rw c.in-Some-Settle.is at c.in-Some-Settle.field-0-is in
    let e : c.args.question.now ≡ Some ask.Settle = c.in-Some-Settle.is ∙ ap Some inner in
    rw e (settle_said limits c.settle_all.result m (h.may_take ∙ c.if-takes-2.true) (c.settle_all.ensures.reply c.args.takes start limits _ m h))

pub returns-in-Some-Settle-clause-due : goal.returns-in-Some-Settle-clause-due
returns-in-Some-Settle-clause-due g c = λ start limits m h.
    let inner = rw c.in-Some-Settle.is at c.in-Some-Settle.field-0-is in
    let e : c.args.question.now ≡ Some ask.Settle = c.in-Some-Settle.is ∙ ap Some inner in
    rw (e, settles_on m (h.may_take ∙ c.if-takes-2.true)) (c.settle_all.ensures.due c.args.takes start limits _ m h)

pub returns-in-Some-Settle-clause-ends : goal.returns-in-Some-Settle-clause-ends
returns-in-Some-Settle-clause-ends g c = λ start limits m h.
    let inner = rw c.in-Some-Settle.is at c.in-Some-Settle.field-0-is in
    let e : c.args.question.now ≡ Some ask.Settle = c.in-Some-Settle.is ∙ ap Some inner in
    rw (e, settles_on m (h.may_take ∙ c.if-takes-2.true)) (c.settle_all.ensures.ends c.args.takes start limits _ m h)

pub returns-in-Some-clause-moves : goal.returns-in-Some-clause-moves
returns-in-Some-clause-moves g c = λ start limits m h.
    let asks : IsQuestion c.in-Some.ask = search rules in
    let marked = ap (λ (e : Engine g.row.K.Denot). e.joined.tables.marked) c.reply_of.ensures.same in
    let part = ap (λ (e : Engine g.row.K.Denot). e.part) c.reply_of.ensures.same in
    rw (c.in-Some.is, still c.in-Some.ask m asks) (on_ok c.reply_of.result _ (record {
      in_mode = h.in_mode;
      may_take = h.may_take;
      stands_at = record { stands = c.reply_of.ensures.stands limits m.history h.stands_at.stands; told = h.stands_at.told };
      holds = c.saves_lawfully.ensures.stays start limits c.args.session.now.engine c.reply_of.new.engine m c.reply_of.ensures.alike marked part h.holds;
    }))

pub returns-in-Some-clause-answers : goal.returns-in-Some-clause-answers
returns-in-Some-clause-answers g c = λ start limits m h.
    let asks : IsQuestion c.in-Some.ask = search rules in
    rw c.in-Some.is (engine_reply (kind_of g.R.Reducer.mode c.args.takes (g.K.Saves.holds start limits)) limits c.reply_of.result _ _ m c.in-Some.ask asks c.reply_of.ensures.reply h)

pub returns-in-Some-clause-due : goal.returns-in-Some-clause-due
returns-in-Some-clause-due g c = λ start limits m h. never_due c.reply_of.result _ (c.reply_of.ensures.due limits m.history h.stands_at.stands)

pub returns-in_err-count-in-Some-Take-clause-lacks : goal.returns-in_err-count-in-Some-Take-clause-lacks
returns-in_err-count-in-Some-Take-clause-lacks g c = λ start limits m h was.
    let p = err_from_is_err_and c.from_residual.result c.from_residual.ensures.1 in
    rw p.1 (c.in_err-count-in-Some-Take.ensures.lacks c.args.takes start limits m h was)

pub returns-in_ok-count-in-Some-Take-clause-lacks : goal.returns-in_ok-count-in-Some-Take-clause-lacks
returns-in_ok-count-in-Some-Take-clause-lacks g c = λ start limits m h was. c.in_ok-count-in-Some-Take.ensures.lacks c.args.takes start limits m h was

pub returns-in-Some-Settle-clause-lacks : goal.returns-in-Some-Settle-clause-lacks
returns-in-Some-Settle-clause-lacks g c = λ start limits m h was. c.settle_all.ensures.lacks c.args.takes start limits _ m h was

pub returns-in-Some-clause-lacks : goal.returns-in-Some-clause-lacks
returns-in-Some-clause-lacks g c = λ start limits m h was.
    lacks_still g.K.Rows.alike g.K.Saves.lacks c.lacks_lawfully.ensures start limits g.R.Reducer.mode c.args.session.now.engine.joined.keep c.reply_of.new.engine.joined.keep _ c.reply_of.result c.args.session.now.unsaved
    c.args.session.now.batch c.reply_of.ensures.alike c.args.session.now.few was

pub returns-in_err-count-in-Some-Take-clause-causes : goal.returns-in_err-count-in-Some-Take-clause-causes
returns-in_err-count-in-Some-Take-clause-causes g c =
    let p = err_from_is_err_and c.from_residual.result c.from_residual.ensures.1 in
    rw (p.1, p.2, c.if-takes.true)
    (causes_later _ _ _ _ _ _ _ _ _ c.in_err-count-in-Some-Take.field-0.0 (λ read. read) (λ none. none) (λ store. store) (λ none. absurd none) c.in_err-count-in-Some-Take.ensures.causes)

pub returns-in-Some-Settle-clause-causes : goal.returns-in-Some-Settle-clause-causes
returns-in-Some-Settle-clause-causes g c = rw c.if-takes-2.true (causes_on _ _ _ _ _ _ _ _ _ c.settle_all.result (λ none. absurd none) (λ none. none) (λ store. store) (λ none. absurd none) c.settle_all.ensures.causes)

pub returns-in-Some-clause-causes : goal.returns-in-Some-clause-causes
returns-in-Some-clause-causes g c =
    let old = c.args.session.now.engine.joined.keep in
    asked_causes _ _ _ _ _ (g.K.Saves.hidden old) _ c.reply_of.result (c.reads_lawfully.ensures.unseen old) (c.reads_lawfully.ensures.failed old c.reply_of.new.engine.joined.keep) c.reply_of.ensures.causes

pub returns-in-None-clause-adds : goal.returns-in-None-clause-adds
returns-in-None-clause-adds g c = λ start limits m most h pace. pace_free (g.K.Saves.adds start limits) c.args.session.now.batch c.args.session.now.engine.joined.keep c.args.session.now.engine.joined.keep c.args.session.now.unsaved _ most _ (λ n so. so) pace

pub returns-in-Some-Take-2-clause-adds : goal.returns-in-Some-Take-2-clause-adds
returns-in-Some-Take-2-clause-adds g c = λ start limits m most h pace. pace_free (g.K.Saves.adds start limits) c.args.session.now.batch c.args.session.now.engine.joined.keep c.args.session.now.engine.joined.keep c.args.session.now.unsaved _ most _ (λ n so. so) pace

pub returns-in-Some-Settle-2-clause-adds : goal.returns-in-Some-Settle-2-clause-adds
returns-in-Some-Settle-2-clause-adds g c = λ start limits m most h pace. pace_free (g.K.Saves.adds start limits) c.args.session.now.batch c.args.session.now.engine.joined.keep c.args.session.now.engine.joined.keep c.args.session.now.unsaved _ most _ (λ n so. so) pace

pub returns-in-Some-End-clause-adds : goal.returns-in-Some-End-clause-adds
returns-in-Some-End-clause-adds g c = λ start limits m most h pace. pace_free (g.K.Saves.adds start limits) c.args.session.now.batch c.args.session.now.engine.joined.keep c.args.session.now.engine.joined.keep c.args.session.now.unsaved _ most _ (λ n so. so) pace

pub returns-in_err-count-in-Some-Take-clause-adds : goal.returns-in_err-count-in-Some-Take-clause-adds
returns-in_err-count-in-Some-Take-clause-adds g c = λ start limits m most h pace.
    let p = err_from_is_err_and c.from_residual.result c.from_residual.ensures.1 in
    let keep = c.take.new.session.engine.joined.keep in
    rw p.1 (pace_halted (g.K.Saves.adds start limits) c.args.session.now.batch keep keep 0 _ most (settles_in_one c.args.question.now * c.args.session.now.batch) (λ n so. so) (c.in_err-count-in-Some-Take.ensures.adds c.args.takes start limits m most h pace))

pub returns-in_ok-count-in-Some-Take-clause-adds : goal.returns-in_ok-count-in-Some-Take-clause-adds
returns-in_ok-count-in-Some-Take-clause-adds g c = λ start limits m most h pace.
    let keep = c.take.new.session.engine.joined.keep in
    pace_free (g.K.Saves.adds start limits) c.args.session.now.batch keep keep c.take.new.session.unsaved _ most _ (λ n so. so) (c.in_ok-count-in-Some-Take.ensures.adds c.args.takes start limits m most h pace)

pub returns-in-Some-Settle-clause-adds : goal.returns-in-Some-Settle-clause-adds
returns-in-Some-Settle-clause-adds g c = λ start limits m most h pace.
    let inner = rw c.in-Some-Settle.is at c.in-Some-Settle.field-0-is in
    let e : c.args.question.now ≡ Some ask.Settle = c.in-Some-Settle.is ∙ ap Some inner in
    let batch = c.args.session.now.batch in
    let one : most + batch ≡ most + settles_in_one (Some ask.Settle) * batch = omega arith in
    let settled = c.settle_all.ensures.adds c.args.takes start limits _ m most h pace in
    subst (λ (q : Option Ask). KeepsPace (g.K.Saves.adds start limits) batch c.settle_all.new.session.engine.joined.keep (lack_of c.settle_all.result c.settle_all.new.session.unsaved 0) (g.L.Source.left c.args.log.now) (most + settles_in_one q * batch)) (sym e)
    (subst (λ (n : ℕ). KeepsPace (g.K.Saves.adds start limits) batch c.settle_all.new.session.engine.joined.keep (lack_of c.settle_all.result c.settle_all.new.session.unsaved 0) (g.L.Source.left c.args.log.now) n) one settled)

pub returns-in-Some-clause-adds : goal.returns-in-Some-clause-adds
returns-in-Some-clause-adds g c = λ start limits m most h pace.
    pace_still (g.K.Saves.adds start limits) c.args.session.now.batch c.args.session.now.engine.joined.keep c.reply_of.new.engine.joined.keep c.reply_of.result c.args.session.now.unsaved _ most _ (λ n so. c.adds_lawfully.ensures start limits _ _ n c.reply_of.ensures.alike so) pace
