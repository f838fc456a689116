use Rattle.std.proofs.Common.{◌≡◌, ℕ, ◌+◌, length, subst}
use Rattle.std.proofs.lemmas.Result.{err_from_is_err_and}
use Rattle.audit_lex.specs.History.{lines_of}
use Rattle.audit_lex.specs.LineCut.{line_of}
use Rattle.dialogue.proofs.ListenLemmas.{last_none, last_line}
use Rattle.dialogue.specs.Dialogue.{asks}
use Rattle.dialogue.specs.Settles.{settles_in_one, last_since, settles}
use Rattle.dialogue.proofs.AddLemmas.{pace_free, pace_up}
use Rattle.dialogue.proofs.SettleLemmas.{one_last}
use Rattle.dialogue.proofs.listen.finish.Goals as goal

pub returns-in_err-_turn-in-Some-clause-heard : goal.returns-in_err-_turn-in-Some-clause-heard
returns-in_err-_turn-in-Some-clause-heard g c = λ start limits m h at holds.
    let p = err_from_is_err_and c.from_residual.result c.from_residual.ensures.1 in
    let given = rw c.in-Some.is at c.finish.ensures.line h holds.stands in
    let told : c.in-Some.line ≡ line_of limits.question (length (lines_of h) + 1) given.0 = subst (λ (most : ℕ). c.in-Some.line ≡ line_of most (length (lines_of h) + 1) given.0) holds.limit given.2 in
    rw (p.1, p.2) (last_line _ limits _ _ _ _ _ m h given.0 _ (c.question_in.ensures limits.question (length (lines_of h) + 1) given.0 told) given.1 (c.in_err-_turn-in-Some.ensures.talk start limits m at))

pub returns-in-None-clause-heard : goal.returns-in-None-clause-heard
returns-in-None-clause-heard g c = λ start limits m h at holds.
    let given = rw c.in-None.is at c.finish.ensures.line h holds.stands in
    last_none _ limits _ _ _ m h at given

pub returns-in_ok-_turn-in-Some-clause-heard : goal.returns-in_ok-_turn-in-Some-clause-heard
returns-in_ok-_turn-in-Some-clause-heard g c = λ start limits m h at holds.
    let given = rw c.in-Some.is at c.finish.ensures.line h holds.stands in
    let told : c.in-Some.line ≡ line_of limits.question (length (lines_of h) + 1) given.0 = subst (λ (most : ℕ). c.in-Some.line ≡ line_of most (length (lines_of h) + 1) given.0) holds.limit given.2 in
    last_line _ limits _ _ _ _ _ m h given.0 _ (c.question_in.ensures limits.question (length (lines_of h) + 1) given.0 told) given.1 (c.in_ok-_turn-in-Some.ensures.talk start limits m at)

pub returns-in_err-_turn-in-Some-clause-lacks : goal.returns-in_err-_turn-in-Some-clause-lacks
returns-in_err-_turn-in-Some-clause-lacks g c = λ start limits m at was.
    let p = err_from_is_err_and c.from_residual.result c.from_residual.ensures.1 in
    rw p.1 (c.in_err-_turn-in-Some.ensures.lacks start limits m at was)

pub returns-in_ok-_turn-in-Some-clause-lacks : goal.returns-in_ok-_turn-in-Some-clause-lacks
returns-in_ok-_turn-in-Some-clause-lacks g c = λ start limits m at was. c.in_ok-_turn-in-Some.ensures.lacks start limits m at was

pub returns-in-None-clause-adds : goal.returns-in-None-clause-adds
returns-in-None-clause-adds g c = λ start limits m h most at holds pace.
    let keep = c.args.session.now.engine.joined.keep in
    pace_free (g.K.Saves.adds start limits) c.args.session.now.batch keep keep c.args.session.now.unsaved (g.L.Source.left c.args.log.now) most _ (λ n so. so) pace

pub returns-in_err-_turn-in-Some-clause-adds : goal.returns-in_err-_turn-in-Some-clause-adds
returns-in_err-_turn-in-Some-clause-adds g c = λ start limits m h most at holds pace.
    let p = err_from_is_err_and c.from_residual.result c.from_residual.ensures.1 in
    let given = rw c.in-Some.is at c.finish.ensures.line h holds.stands in
    let told : c.in-Some.line ≡ line_of limits.question (length (lines_of h) + 1) given.0 = subst (λ (most : ℕ). c.in-Some.line ≡ line_of most (length (lines_of h) + 1) given.0) holds.limit given.2 in
    let one = one_last limits h given.0 _ (c.question_in.ensures limits.question (length (lines_of h) + 1) given.0 told) given.1 in
    rw p.1 (pace_up (g.K.Saves.adds start limits) c.args.session.now.batch c.take_turn.new.session.engine.joined.keep 0 (g.L.Source.left c.take_turn.new.log) most (settles_in_one c.question_in.result) (settles (asks limits (last_since h))) one
    (c.in_err-_turn-in-Some.ensures.adds start limits m most at pace))

pub returns-in_ok-_turn-in-Some-clause-adds : goal.returns-in_ok-_turn-in-Some-clause-adds
returns-in_ok-_turn-in-Some-clause-adds g c = λ start limits m h most at holds pace.
    let given = rw c.in-Some.is at c.finish.ensures.line h holds.stands in
    let told : c.in-Some.line ≡ line_of limits.question (length (lines_of h) + 1) given.0 = subst (λ (most : ℕ). c.in-Some.line ≡ line_of most (length (lines_of h) + 1) given.0) holds.limit given.2 in
    let one = one_last limits h given.0 _ (c.question_in.ensures limits.question (length (lines_of h) + 1) given.0 told) given.1 in
    pace_up (g.K.Saves.adds start limits) c.args.session.now.batch c.take_turn.new.session.engine.joined.keep c.take_turn.new.session.unsaved (g.L.Source.left c.take_turn.new.log) most (settles_in_one c.question_in.result) (settles (asks limits (last_since h))) one
    (c.in_ok-_turn-in-Some.ensures.adds start limits m most at pace)
