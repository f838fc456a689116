use Rattle.std.proofs.Common.{◌≡◌, ◌≤◌, ℕ, arith, ◌+◌, List, take, drop, length, subst, ◌∙◌, Err}
use Rattle.std.proofs.lemmas.List.{take-append-drop}
use Rattle.std.proofs.lemmas.Result.{err_from_is_err_and}
use Rattle.audit_lex.specs.History.{lines_of, with_bytes}
use Rattle.audit_lex.specs.LineCut.{line_of}
use Rattle.dialogue.specs.Dialogue.{nothing_beyond}
use Rattle.dialogue.specs.Course.{kind_of}
use Rattle.dialogue.specs.Hearing.{Heard, Holds}
use Rattle.dialogue.specs.Settles.{settles_in_one, settles_since}
use Rattle.dialogue.specs.declared.halt.Halt.TheVariants as halt
use Rattle.dialogue.proofs.SaveLemmas.{cut_short, memory_names}
use Rattle.dialogue.proofs.HearLemmas.{heard_line, heard_longer, heard_no_line, heard_nothing}
use Rattle.dialogue.proofs.AddLemmas.{pace_free, pace_halted, pace_up}
use Rattle.dialogue.proofs.SettleLemmas.{one_since, since_longer}
use Rattle.dialogue.proofs.LackLemmas.{lacks_halted}
use Rattle.dialogue.proofs.hear.hear_line.Goals as goal

pub returns-in_err-count-clause-heard : goal.returns-in_err-count-clause-heard
returns-in_err-count-clause-heard g c = λ start limits m h at holds.
    let p = err_from_is_err_and c.from_residual.result c.from_residual.ensures.1 in
    rw (p.1, p.2) (heard_nothing c.lines_stay.ensures.stay _ limits nothing_beyond _ _ _ _ _ m h c.args.piece.now tt)

pub returns-in_err-turn-in-Some-clause-heard : goal.returns-in_err-turn-in-Some-clause-heard
returns-in_err-turn-in-Some-clause-heard g c = λ start limits m h at holds.
    let p = err_from_is_err_and c.from_residual-in_err-turn-in-Some.result c.from_residual-in_err-turn-in-Some.ensures.1 in
    let given = rw c.in-Some.is at c.in_ok-count.ensures.line h holds.stands in
    let told : c.in-Some.line ≡ line_of limits.question (length (lines_of h) + 1) given.0 = subst (λ (most : ℕ). c.in-Some.line ≡ line_of most (length (lines_of h) + 1) given.0) holds.limit given.2 in
    let part = take c.in_ok-count.count c.args.piece.now in
    let held : Holds limits c.next.new.self (with_bytes h part) = record { limit = c.next.ensures.limit ∙ holds.limit; stands = c.in_ok-count.ensures.stands h holds.stands } in
    let line = heard_line _ limits nothing_beyond _ _ _ _ _ _ m h part given.0 _ (c.question_in.ensures limits.question (length (lines_of h) + 1) given.0 told) held given.1 (c.in_err-turn-in-Some.ensures.talk start limits m at) in
    let longer = heard_longer c.lines_stay.ensures.stay _ limits nothing_beyond _ _ _ _ _ _ m h part (drop c.in_ok-count.count c.args.piece.now) tt line in
    rw (p.1, p.2) (subst (λ (xs : List ℕ). Heard (kind_of g.R.Reducer.mode c.args.takes (g.K.Saves.holds start limits)) limits nothing_beyond c.next.new.self c.take_turn.new.session.engine (g.L.Source.left c.take_turn.new.log) (g.O.Sink.written c.args.out.now) (g.O.Sink.written c.take_turn.new.out) (Err c.in_err-turn-in-Some.field-0.0) m h xs)
    (take-append-drop c.in_ok-count.count c.args.piece.now) longer)

pub returns-in-None-clause-heard : goal.returns-in-None-clause-heard
returns-in-None-clause-heard g c = λ start limits m h at holds.
    let given = rw c.in-None.is at c.in_ok-count.ensures.line h holds.stands in
    let held : Holds limits c.next.new.self (with_bytes h (take c.in_ok-count.count c.args.piece.now)) = record { limit = c.next.ensures.limit ∙ holds.limit; stands = c.in_ok-count.ensures.stands h holds.stands } in
    heard_no_line _ limits nothing_beyond _ _ _ _ m h _ at held given

pub returns-in_ok-turn-in-Some-clause-heard : goal.returns-in_ok-turn-in-Some-clause-heard
returns-in_ok-turn-in-Some-clause-heard g c = λ start limits m h at holds.
    let given = rw c.in-Some.is at c.in_ok-count.ensures.line h holds.stands in
    let told : c.in-Some.line ≡ line_of limits.question (length (lines_of h) + 1) given.0 = subst (λ (most : ℕ). c.in-Some.line ≡ line_of most (length (lines_of h) + 1) given.0) holds.limit given.2 in
    let held : Holds limits c.next.new.self (with_bytes h (take c.in_ok-count.count c.args.piece.now)) = record { limit = c.next.ensures.limit ∙ holds.limit; stands = c.in_ok-count.ensures.stands h holds.stands } in
    heard_line _ limits nothing_beyond _ _ _ _ _ _ m h _ given.0 _ (c.question_in.ensures limits.question (length (lines_of h) + 1) given.0 told) held given.1 (c.in_ok-turn-in-Some.ensures.talk start limits m at)

pub returns-in_err-count-clause-ends : goal.returns-in_err-count-clause-ends
returns-in_err-count-clause-ends g c = λ start limits m at.
    let p = err_from_is_err_and c.from_residual.result c.from_residual.ensures.1 in
    rw (p.1, p.2) (cut_short g.K.Rows.alike g.K.Saves.can g.K.Saves.holds g.K.Saves.ends g.K.Saves.uses g.K.Saves.rose c.saves_lawfully.ensures start limits g.R.Reducer.mode c.args.takes c.args.session.now.engine _
    c.args.session.now.engine.joined.keep m halt.NoMemory memory_names (g.met.K.Rows.goes_along.same c.args.session.now.engine.joined.keep) at)

pub returns-in_err-count-clause-lacks : goal.returns-in_err-count-clause-lacks
returns-in_err-count-clause-lacks g c = λ start limits m at was.
    let p = err_from_is_err_and c.from_residual.result c.from_residual.ensures.1 in
    rw p.1 (lacks_halted g.K.Rows.alike g.K.Saves.lacks c.lacks_lawfully.ensures start limits g.R.Reducer.mode c.args.session.now.engine.joined.keep _ c.args.session.now.unsaved c.args.session.now.batch c.args.session.now.few was)

pub returns-in_err-turn-in-Some-clause-lacks : goal.returns-in_err-turn-in-Some-clause-lacks
returns-in_err-turn-in-Some-clause-lacks g c = λ start limits m at was.
    let p = err_from_is_err_and c.from_residual-in_err-turn-in-Some.result c.from_residual-in_err-turn-in-Some.ensures.1 in
    rw p.1 (c.in_err-turn-in-Some.ensures.lacks start limits m at was)

pub returns-in_ok-turn-in-Some-clause-lacks : goal.returns-in_ok-turn-in-Some-clause-lacks
returns-in_ok-turn-in-Some-clause-lacks g c = λ start limits m at was. c.in_ok-turn-in-Some.ensures.lacks start limits m at was

pub returns-in_err-count-clause-adds : goal.returns-in_err-count-clause-adds
returns-in_err-count-clause-adds g c = λ start limits m h most at holds pace.
    let p = err_from_is_err_and c.from_residual.result c.from_residual.ensures.1 in
    rw p.1 (pace_halted (g.K.Saves.adds start limits) c.args.session.now.batch c.args.session.now.engine.joined.keep c.args.session.now.engine.joined.keep c.args.session.now.unsaved (g.L.Source.left c.args.log.now) most _ (λ n so. so) pace)

pub returns-in-None-clause-adds : goal.returns-in-None-clause-adds
returns-in-None-clause-adds g c = λ start limits m h most at holds pace. pace_free (g.K.Saves.adds start limits) c.args.session.now.batch c.args.session.now.engine.joined.keep c.args.session.now.engine.joined.keep c.args.session.now.unsaved (g.L.Source.left c.args.log.now) most _ (λ n so. so) pace

pub returns-in_err-turn-in-Some-clause-adds : goal.returns-in_err-turn-in-Some-clause-adds
returns-in_err-turn-in-Some-clause-adds g c = λ start limits m h most at holds pace.
    let p = err_from_is_err_and c.from_residual-in_err-turn-in-Some.result c.from_residual-in_err-turn-in-Some.ensures.1 in
    let given = rw c.in-Some.is at c.in_ok-count.ensures.line h holds.stands in
    let told : c.in-Some.line ≡ line_of limits.question (length (lines_of h) + 1) given.0 = subst (λ (most : ℕ). c.in-Some.line ≡ line_of most (length (lines_of h) + 1) given.0) holds.limit given.2 in
    let part = take c.in_ok-count.count c.args.piece.now in
    let one = one_since limits h part given.0 _ (c.question_in.ensures limits.question (length (lines_of h) + 1) given.0 told) given.1 in
    let piece = c.args.piece.now in
    let rest = drop c.in_ok-count.count piece in
    let longer : settles_since limits h part ≤ settles_since limits h piece = subst (λ (xs : List ℕ). settles_since limits h part ≤ settles_since limits h xs) (take-append-drop c.in_ok-count.count piece) (since_longer c.lines_stay.ensures.stay limits h part rest) in
    rw p.1 (pace_up (g.K.Saves.adds start limits) c.args.session.now.batch c.take_turn.new.session.engine.joined.keep 0 (g.L.Source.left c.take_turn.new.log) most (settles_in_one c.question_in.result) (settles_since limits h piece) (omega (arith, one, longer))
    (c.in_err-turn-in-Some.ensures.adds start limits m most at pace))

pub returns-in_ok-turn-in-Some-clause-adds : goal.returns-in_ok-turn-in-Some-clause-adds
returns-in_ok-turn-in-Some-clause-adds g c = λ start limits m h most at holds pace.
    let given = rw c.in-Some.is at c.in_ok-count.ensures.line h holds.stands in
    let told : c.in-Some.line ≡ line_of limits.question (length (lines_of h) + 1) given.0 = subst (λ (most : ℕ). c.in-Some.line ≡ line_of most (length (lines_of h) + 1) given.0) holds.limit given.2 in
    let part = take c.in_ok-count.count c.args.piece.now in
    let one = one_since limits h part given.0 _ (c.question_in.ensures limits.question (length (lines_of h) + 1) given.0 told) given.1 in
    pace_up (g.K.Saves.adds start limits) c.args.session.now.batch c.take_turn.new.session.engine.joined.keep c.take_turn.new.session.unsaved (g.L.Source.left c.take_turn.new.log) most (settles_in_one c.question_in.result) (settles_since limits h part) one
    (c.in_ok-turn-in-Some.ensures.adds start limits m most at pace)
