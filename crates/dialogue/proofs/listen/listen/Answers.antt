use Rattle.std.proofs.Common.{◌≡◌, ◌≤◌, ◌+◌, ◌*◌, ◌<◌, ◌-◌, ℕ, List, [], ◌++◌, length, take, drop, sym, subst, arith, rules, ap, ◌∙◌, Some, Ok, Err}
use Rattle.std.proofs.lemmas.List.{take-append-drop}
use Rattle.std.proofs.lemmas.Result.{err_from_is_err_and}
use Rattle.dialogue.specs.declared.halt.Turn.TheVariants as turn
use Rattle.dialogue.specs.declared.halt.Halt.TheVariants as halt
use Rattle.dialogue.specs.Dialogue.{input_full}
use Rattle.dialogue.specs.Course.{kind_of}
use Rattle.dialogue.specs.Dialogue.{nothing_beyond}
use Rattle.dialogue.specs.Hearing.{Heard}
use Rattle.dialogue.specs.Settles.{settles_since}
use Rattle.dialogue.specs.Saves.{KeepsPace}
use Rattle.dialogue.specs.Listening.{PassesRoom}
use Rattle.dialogue.proofs.MomentLemmas.{told_read, front_told, no_more}
use Rattle.dialogue.proofs.SaveLemmas.{cut_short, input_names, read_names}
use Rattle.dialogue.proofs.HearLemmas.{heard_none, heard_nothing, heard_longer, heard_weaker, heard_full, questions_pass, questions_closed}
use Rattle.dialogue.proofs.AddLemmas.{pace_free, pace_halted, pace_on, pace_up}
use Rattle.dialogue.proofs.SettleLemmas.{since_longer}
use Rattle.dialogue.proofs.LackLemmas.{lacks_halted}
use Rattle.dialogue.proofs.listen.listen.Goals as goal

pub returns-in-Err-clause-heard : goal.returns-in-Err-clause-heard
returns-in-Err-clause-heard g c = λ start m h q at holds told. heard_nothing c.lines_stay.ensures.stay _ c.args.limits.now _ _ _ _ _ halt.ReadFault m h q tt

pub returns-then-count-eq0-clause-heard : goal.returns-then-count-eq0-clause-heard
returns-then-count-eq0-clause-heard g c = λ start m h q at holds told. heard_none _ c.args.limits.now _ _ _ _ _ m h at holds

pub returns-in_err-hear-clause-heard : goal.returns-in_err-hear-clause-heard
returns-in_err-hear-clause-heard g c = λ start m h q at holds told.
    let limits = c.args.limits.now in
    let room = limits.input - c.args.heard in
    let p = err_from_is_err_and c.from_residual.result c.from_residual.ensures.1 in
    let read = told_read _ _ q _ c.in-Ok.count told c.in-Ok.ensures.bytes.0 (sym c.in-Ok.ensures.bound.1) in
    let same = front_told c.read.new.buf q c.min-allowed.result c.in-Ok.count read.1 (omega (arith, c.min-allowed.ensures)) in
    let heard = c.in_err-hear.ensures.heard start limits m h at holds in
    let longer = heard_longer c.lines_stay.ensures.stay _ limits _ _ _ _ _ _ _ m h _ (drop c.min-allowed.result q) tt (heard_weaker _ limits nothing_beyond (PassesRoom limits room h q) _ _ _ _ _ _ m h _ (λ answered full none. absurd none) heard) in
    let whole : take c.min-allowed.result c.read.new.buf ++ drop c.min-allowed.result q ≡ q = rw same (take-append-drop c.min-allowed.result q) in
    rw (p.1, p.2) (subst (λ (xs : List ℕ). Heard (kind_of g.R.Reducer.mode c.args.takes (g.K.Saves.holds start limits)) limits (PassesRoom limits room h q) c.hear.new.cut c.hear.new.session.engine (g.L.Source.left c.hear.new.log) (g.O.Sink.written c.args.out.now) (g.O.Sink.written c.hear.new.out) (Err c.in_err-hear.field-0.0) m h xs) whole longer)

pub returns-then-allowed-count-clause-heard : goal.returns-then-allowed-count-clause-heard
returns-then-allowed-count-clause-heard g c = λ start m h q at holds told.
    let limits = c.args.limits.now in
    let room = limits.input - c.args.heard in
    let read = told_read _ _ q _ c.in-Ok.count told c.in-Ok.ensures.bytes.0 (sym c.in-Ok.ensures.bound.1) in
    let same = front_told c.read.new.buf q c.min-allowed.result c.in-Ok.count read.1 (omega (arith, c.min-allowed.ensures)) in
    let within = read.2 in
    let over : room < length q = omega (arith, c.min-allowed.ensures) in
    let all : c.min-allowed.result ≡ room = omega (arith, c.min-allowed.ensures) in
    let heard = rw c.in-More.is at c.in_ok-hear.ensures.heard start limits m h at holds in
    let passes = questions_pass _ limits _ _ _ _ _ m h (take c.min-allowed.result c.read.new.buf) q room (same ∙ ap (λ (n : ℕ). take n q) all) over heard in
    let full = heard_full c.lines_stay.ensures.stay _ limits (PassesRoom limits room h q) _ _ _ _ _ m h _ (drop c.min-allowed.result q) heard passes in
    let whole : take c.min-allowed.result c.read.new.buf ++ drop c.min-allowed.result q ≡ q = rw same (take-append-drop c.min-allowed.result q) in
    subst (λ (xs : List ℕ). Heard (kind_of g.R.Reducer.mode c.args.takes (g.K.Saves.holds start limits)) limits (PassesRoom limits room h q) c.hear.new.cut c.hear.new.session.engine (g.L.Source.left c.hear.new.log) (g.O.Sink.written c.args.out.now) (g.O.Sink.written c.hear.new.out) (Err (halt.Full (input_full limits))) m h xs) whole full

pub returns-in-Ended-clause-heard : goal.returns-in-Ended-clause-heard
returns-in-Ended-clause-heard g c = λ start m h q at holds told.
    let limits = c.args.limits.now in
    let room = limits.input - c.args.heard in
    let read = told_read _ _ q _ c.in-Ok.count told c.in-Ok.ensures.bytes.0 (sym c.in-Ok.ensures.bound.1) in
    let same = front_told c.read.new.buf q c.min-allowed.result c.in-Ok.count read.1 (omega (arith, c.min-allowed.ensures)) in
    let heard = rw c.in-Ended.is at c.in_ok-hear.ensures.heard start limits m h at holds in
    let longer = heard_longer c.lines_stay.ensures.stay _ limits _ _ _ _ _ _ _ m h _ (drop c.min-allowed.result q) tt (heard_weaker _ limits nothing_beyond (PassesRoom limits room h q) _ _ _ _ _ _ m h _ (λ answered full none. absurd none) heard) in
    let whole : take c.min-allowed.result c.read.new.buf ++ drop c.min-allowed.result q ≡ q = rw same (take-append-drop c.min-allowed.result q) in
    subst (λ (xs : List ℕ). Heard (kind_of g.R.Reducer.mode c.args.takes (g.K.Saves.holds start limits)) limits (PassesRoom limits room h q) c.hear.new.cut c.hear.new.session.engine (g.L.Source.left c.hear.new.log) (g.O.Sink.written c.args.out.now) (g.O.Sink.written c.hear.new.out) (Ok turn.Ended) m h xs) whole longer

pub returns-else-allowed-count-clause-heard : goal.returns-else-allowed-count-clause-heard
returns-else-allowed-count-clause-heard g c = λ start m h q at holds told.
    let limits = c.args.limits.now in
    let room = limits.input - c.args.heard in
    let read = told_read _ _ q _ c.in-Ok.count told c.in-Ok.ensures.bytes.0 (sym c.in-Ok.ensures.bound.1) in
    let all : c.min-allowed.result ≡ c.in-Ok.count = omega (arith, c.min-allowed.ensures) in
    let same = front_told c.read.new.buf q c.min-allowed.result c.in-Ok.count read.1 (omega (arith, c.min-allowed.ensures)) in
    let heard = rw c.in-More.is at c.in_ok-hear.ensures.heard start limits m h at holds in
    let weaker = heard_weaker _ limits nothing_beyond (PassesRoom limits room h q) _ _ _ _ _ _ m h _ (λ answered full none. absurd none) heard in
    let whole : take c.min-allowed.result c.read.new.buf ≡ take c.in-Ok.count q = same ∙ ap (λ (n : ℕ). take n q) all in
    subst (λ (xs : List ℕ). Heard (kind_of g.R.Reducer.mode c.args.takes (g.K.Saves.holds start limits)) limits (PassesRoom limits room h q) c.hear.new.cut c.hear.new.session.engine (g.L.Source.left c.hear.new.log) (g.O.Sink.written c.args.out.now) (g.O.Sink.written c.hear.new.out) (Ok turn.More) m h xs) whole weaker

pub returns-in-Ended-clause-closes : goal.returns-in-Ended-clause-closes
returns-in-Ended-clause-closes g c = λ start m h q at holds told.
    let limits = c.args.limits.now in
    let read = told_read _ _ q _ c.in-Ok.count told c.in-Ok.ensures.bytes.0 (sym c.in-Ok.ensures.bound.1) in
    let same = front_told c.read.new.buf q c.min-allowed.result c.in-Ok.count read.1 (omega (arith, c.min-allowed.ensures)) in
    let heard = rw c.in-Ended.is at c.in_ok-hear.ensures.heard start limits m h at holds in
    questions_closed c.lines_stay.ensures.stay _ limits _ _ _ _ _ m h _ q c.min-allowed.result (limits.input - c.args.heard) same (no_more _ _ _ c.min-allowed.ensures) heard

pub returns-in-Ended-clause-left : goal.returns-in-Ended-clause-left
returns-in-Ended-clause-left g c = λ q told.
    let read = told_read _ _ q _ c.in-Ok.count told c.in-Ok.ensures.bytes.0 (sym c.in-Ok.ensures.bound.1) in
    (c.in-Ok.count, omega (arith, c.in-Ok.ensures.bound.0, c.read.auto.buf, c.requires.room), read.0)

pub returns-then-count-eq0-clause-left : goal.returns-then-count-eq0-clause-left
returns-then-count-eq0-clause-left g c = λ q told.
    let read = told_read _ _ q _ c.in-Ok.count told c.in-Ok.ensures.bytes.0 (sym c.in-Ok.ensures.bound.1) in
    let none : q ≡ [] = search rules in
    (none, read.0 ∙ ap (λ (n : ℕ). Some (drop n q)) c.if-count-eq0.true)

pub returns-in-Err-clause-ends : goal.returns-in-Err-clause-ends
returns-in-Err-clause-ends g c = λ start m h at holds.
    cut_short g.K.Rows.alike g.K.Saves.can g.K.Saves.holds g.K.Saves.ends g.K.Saves.uses g.K.Saves.rose c.saves_lawfully.ensures start c.args.limits.now g.R.Reducer.mode c.args.takes c.args.session.now.engine _
    c.args.session.now.engine.joined.keep m halt.ReadFault read_names (g.met.K.Rows.goes_along.same c.args.session.now.engine.joined.keep) at

pub returns-then-allowed-count-clause-ends : goal.returns-then-allowed-count-clause-ends
returns-then-allowed-count-clause-ends g c = λ start m h at holds.
    let heard = rw c.in-More.is at c.in_ok-hear.ensures.heard start c.args.limits.now m h at holds in
    cut_short g.K.Rows.alike g.K.Saves.can g.K.Saves.holds g.K.Saves.ends g.K.Saves.uses g.K.Saves.rose c.saves_lawfully.ensures start c.args.limits.now g.R.Reducer.mode c.args.takes c.hear.new.session.engine _
    c.hear.new.session.engine.joined.keep heard.talked.to (halt.Full (input_full c.args.limits.now)) (input_names (input_full c.args.limits.now)) (g.met.K.Rows.goes_along.same c.hear.new.session.engine.joined.keep) heard.talked.at

pub returns-in-Err-clause-lacks : goal.returns-in-Err-clause-lacks
returns-in-Err-clause-lacks g c = λ start m h at holds was.
    lacks_halted g.K.Rows.alike g.K.Saves.lacks c.lacks_lawfully.ensures start c.args.limits.now g.R.Reducer.mode c.args.session.now.engine.joined.keep _ c.args.session.now.unsaved c.args.session.now.batch c.args.session.now.few was

pub returns-in_err-hear-clause-lacks : goal.returns-in_err-hear-clause-lacks
returns-in_err-hear-clause-lacks g c = λ start m h at holds was.
    let p = err_from_is_err_and c.from_residual.result c.from_residual.ensures.1 in
    rw p.1 (c.in_err-hear.ensures.lacks start c.args.limits.now m h at holds was)

pub returns-then-allowed-count-clause-lacks : goal.returns-then-allowed-count-clause-lacks
returns-then-allowed-count-clause-lacks g c = λ start m h at holds was.
    let session = c.hear.new.session in
    let few = session.few in
    let batch = c.hear.ensures.batch in
    lacks_halted g.K.Rows.alike g.K.Saves.lacks c.lacks_lawfully.ensures start c.args.limits.now g.R.Reducer.mode session.engine.joined.keep _ session.unsaved c.args.session.now.batch (omega (arith, few, batch))
    (c.in_ok-hear.ensures.lacks start c.args.limits.now m h at holds was)

pub returns-in-Err-clause-adds : goal.returns-in-Err-clause-adds
returns-in-Err-clause-adds g c = λ start m h q most at holds told pace.
    let keep = c.args.session.now.engine.joined.keep in
    pace_halted (g.K.Saves.adds start c.args.limits.now) c.args.session.now.batch keep keep c.args.session.now.unsaved (g.L.Source.left c.args.log.now) most _ (λ n so. so) pace

pub returns-then-count-eq0-clause-adds : goal.returns-then-count-eq0-clause-adds
returns-then-count-eq0-clause-adds g c = λ start m h q most at holds told pace.
    let keep = c.args.session.now.engine.joined.keep in
    pace_free (g.K.Saves.adds start c.args.limits.now) c.args.session.now.batch keep keep c.args.session.now.unsaved (g.L.Source.left c.args.log.now) most _ (λ n so. so) pace

pub returns-in_err-hear-clause-adds : goal.returns-in_err-hear-clause-adds
returns-in_err-hear-clause-adds g c = λ start m h q most at holds told pace.
    let p = err_from_is_err_and c.from_residual.result c.from_residual.ensures.1 in
    let limits = c.args.limits.now in
    let read = told_read _ _ q _ c.in-Ok.count told c.in-Ok.ensures.bytes.0 (sym c.in-Ok.ensures.bound.1) in
    let same = front_told c.read.new.buf q c.min-allowed.result c.in-Ok.count read.1 (omega (arith, c.min-allowed.ensures)) in
    let part = take c.min-allowed.result c.read.new.buf in
    let rest = drop c.min-allowed.result q in
    let whole : part ++ rest ≡ q = rw same (take-append-drop c.min-allowed.result q) in
    let longer = subst (λ (xs : List ℕ). settles_since limits h part ≤ settles_since limits h xs) whole (since_longer c.lines_stay.ensures.stay limits h part rest) in
    let batch = c.args.session.now.batch in
    let keep = c.hear.new.session.engine.joined.keep in
    let left = g.L.Source.left c.hear.new.log in
    rw p.1 (pace_up (g.K.Saves.adds start c.args.limits.now) batch keep 0 left most (settles_since limits h part) (settles_since limits h q) longer (c.in_err-hear.ensures.adds start limits m h most at holds pace))

pub returns-then-allowed-count-clause-adds : goal.returns-then-allowed-count-clause-adds
returns-then-allowed-count-clause-adds g c = λ start m h q most at holds told pace.
    let limits = c.args.limits.now in
    let read = told_read _ _ q _ c.in-Ok.count told c.in-Ok.ensures.bytes.0 (sym c.in-Ok.ensures.bound.1) in
    let same = front_told c.read.new.buf q c.min-allowed.result c.in-Ok.count read.1 (omega (arith, c.min-allowed.ensures)) in
    let part = take c.min-allowed.result c.read.new.buf in
    let rest = drop c.min-allowed.result q in
    let whole : part ++ rest ≡ q = rw same (take-append-drop c.min-allowed.result q) in
    let longer = subst (λ (xs : List ℕ). settles_since limits h part ≤ settles_since limits h xs) whole (since_longer c.lines_stay.ensures.stay limits h part rest) in
    let batch = c.args.session.now.batch in
    let keep = c.hear.new.session.engine.joined.keep in
    let left = g.L.Source.left c.hear.new.log in
    let all = most + settles_since limits h q * batch in
    pace_on (g.K.Saves.adds start c.args.limits.now) batch keep keep c.hear.new.session.unsaved 0 left all all (λ n so. so) (omega arith) (omega arith)
    (pace_up (g.K.Saves.adds start c.args.limits.now) batch keep c.hear.new.session.unsaved left most (settles_since limits h part) (settles_since limits h q) longer (c.in_ok-hear.ensures.adds start limits m h most at holds pace))

pub returns-in-Ended-clause-adds : goal.returns-in-Ended-clause-adds
returns-in-Ended-clause-adds g c = λ start m h q most at holds told pace.
    let limits = c.args.limits.now in
    let read = told_read _ _ q _ c.in-Ok.count told c.in-Ok.ensures.bytes.0 (sym c.in-Ok.ensures.bound.1) in
    let same = front_told c.read.new.buf q c.min-allowed.result c.in-Ok.count read.1 (omega (arith, c.min-allowed.ensures)) in
    let part = take c.min-allowed.result c.read.new.buf in
    let rest = drop c.min-allowed.result q in
    let whole : part ++ rest ≡ q = rw same (take-append-drop c.min-allowed.result q) in
    let longer = subst (λ (xs : List ℕ). settles_since limits h part ≤ settles_since limits h xs) whole (since_longer c.lines_stay.ensures.stay limits h part rest) in
    let batch = c.args.session.now.batch in
    let keep = c.hear.new.session.engine.joined.keep in
    let left = g.L.Source.left c.hear.new.log in
    pace_up (g.K.Saves.adds start c.args.limits.now) batch keep c.hear.new.session.unsaved left most (settles_since limits h part) (settles_since limits h q) longer (c.in_ok-hear.ensures.adds start limits m h most at holds pace)

pub returns-else-allowed-count-clause-adds : goal.returns-else-allowed-count-clause-adds
returns-else-allowed-count-clause-adds g c = λ start m h q most at holds told pace.
    let limits = c.args.limits.now in
    let read = told_read _ _ q _ c.in-Ok.count told c.in-Ok.ensures.bytes.0 (sym c.in-Ok.ensures.bound.1) in
    let all : c.min-allowed.result ≡ c.in-Ok.count = omega (arith, c.min-allowed.ensures) in
    let same = front_told c.read.new.buf q c.min-allowed.result c.in-Ok.count read.1 (omega (arith, c.min-allowed.ensures)) in
    let whole : take c.min-allowed.result c.read.new.buf ≡ take c.in-Ok.count q = same ∙ ap (λ (n : ℕ). take n q) all in
    subst (λ (xs : List ℕ). KeepsPace (g.K.Saves.adds start c.args.limits.now) c.args.session.now.batch c.hear.new.session.engine.joined.keep c.hear.new.session.unsaved (g.L.Source.left c.hear.new.log) (most + settles_since limits h xs * c.args.session.now.batch)) whole
    (c.in_ok-hear.ensures.adds start limits m h most at holds pace)
