use Rattle.std.proofs.Common.{◌≡◌, ◌≤◌, ◌+◌, ◌*◌, ◌-◌, ℕ, List, [], ◌++◌, refl, length, take, drop, sym, subst, arith, rules, ap, ◌∙◌, Ok, Err, Some, inl, inr}
use Rattle.std.proofs.lemmas.List.{drop-drop, length-drop, take-append-drop}
use Rattle.std.proofs.lemmas.Result.{err_from_is_err_and}
use Rattle.std.proofs.Math.Seq.{take-add}
use Rattle.audit_lex.specs.History.{with_bytes}
use Rattle.dialogue.specs.declared.halt.Turn.TheVariants as turn
use Rattle.dialogue.specs.declared.halt.Halt.TheVariants as halt
use Rattle.dialogue.specs.Dialogue.{QuestionsStop, nothing_beyond, asks, lines_in}
use Rattle.dialogue.specs.Course.{kind_of, EndTalked}
use Rattle.dialogue.specs.Hearing.{Heard}
use Rattle.dialogue.specs.Settles.{last_since, settles, settles_since}
use Rattle.dialogue.specs.Saves.{lack_of}
use Rattle.dialogue.specs.Listening.{PassesRoom}
use Rattle.dialogue.proofs.AddLemmas.{pace_at, pace_both, pace_free, pace_halted}
use Rattle.dialogue.proofs.SettleLemmas.{since_all, since_both, since_end}
use Rattle.dialogue.proofs.SaveLemmas.{causes_later, causes_on, cut_short, either_later, memory_names}
use Rattle.dialogue.proofs.StoreLemmas.{rose_too}
use Rattle.dialogue.proofs.HearLemmas.{heard_none, heard_both, heard_more, questions_pass_after, questions_closed_after, no_further, on_ok, whole_lines}
use Rattle.dialogue.proofs.TalkLemmas.{carries_none}
use Rattle.dialogue.proofs.ListenLemmas.{end_heard, end_both, ended_early, kept_room}
use Rattle.dialogue.proofs.LackLemmas.{lacks_at_batch, lacks_halted}
use Rattle.dialogue.proofs.listen.watch.Goals as goal

pub loop-buf-init : goal.loop-buf-init
loop-buf-init g c = record {
  within = omega arith;
  room = c.in_ok-buf.ensures;
  lines = omega (arith, c.new-cut.ensures.nothing.count);
  left = λ q told. told;
  part = λ q told. omega arith;
  heard = λ start m q at told. heard_none _ c.args.limits.now nothing_beyond _ _ _ _ m [] at (record { limit = c.new-cut.ensures.limit; stands = c.new-cut.ensures.nothing });
  lacks = λ start m q at told was. was;
  adds = λ start m q most at told pace.
      let keep = c.args.session.now.engine.joined.keep in
      pace_free (g.K.Saves.adds start c.args.limits.now) c.args.session.now.batch keep keep c.args.session.now.unsaved (g.L.Source.left c.args.log.now) most _ (λ n so. so) pace;
  batch = refl;
  can = c.requires.can;
  uses = c.saves_lawfully.ensures.uses_same _ _ (g.met.K.Rows.goes_along.same c.args.session.now.engine.joined.keep);
  alike = λ takes. g.met.K.Rows.goes_along.same c.args.session.now.engine.joined.keep;
  log_up = search rules;
  questions_up = search rules;
  out_up = search rules;
}

pub returns-in_err-count-clause-talked : goal.returns-in_err-count-clause-talked
returns-in_err-count-clause-talked g c = λ start m q at told.
    let p = err_from_is_err_and c.from_residual-in_err-count.result c.from_residual-in_err-count.ensures.1 in
    let n = c.loop-buf.heard in
    let limits = c.args.limits.now in
    let first = c.loop-buf.invariant.heard start m q at told in
    let part = c.loop-buf.invariant.part q told in
    let within = c.loop-buf.invariant.within in
    let second = c.in_err-count.ensures.heard start first.talked.to (with_bytes [] (take n q)) (drop n q) first.talked.at first.holds (c.loop-buf.invariant.left q told) in
    let carries = questions_pass_after _ limits n _ _ _ _ _ m q within part first in
    let both = heard_both _ limits (PassesRoom limits (limits.input - n) (with_bytes [] (take n q)) (drop n q)) (QuestionsStop limits q) _ _ _ _ _ _ _ _ _ _ m [] _ _ first carries second in
    let ended = end_heard c.lines_stay.ensures.stay _ limits (QuestionsStop limits q) _ _ _ _ _ _ m _ tt both in
    rw (p.1, p.2) (subst (λ (xs : List ℕ). EndTalked (kind_of g.R.Reducer.mode c.args.takes (g.K.Saves.holds start limits)) limits (QuestionsStop limits q) c.listen.new.session.engine (g.L.Source.left c.listen.new.log) (g.O.Sink.written c.args.out.now) (g.O.Sink.written c.listen.new.out) (Err c.in_err-count.field-0.0) m (asks limits (lines_in xs))) (take-append-drop n q) ended)

pub loop-buf-preserved : goal.loop-buf-preserved
loop-buf-preserved g c =
    let n = c.loop-buf.heard in
    let k = c.in-Piece.count in
    let progress = rw c.in-Piece.is at c.in_ok-count.ensures.progress in
    let few = rw c.in-Piece.is at c.in_ok-count.ensures.lines in
    let after = λ (q : List ℕ) (told : g.Q.Source.left c.args.questions.now ≡ Some q). (rw c.in-Piece.is at c.in_ok-count.ensures.left (drop n q) (c.loop-buf.invariant.left q told)) in
    record {
      within = omega (arith, progress.1);
      room = (let same = ap length c.as_mut_slice.ensures.value in
          kept_room c.loop-buf.buf.len c.listen.new.buf c.loop-buf.buf.items (omega (arith, c.listen.auto.buf, same, c.loop-buf.invariant.room)) (omega (arith, c.loop-buf.buf.ok.0, c.loop-buf.invariant.room)));
      lines = few;
      left = λ q told. rw (← drop-drop k n q) ((after q told).0);
      part = λ q told. omega (arith, (after q told).1, length-drop n q, c.loop-buf.invariant.part q told);
      heard = λ start m q at told.
          let limits = c.args.limits.now in
          let first = c.loop-buf.invariant.heard start m q at told in
          let second = rw c.in-Piece.is at c.in_ok-count.ensures.heard start first.talked.to (with_bytes [] (take n q)) (drop n q) first.talked.at first.holds (c.loop-buf.invariant.left q told) in
          let more = heard_more _ limits (PassesRoom limits (limits.input - n) (with_bytes [] (take n q)) (drop n q)) nothing_beyond _ _ _ _ _ _ _ _ second in
          let both = heard_both _ limits nothing_beyond nothing_beyond _ _ _ _ _ _ _ _ _ _ m [] _ _ first (carries_none (asks limits first.answered) nothing_beyond) more in
          subst (λ (xs : List ℕ). Heard (kind_of g.R.Reducer.mode c.args.takes (g.K.Saves.holds start limits)) limits nothing_beyond c.listen.new.cut c.listen.new.session.engine (g.L.Source.left c.listen.new.log) (g.O.Sink.written c.args.out.now) (g.O.Sink.written c.listen.new.out) (Ok turn.More) m [] xs) (sym (take-add n k q)) both;
      lacks = λ start m q at told was.
          let first = c.loop-buf.invariant.heard start m q at told in
          c.in_ok-count.ensures.lacks start first.talked.to _ first.talked.at first.holds (c.loop-buf.invariant.lacks start m q at told was);
      adds = λ start m q most at told pace.
          let limits = c.args.limits.now in
          let first = c.loop-buf.invariant.heard start m q at told in
          let batch = c.args.session.now.batch in
          let session = c.loop-buf.session in
          let front = take n q in
          let part = take k (drop n q) in
          let some = settles_since limits [] front in
          let before = pace_at (g.K.Saves.adds start c.args.limits.now) batch session.batch session.engine.joined.keep session.unsaved (g.L.Source.left c.loop-buf.log) (most + some * batch) (sym c.loop-buf.invariant.batch) (c.loop-buf.invariant.adds start m q most at told pace) in
          let next = rw c.in-Piece.is at c.in_ok-count.ensures.adds start first.talked.to (with_bytes [] front) (drop n q) (most + some * batch) first.talked.at first.holds (c.loop-buf.invariant.left q told) before in
          let both = since_both c.lines_stay.ensures.stay limits m first.talked.to [] front part first.answered first.talked.course.0 (whole_lines _ limits nothing_beyond _ _ _ _ _ m [] front first) first.talked.course.2 in
          let last = settles_since limits (with_bytes [] front) part in
          let within = subst (λ (xs : List ℕ). some + last ≤ settles_since limits [] xs) (sym (take-add n k q)) both in
          pace_both (g.K.Saves.adds start c.args.limits.now) batch session.batch c.listen.new.session.engine.joined.keep c.listen.new.session.unsaved (g.L.Source.left c.listen.new.log) most some last (settles_since limits [] (take (n + k) q)) c.loop-buf.invariant.batch within next;
      batch = c.listen.ensures.batch ∙ c.loop-buf.invariant.batch;
      can = c.in_ok-count.ensures.can;
      uses = c.saves_lawfully.ensures.uses_both _ _ _ c.loop-buf.invariant.uses c.in_ok-count.ensures.uses;
      alike = λ takes. g.met.K.Rows.goes_along.next _ _ _ (c.loop-buf.invariant.alike takes) (c.in_ok-count.ensures.alike takes);
      log_up = search rules;
      questions_up = search rules;
      out_up = search rules;
    }

pub returns-in-Ended-clause-talked : goal.returns-in-Ended-clause-talked
returns-in-Ended-clause-talked g c = λ start m q at told.
    let n = c.loop-buf.heard in
    let limits = c.args.limits.now in
    let part = c.loop-buf.invariant.part q told in
    let within = c.loop-buf.invariant.within in
    let first = c.loop-buf.invariant.heard start m q at told in
    let second = rw c.in-Ended.is at c.in_ok-count.ensures.heard start first.talked.to (with_bytes [] (take n q)) (drop n q) first.talked.at first.holds (c.loop-buf.invariant.left q told) in
    let carries = questions_pass_after _ limits n _ _ _ _ _ m q within part first in
    let both = heard_both _ limits (PassesRoom limits (limits.input - n) (with_bytes [] (take n q)) (drop n q)) (QuestionsStop limits q) _ _ _ _ _ _ _ _ _ _ m [] _ _ first carries second in
    let ended = end_heard c.lines_stay.ensures.stay _ limits (QuestionsStop limits q) _ _ _ _ _ _ m _ tt both in
    subst (λ (xs : List ℕ). EndTalked (kind_of g.R.Reducer.mode c.args.takes (g.K.Saves.holds start limits)) limits (QuestionsStop limits q) c.listen.new.session.engine (g.L.Source.left c.listen.new.log) (g.O.Sink.written c.args.out.now) (g.O.Sink.written c.listen.new.out) (Ok tt) m (asks limits (lines_in xs))) (take-append-drop n q) ended

pub returns-in-Silence-clause-talked : goal.returns-in-Silence-clause-talked
returns-in-Silence-clause-talked g c = λ start m q at told.
    let n = c.loop-buf.heard in
    let limits = c.args.limits.now in
    let first = c.loop-buf.invariant.heard start m q at told in
    let second = rw c.in-Silence.is at c.in_ok-count.ensures.heard start first.talked.to (with_bytes [] (take n q)) (drop n q) first.talked.at first.holds (c.loop-buf.invariant.left q told) in
    let none = (rw c.in-Silence.is at c.in_ok-count.ensures.left (drop n q) (c.loop-buf.invariant.left q told)).0 in
    let more = heard_more _ limits (PassesRoom limits (limits.input - n) (with_bytes [] (take n q)) (drop n q)) nothing_beyond _ _ _ _ _ _ _ _ second in
    let both = heard_both _ limits nothing_beyond nothing_beyond _ _ _ _ _ _ _ _ _ _ m [] _ _ first (carries_none (asks limits first.answered) nothing_beyond) more in
    let ended = end_both _ limits (QuestionsStop limits q) _ _ _ _ _ _ _ _ _ m _ both (c.finish.ensures.heard start limits both.talked.to _ both.talked.at both.holds) in
    let same : take n q ++ [] ≡ q = ap (λ (xs : List ℕ). take n q ++ xs) (sym none) ∙ take-append-drop n q in
    subst (λ (xs : List ℕ). EndTalked (kind_of g.R.Reducer.mode c.args.takes (g.K.Saves.holds start limits)) limits (QuestionsStop limits q) c.finish.new.session.engine (g.L.Source.left c.finish.new.log) (g.O.Sink.written c.args.out.now) (g.O.Sink.written c.finish.new.out) c.finish.result m (asks limits (lines_in xs))) same ended

pub returns-in-Ended-clause-within : goal.returns-in-Ended-clause-within
returns-in-Ended-clause-within g c = λ start m q at told.
    let n = c.loop-buf.heard in
    let first = c.loop-buf.invariant.heard start m q at told in
    let closes = rw c.in-Ended.is at c.in_ok-count.ensures.closes start first.talked.to (with_bytes [] (take n q)) (drop n q) first.talked.at first.holds (c.loop-buf.invariant.left q told) in
    inr (questions_closed_after _ c.args.limits.now n _ _ _ _ _ m q c.loop-buf.invariant.within first closes)

pub returns-in-Silence-clause-within : goal.returns-in-Silence-clause-within
returns-in-Silence-clause-within g c = λ start m q at told.
    let none = (rw c.in-Silence.is at c.in_ok-count.ensures.left (drop c.loop-buf.heard q) (c.loop-buf.invariant.left q told)).0 in
    on_ok c.finish.result _ (inl (omega (arith, ap length none, length-drop c.loop-buf.heard q, c.loop-buf.invariant.within)))

pub returns-in-Ended-clause-left : goal.returns-in-Ended-clause-left
returns-in-Ended-clause-left g c = λ start m q at told.
    let n = c.loop-buf.heard in
    let first = c.loop-buf.invariant.heard start m q at told in
    let left = rw c.in-Ended.is at c.in_ok-count.ensures.left (drop n q) (c.loop-buf.invariant.left q told) in
    no_further _ c.args.limits.now _ _ _ _ _ m q n left.0 _ first left.1 left.2

pub returns-in-Silence-clause-left : goal.returns-in-Silence-clause-left
returns-in-Silence-clause-left g c = λ start m q at told.
    let n = c.loop-buf.heard in
    let first = c.loop-buf.invariant.heard start m q at told in
    let left = rw c.in-Silence.is at c.in_ok-count.ensures.left (drop n q) (c.loop-buf.invariant.left q told) in
    on_ok c.finish.result _ (no_further _ c.args.limits.now _ _ _ _ _ m q n 0 _ first (omega arith) left.1)

pub returns-in_err-buf-clause-talked : goal.returns-in_err-buf-clause-talked
returns-in_err-buf-clause-talked g c = λ start m q at told.
    let p = err_from_is_err_and c.from_residual.result c.from_residual.ensures.1 in
    rw (p.1, p.2) (ended_early _ c.args.limits.now _ _ _ _ halt.NoMemory m _ tt)

pub returns-in_err-count-clause-alike : goal.returns-in_err-count-clause-alike
returns-in_err-count-clause-alike g c = λ takes. g.met.K.Rows.goes_along.next _ _ _ (c.loop-buf.invariant.alike takes) (c.in_err-count.ensures.alike takes)

pub returns-in_err-count-clause-uses : goal.returns-in_err-count-clause-uses
returns-in_err-count-clause-uses g c = c.saves_lawfully.ensures.uses_both _ _ _ c.loop-buf.invariant.uses c.in_err-count.ensures.uses

pub returns-in-Ended-clause-alike : goal.returns-in-Ended-clause-alike
returns-in-Ended-clause-alike g c = λ takes. g.met.K.Rows.goes_along.next _ _ _ (c.loop-buf.invariant.alike takes) (c.in_ok-count.ensures.alike takes)

pub returns-in-Ended-clause-uses : goal.returns-in-Ended-clause-uses
returns-in-Ended-clause-uses g c = c.saves_lawfully.ensures.uses_both _ _ _ c.loop-buf.invariant.uses c.in_ok-count.ensures.uses

pub returns-in-Silence-clause-alike : goal.returns-in-Silence-clause-alike
returns-in-Silence-clause-alike g c = λ takes.
    g.met.K.Rows.goes_along.next _ _ _ (c.loop-buf.invariant.alike takes) (g.met.K.Rows.goes_along.next _ _ _ (c.in_ok-count.ensures.alike takes) (c.finish.ensures.alike takes))

pub returns-in-Silence-clause-uses : goal.returns-in-Silence-clause-uses
returns-in-Silence-clause-uses g c =
    c.saves_lawfully.ensures.uses_both _ _ _ c.loop-buf.invariant.uses (c.saves_lawfully.ensures.uses_both _ _ _ c.in_ok-count.ensures.uses c.finish.ensures.uses)

pub returns-in_err-buf-clause-uses : goal.returns-in_err-buf-clause-uses
returns-in_err-buf-clause-uses g c = c.saves_lawfully.ensures.uses_same _ _ (g.met.K.Rows.goes_along.same c.args.session.now.engine.joined.keep)

pub returns-in_err-buf-clause-ends : goal.returns-in_err-buf-clause-ends
returns-in_err-buf-clause-ends g c = λ start m q at told.
    let p = err_from_is_err_and c.from_residual.result c.from_residual.ensures.1 in
    rw (p.1, p.2) (cut_short g.K.Rows.alike g.K.Saves.can g.K.Saves.holds g.K.Saves.ends g.K.Saves.uses g.K.Saves.rose c.saves_lawfully.ensures start c.args.limits.now g.R.Reducer.mode c.args.takes c.args.session.now.engine _
    c.args.session.now.engine.joined.keep m halt.NoMemory memory_names (g.met.K.Rows.goes_along.same c.args.session.now.engine.joined.keep) at)

pub returns-in_err-count-clause-ends : goal.returns-in_err-count-clause-ends
returns-in_err-count-clause-ends g c = λ start m q at told.
    let p = err_from_is_err_and c.from_residual-in_err-count.result c.from_residual-in_err-count.ensures.1 in
    let first = c.loop-buf.invariant.heard start m q at told in
    rw (p.1, p.2) (c.in_err-count.ensures.ends start first.talked.to _ first.talked.at first.holds)

pub returns-in-Silence-clause-ends : goal.returns-in-Silence-clause-ends
returns-in-Silence-clause-ends g c = λ start m q at told.
    let first = c.loop-buf.invariant.heard start m q at told in
    let second = rw c.in-Silence.is at c.in_ok-count.ensures.heard start first.talked.to _ (drop c.loop-buf.heard q) first.talked.at first.holds (c.loop-buf.invariant.left q told) in
    c.finish.ensures.ends start c.args.limits.now second.talked.to second.talked.at

pub returns-in_err-count-clause-causes : goal.returns-in_err-count-clause-causes
returns-in_err-count-clause-causes g c =
    let p = err_from_is_err_and c.from_residual-in_err-count.result c.from_residual-in_err-count.ensures.1 in
    rw (p.1, p.2) (causes_later _ _ _ _ _ _ _ _ _ c.in_err-count.field-0.0
    (either_later _ _ _ _ (rose_too _ _ _ _ c.loop-buf.invariant.log_up.later) (rose_too _ _ _ _ c.loop-buf.invariant.questions_up.later))
    (rose_too _ _ _ _ c.loop-buf.invariant.out_up.later) (c.saves_lawfully.ensures.rose_after _ _ _ c.loop-buf.invariant.uses)
    (c.reads_lawfully.ensures.before _ _ c.loop-buf.invariant.uses) c.in_err-count.ensures.causes)

pub returns-in-Silence-clause-causes : goal.returns-in-Silence-clause-causes
returns-in-Silence-clause-causes g c =
    let log = c.in_ok-count.ensures.log.later in
    let out = c.in_ok-count.ensures.out.later in
    let log_before = c.loop-buf.invariant.log_up.later in
    let out_before = c.loop-buf.invariant.out_up.later in
    let uses = c.saves_lawfully.ensures.uses_both _ _ _ c.loop-buf.invariant.uses c.in_ok-count.ensures.uses in
    causes_on _ _ _ _ _ _ _ _ _ c.finish.result (λ rose. inl (rose_too _ _ _ _ (omega (arith, log, log_before)) rose)) (rose_too _ _ _ _ (omega (arith, out, out_before)))
    (c.saves_lawfully.ensures.rose_after _ _ _ uses) (c.reads_lawfully.ensures.before _ _ uses) c.finish.ensures.causes

pub returns-in_err-buf-clause-lacks : goal.returns-in_err-buf-clause-lacks
returns-in_err-buf-clause-lacks g c = λ start m q at told was.
    let p = err_from_is_err_and c.from_residual.result c.from_residual.ensures.1 in
    rw p.1 (lacks_halted g.K.Rows.alike g.K.Saves.lacks c.lacks_lawfully.ensures start c.args.limits.now g.R.Reducer.mode c.args.session.now.engine.joined.keep _ c.args.session.now.unsaved c.args.session.now.batch c.args.session.now.few was)

pub returns-in_err-count-clause-lacks : goal.returns-in_err-count-clause-lacks
returns-in_err-count-clause-lacks g c = λ start m q at told was.
    let p = err_from_is_err_and c.from_residual-in_err-count.result c.from_residual-in_err-count.ensures.1 in
    let first = c.loop-buf.invariant.heard start m q at told in
    rw p.1 (subst (λ (b : ℕ). g.K.Saves.lacks start c.args.limits.now g.R.Reducer.mode c.listen.new.session.engine.joined.keep (g.L.Source.left c.listen.new.log) b) c.loop-buf.invariant.batch
    (c.in_err-count.ensures.lacks start first.talked.to _ first.talked.at first.holds (c.loop-buf.invariant.lacks start m q at told was)))

pub returns-in-Ended-clause-lacks : goal.returns-in-Ended-clause-lacks
returns-in-Ended-clause-lacks g c = λ start m q at told was.
    let first = c.loop-buf.invariant.heard start m q at told in
    c.in_ok-count.ensures.lacks start first.talked.to _ first.talked.at first.holds (c.loop-buf.invariant.lacks start m q at told was)

pub returns-in-Silence-clause-lacks : goal.returns-in-Silence-clause-lacks
returns-in-Silence-clause-lacks g c = λ start m q at told was.
    let first = c.loop-buf.invariant.heard start m q at told in
    let second = rw c.in-Silence.is at c.in_ok-count.ensures.heard start first.talked.to _ (drop c.loop-buf.heard q) first.talked.at first.holds (c.loop-buf.invariant.left q told) in
    let batch = c.listen.ensures.batch ∙ c.loop-buf.invariant.batch in
    lacks_at_batch g.K.Saves.lacks start c.args.limits.now g.R.Reducer.mode c.finish.new.session.engine.joined.keep _ c.finish.result c.finish.new.session.unsaved _ _ batch
    (c.finish.ensures.lacks start c.args.limits.now second.talked.to second.talked.at (c.in_ok-count.ensures.lacks start first.talked.to _ first.talked.at first.holds (c.loop-buf.invariant.lacks start m q at told was)))

pub returns-in_err-buf-clause-adds : goal.returns-in_err-buf-clause-adds
returns-in_err-buf-clause-adds g c = λ start m q most at told pace.
    let p = err_from_is_err_and c.from_residual.result c.from_residual.ensures.1 in
    let keep = c.args.session.now.engine.joined.keep in
    rw p.1 (pace_halted (g.K.Saves.adds start c.args.limits.now) c.args.session.now.batch keep keep c.args.session.now.unsaved (g.L.Source.left c.args.log.now) most _ (λ n so. so) pace)

pub returns-in_err-count-clause-adds : goal.returns-in_err-count-clause-adds
returns-in_err-count-clause-adds g c = λ start m q most at told pace.
    let p = err_from_is_err_and c.from_residual-in_err-count.result c.from_residual-in_err-count.ensures.1 in
    let limits = c.args.limits.now in
    let n = c.loop-buf.heard in
    let first = c.loop-buf.invariant.heard start m q at told in
    let batch = c.args.session.now.batch in
    let session = c.loop-buf.session in
    let front = take n q in
    let part = drop n q in
    let some = settles_since limits [] front in
    let before = pace_at (g.K.Saves.adds start c.args.limits.now) batch session.batch session.engine.joined.keep session.unsaved (g.L.Source.left c.loop-buf.log) (most + some * batch) (sym c.loop-buf.invariant.batch) (c.loop-buf.invariant.adds start m q most at told pace) in
    let next = c.in_err-count.ensures.adds start first.talked.to (with_bytes [] front) (drop n q) (most + some * batch) first.talked.at first.holds (c.loop-buf.invariant.left q told) before in
    let both = since_both c.lines_stay.ensures.stay limits m first.talked.to [] front part first.answered first.talked.course.0 (whole_lines _ limits nothing_beyond _ _ _ _ _ m [] front first) first.talked.course.2 in
    let last = settles_since limits (with_bytes [] front) part in
    let all = since_all c.lines_stay.ensures.stay limits q in
    let whole = subst (λ (xs : List ℕ). some + last ≤ settles_since limits [] xs) (take-append-drop n q) both in
    rw p.1 (pace_both (g.K.Saves.adds start c.args.limits.now) batch session.batch c.listen.new.session.engine.joined.keep 0 (g.L.Source.left c.listen.new.log) most some last (settles (asks limits (lines_in q))) c.loop-buf.invariant.batch (omega (arith, whole, all)) next)

pub returns-in-Ended-clause-adds : goal.returns-in-Ended-clause-adds
returns-in-Ended-clause-adds g c = λ start m q most at told pace.
    let limits = c.args.limits.now in
    let n = c.loop-buf.heard in
    let first = c.loop-buf.invariant.heard start m q at told in
    let batch = c.args.session.now.batch in
    let session = c.loop-buf.session in
    let front = take n q in
    let part = drop n q in
    let some = settles_since limits [] front in
    let before = pace_at (g.K.Saves.adds start c.args.limits.now) batch session.batch session.engine.joined.keep session.unsaved (g.L.Source.left c.loop-buf.log) (most + some * batch) (sym c.loop-buf.invariant.batch) (c.loop-buf.invariant.adds start m q most at told pace) in
    let next = rw c.in-Ended.is at c.in_ok-count.ensures.adds start first.talked.to (with_bytes [] front) (drop n q) (most + some * batch) first.talked.at first.holds (c.loop-buf.invariant.left q told) before in
    let both = since_both c.lines_stay.ensures.stay limits m first.talked.to [] front part first.answered first.talked.course.0 (whole_lines _ limits nothing_beyond _ _ _ _ _ m [] front first) first.talked.course.2 in
    let last = settles_since limits (with_bytes [] front) part in
    let all = since_all c.lines_stay.ensures.stay limits q in
    let whole = subst (λ (xs : List ℕ). some + last ≤ settles_since limits [] xs) (take-append-drop n q) both in
    pace_both (g.K.Saves.adds start c.args.limits.now) batch session.batch c.listen.new.session.engine.joined.keep c.listen.new.session.unsaved (g.L.Source.left c.listen.new.log) most some last (settles (asks limits (lines_in q))) c.loop-buf.invariant.batch (omega (arith, whole, all)) next

pub returns-in-Silence-clause-adds : goal.returns-in-Silence-clause-adds
returns-in-Silence-clause-adds g c = λ start m q most at told pace.
    let limits = c.args.limits.now in
    let n = c.loop-buf.heard in
    let first = c.loop-buf.invariant.heard start m q at told in
    let batch = c.args.session.now.batch in
    let session = c.loop-buf.session in
    let front = take n q in
    let part = [] in
    let some = settles_since limits [] front in
    let before = pace_at (g.K.Saves.adds start c.args.limits.now) batch session.batch session.engine.joined.keep session.unsaved (g.L.Source.left c.loop-buf.log) (most + some * batch) (sym c.loop-buf.invariant.batch) (c.loop-buf.invariant.adds start m q most at told pace) in
    let next = rw c.in-Silence.is at c.in_ok-count.ensures.adds start first.talked.to (with_bytes [] front) (drop n q) (most + some * batch) first.talked.at first.holds (c.loop-buf.invariant.left q told) before in
    let both = since_both c.lines_stay.ensures.stay limits m first.talked.to [] front part first.answered first.talked.course.0 (whole_lines _ limits nothing_beyond _ _ _ _ _ m [] front first) first.talked.course.2 in
    let last = settles_since limits (with_bytes [] front) part in
    let none = (rw c.in-Silence.is at c.in_ok-count.ensures.left (drop n q) (c.loop-buf.invariant.left q told)).0 in
    let second = rw c.in-Silence.is at c.in_ok-count.ensures.heard start first.talked.to (with_bytes [] (take n q)) (drop n q) first.talked.at first.holds (c.loop-buf.invariant.left q told) in
    let more = heard_more _ limits (PassesRoom limits (limits.input - n) (with_bytes [] (take n q)) (drop n q)) nothing_beyond _ _ _ _ _ _ _ _ second in
    let heard = heard_both _ limits nothing_beyond nothing_beyond _ _ _ _ _ _ _ _ _ _ m [] _ _ first (carries_none (asks limits first.answered) nothing_beyond) more in
    let same : front ++ [] ≡ q = ap (λ (xs : List ℕ). front ++ xs) (sym none) ∙ take-append-drop n q in
    let batch2 = c.listen.ensures.batch ∙ c.loop-buf.invariant.batch in
    let whole = settles_since limits [] (front ++ []) in
    let listened = pace_both (g.K.Saves.adds start c.args.limits.now) batch session.batch c.listen.new.session.engine.joined.keep c.listen.new.session.unsaved (g.L.Source.left c.listen.new.log) most some last whole c.loop-buf.invariant.batch both next in
    let here = pace_at (g.K.Saves.adds start c.args.limits.now) batch c.listen.new.session.batch c.listen.new.session.engine.joined.keep c.listen.new.session.unsaved (g.L.Source.left c.listen.new.log) (most + whole * batch) (sym batch2) listened in
    let finished = c.finish.ensures.adds start limits heard.talked.to (with_bytes [] (front ++ [])) (most + whole * batch) heard.talked.at heard.holds here in
    let end = since_end c.lines_stay.ensures.stay limits m heard.talked.to (front ++ []) heard.answered heard.talked.course.0 (whole_lines _ limits nothing_beyond _ _ _ _ _ m [] (front ++ []) heard) heard.talked.course.2 in
    let all = subst (λ (xs : List ℕ). whole + settles (asks limits (last_since (with_bytes [] (front ++ [])))) ≤ settles (asks limits (lines_in xs))) same end in
    pace_both (g.K.Saves.adds start c.args.limits.now) batch c.listen.new.session.batch c.finish.new.session.engine.joined.keep (lack_of c.finish.result c.finish.new.session.unsaved 0) (g.L.Source.left c.finish.new.log) most whole (settles (asks limits (last_since (with_bytes [] (front ++ []))))) (settles (asks limits (lines_in q))) batch2 all finished
