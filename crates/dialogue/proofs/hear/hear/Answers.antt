use Rattle.std.proofs.Common.{◌≡◌, ◌≤◌, ◌*◌, ◌+◌, ◌-◌, ℕ, List, ◌++◌, length, take, drop, sym, subst, arith, rules, refl, append_assoc, Ok, Err, ap, ◌∙◌}
use Rattle.std.proofs.lemmas.List.{take-append-drop, take_rest, length-drop, take_all}
use Rattle.std.proofs.lemmas.Result.{err_from_is_err_and}
use Rattle.std.proofs.Math.Seq.{take-add}
use Rattle.dialogue.specs.declared.halt.Turn.TheVariants as turn
use Rattle.dialogue.specs.Dialogue.{nothing_beyond, asks}
use Rattle.dialogue.specs.Course.{kind_of}
use Rattle.dialogue.specs.Hearing.{Heard}
use Rattle.dialogue.specs.Settles.{settles_since}
use Rattle.dialogue.specs.Saves.{KeepsPace}
use Rattle.audit_lex.specs.History.{with_bytes}
use Rattle.dialogue.proofs.AddLemmas.{pace_at, pace_both, pace_free}
use Rattle.dialogue.proofs.SettleLemmas.{since_both, since_longer}
use Rattle.dialogue.proofs.SaveLemmas.{causes_later}
use Rattle.dialogue.proofs.StoreLemmas.{rose_too}
use Rattle.dialogue.proofs.HearLemmas.{heard_none, heard_both, heard_longer, whole_lines}
use Rattle.dialogue.proofs.TalkLemmas.{carries_none}
use Rattle.dialogue.proofs.hear.hear.Goals as goal

pub loop-at-init : goal.loop-at-init
loop-at-init g c = record {
  within = omega arith;
  lines = omega arith;
  heard = λ start limits m h at holds. heard_none _ limits nothing_beyond _ _ _ _ m h at holds;
  lacks = λ start limits m h at holds was. was;
  adds = λ start limits m h most at holds pace.
      let keep = c.args.session.now.engine.joined.keep in
      pace_free (g.K.Saves.adds start limits) c.args.session.now.batch keep keep c.args.session.now.unsaved (g.L.Source.left c.args.log.now) most _ (λ n so. so) pace;
  batch = refl;
  can = c.requires.can;
  uses = c.saves_lawfully.ensures.uses_same _ _ (g.met.K.Rows.goes_along.same c.args.session.now.engine.joined.keep);
  alike = λ takes. g.met.K.Rows.goes_along.same c.args.session.now.engine.joined.keep;
  log = search rules;
  out = search rules;
}

pub returns-in_err-count-clause-heard : goal.returns-in_err-count-clause-heard
returns-in_err-count-clause-heard g c = λ start limits m h at holds.
    let p = err_from_is_err_and c.from_residual.result c.from_residual.ensures.1 in
    let piece = c.args.piece.now in
    let first = c.loop-at.invariant.heard start limits m h at holds in
    let second = c.in_err-count.ensures.heard start limits first.talked.to _ first.talked.at first.holds in
    let both = heard_both _ limits nothing_beyond nothing_beyond _ _ _ _ _ _ _ _ _ _ m h _ _ first (carries_none (asks limits first.answered) nothing_beyond) second in
    let whole = ap (λ (xs : List ℕ). take c.loop-at.at piece ++ xs) (take_rest piece c.loop-at.at) ∙ take-append-drop c.loop-at.at piece in
    rw (p.1, p.2) (subst (λ (xs : List ℕ). Heard (kind_of g.R.Reducer.mode c.args.takes (g.K.Saves.holds start limits)) limits nothing_beyond c.hear_line.new.cut c.hear_line.new.session.engine (g.L.Source.left c.hear_line.new.log) (g.O.Sink.written c.args.out.now) (g.O.Sink.written c.hear_line.new.out) (Err c.in_err-count.field-0.0) m h xs)
    whole both)

pub returns-in-Ended-clause-heard : goal.returns-in-Ended-clause-heard
returns-in-Ended-clause-heard g c = λ start limits m h at holds.
    let piece = c.args.piece.now in
    let n = c.in_ok-count.count in
    let first = c.loop-at.invariant.heard start limits m h at holds in
    let second = rw c.in-Ended.is at c.in_ok-count.ensures.heard start limits first.talked.to _ first.talked.at first.holds in
    let both = heard_both _ limits nothing_beyond nothing_beyond _ _ _ _ _ _ _ _ _ _ m h _ _ first (carries_none (asks limits first.answered) nothing_beyond) second in
    let longer = heard_longer c.lines_stay.ensures.stay _ limits nothing_beyond _ _ _ _ _ _ m h _ (drop n (drop c.loop-at.at piece)) tt both in
    let slice = take_rest piece c.loop-at.at in
    let whole : take c.loop-at.at piece ++ take n (take (length piece - c.loop-at.at) (drop c.loop-at.at piece)) ++ drop n (drop c.loop-at.at piece) ≡ piece =
    rw (slice, append_assoc, take-append-drop, take-append-drop) refl in
    subst (λ (xs : List ℕ). Heard (kind_of g.R.Reducer.mode c.args.takes (g.K.Saves.holds start limits)) limits nothing_beyond c.hear_line.new.cut c.hear_line.new.session.engine (g.L.Source.left c.hear_line.new.log) (g.O.Sink.written c.args.out.now) (g.O.Sink.written c.hear_line.new.out) (Ok turn.Ended) m h xs) whole longer

pub loop-at-preserved : goal.loop-at-preserved
loop-at-preserved g c =
    let piece = c.args.piece.now in
    let n = c.in_ok-count.count in
    let slice = take_rest piece c.loop-at.at in
    let long = ap length slice ∙ length-drop c.loop-at.at piece in
    record {
      within = omega (arith, c.in_ok-count.ensures.taken, long);
      lines = omega (arith, c.in_ok-count.ensures.lines, c.loop-at.invariant.lines);
      heard = λ start limits m h at holds.
          let first = c.loop-at.invariant.heard start limits m h at holds in
          let second = rw c.in-More.is at c.in_ok-count.ensures.heard start limits first.talked.to _ first.talked.at first.holds in
          let both = heard_both _ limits nothing_beyond nothing_beyond _ _ _ _ _ _ _ _ _ _ m h _ _ first (carries_none (asks limits first.answered) nothing_beyond) second in
          let whole : take c.loop-at.at piece ++ take n (take (length piece - c.loop-at.at) (drop c.loop-at.at piece)) ≡ take (c.loop-at.at + n) piece = rw slice (sym (take-add c.loop-at.at n piece)) in
          subst (λ (xs : List ℕ). Heard (kind_of g.R.Reducer.mode c.args.takes (g.K.Saves.holds start limits)) limits nothing_beyond c.hear_line.new.cut c.hear_line.new.session.engine (g.L.Source.left c.hear_line.new.log) (g.O.Sink.written c.args.out.now) (g.O.Sink.written c.hear_line.new.out) (Ok turn.More) m h xs) whole both;
      lacks = λ start limits m h at holds was.
          let first = c.loop-at.invariant.heard start limits m h at holds in
          c.in_ok-count.ensures.lacks start limits first.talked.to first.talked.at (c.loop-at.invariant.lacks start limits m h at holds was);
      adds = λ start limits m h most at holds pace.
          let first = c.loop-at.invariant.heard start limits m h at holds in
          let piece = c.args.piece.now in
          let batch = c.args.session.now.batch in
          let session = c.loop-at.session in
          let front = take c.loop-at.at piece in
          let part = take n (take (length piece - c.loop-at.at) (drop c.loop-at.at piece)) in
          let some = settles_since limits h front in
          let before = pace_at (g.K.Saves.adds start limits) batch session.batch session.engine.joined.keep session.unsaved (g.L.Source.left c.loop-at.log) (most + some * batch) (sym c.loop-at.invariant.batch) (c.loop-at.invariant.adds start limits m h most at holds pace) in
          let next = c.in_ok-count.ensures.adds start limits first.talked.to (with_bytes h front) (most + some * batch) first.talked.at first.holds before in
          let both = since_both c.lines_stay.ensures.stay limits m first.talked.to h front part first.answered first.talked.course.0 (whole_lines _ limits nothing_beyond _ _ _ _ _ m h front first) first.talked.course.2 in
          let last = settles_since limits (with_bytes h front) part in
          let same : front ++ part ≡ take (c.loop-at.at + n) piece = rw slice (sym (take-add c.loop-at.at n piece)) in
          let within = subst (λ (xs : List ℕ). some + last ≤ settles_since limits h xs) same both in
          pace_both (g.K.Saves.adds start limits) batch session.batch c.hear_line.new.session.engine.joined.keep c.hear_line.new.session.unsaved (g.L.Source.left c.hear_line.new.log) most some last (settles_since limits h (take (c.loop-at.at + n) piece))
          c.loop-at.invariant.batch within next;
      batch = c.hear_line.ensures.batch ∙ c.loop-at.invariant.batch;
      can = c.in_ok-count.ensures.can;
      uses = c.saves_lawfully.ensures.uses_both _ _ _ c.loop-at.invariant.uses c.in_ok-count.ensures.uses;
      alike = λ takes. g.met.K.Rows.goes_along.next _ _ _ (c.loop-at.invariant.alike takes) (c.in_ok-count.ensures.alike takes);
      log = search rules;
      out = search rules;
    }

pub returns-clause-heard : goal.returns-clause-heard
returns-clause-heard g c = λ start limits m h at holds.
    let whole = take_all c.loop-at.at c.args.piece.now (omega arith) in
    subst (λ (piece : List ℕ). Heard (kind_of g.R.Reducer.mode c.args.takes (g.K.Saves.holds start limits)) limits nothing_beyond c.loop-at.cut c.loop-at.session.engine (g.L.Source.left c.loop-at.log) (g.O.Sink.written c.args.out.now) (g.O.Sink.written c.loop-at.out) (Ok turn.More) m h piece) whole (c.loop-at.invariant.heard start limits m h at holds)

pub returns-in_err-count-clause-alike : goal.returns-in_err-count-clause-alike
returns-in_err-count-clause-alike g c = λ takes. g.met.K.Rows.goes_along.next _ _ _ (c.loop-at.invariant.alike takes) (c.in_err-count.ensures.alike takes)

pub returns-in_err-count-clause-uses : goal.returns-in_err-count-clause-uses
returns-in_err-count-clause-uses g c = c.saves_lawfully.ensures.uses_both _ _ _ c.loop-at.invariant.uses c.in_err-count.ensures.uses

pub returns-in_err-count-clause-causes : goal.returns-in_err-count-clause-causes
returns-in_err-count-clause-causes g c =
    let p = err_from_is_err_and c.from_residual.result c.from_residual.ensures.1 in
    rw (p.1, p.2) (causes_later _ _ _ _ _ _ _ _ _ c.in_err-count.field-0.0 (rose_too _ _ _ _ c.loop-at.invariant.log.later) (rose_too _ _ _ _ c.loop-at.invariant.out.later)
    (c.saves_lawfully.ensures.rose_after _ _ _ c.loop-at.invariant.uses) (c.reads_lawfully.ensures.before _ _ c.loop-at.invariant.uses) c.in_err-count.ensures.causes)

pub returns-in_err-count-clause-ends : goal.returns-in_err-count-clause-ends
returns-in_err-count-clause-ends g c = λ start limits m h at holds.
    let p = err_from_is_err_and c.from_residual.result c.from_residual.ensures.1 in
    let first = c.loop-at.invariant.heard start limits m h at holds in
    rw (p.1, p.2) (c.in_err-count.ensures.ends start limits first.talked.to first.talked.at)

pub returns-in-Ended-clause-alike : goal.returns-in-Ended-clause-alike
returns-in-Ended-clause-alike g c = λ takes. g.met.K.Rows.goes_along.next _ _ _ (c.loop-at.invariant.alike takes) (c.in_ok-count.ensures.alike takes)

pub returns-in-Ended-clause-uses : goal.returns-in-Ended-clause-uses
returns-in-Ended-clause-uses g c = c.saves_lawfully.ensures.uses_both _ _ _ c.loop-at.invariant.uses c.in_ok-count.ensures.uses

pub returns-in_err-count-clause-lacks : goal.returns-in_err-count-clause-lacks
returns-in_err-count-clause-lacks g c = λ start limits m h at holds was.
    let p = err_from_is_err_and c.from_residual.result c.from_residual.ensures.1 in
    let first = c.loop-at.invariant.heard start limits m h at holds in
    rw p.1 (subst (λ (b : ℕ). g.K.Saves.lacks start limits g.R.Reducer.mode c.hear_line.new.session.engine.joined.keep (g.L.Source.left c.hear_line.new.log) b) c.loop-at.invariant.batch
    (c.in_err-count.ensures.lacks start limits first.talked.to first.talked.at (c.loop-at.invariant.lacks start limits m h at holds was)))

pub returns-in-Ended-clause-lacks : goal.returns-in-Ended-clause-lacks
returns-in-Ended-clause-lacks g c = λ start limits m h at holds was.
    let first = c.loop-at.invariant.heard start limits m h at holds in
    c.in_ok-count.ensures.lacks start limits first.talked.to first.talked.at (c.loop-at.invariant.lacks start limits m h at holds was)

pub returns-clause-lacks : goal.returns-clause-lacks
returns-clause-lacks g c = c.loop-at.invariant.lacks

pub returns-in_err-count-clause-adds : goal.returns-in_err-count-clause-adds
returns-in_err-count-clause-adds g c = λ start limits m h most at holds pace.
    let p = err_from_is_err_and c.from_residual.result c.from_residual.ensures.1 in
    let first = c.loop-at.invariant.heard start limits m h at holds in
    let piece = c.args.piece.now in
    let batch = c.args.session.now.batch in
    let session = c.loop-at.session in
    let front = take c.loop-at.at piece in
    let part = take (length piece - c.loop-at.at) (drop c.loop-at.at piece) in
    let some = settles_since limits h front in
    let before = pace_at (g.K.Saves.adds start limits) batch session.batch session.engine.joined.keep session.unsaved (g.L.Source.left c.loop-at.log) (most + some * batch) (sym c.loop-at.invariant.batch) (c.loop-at.invariant.adds start limits m h most at holds pace) in
    let next = c.in_err-count.ensures.adds start limits first.talked.to (with_bytes h front) (most + some * batch) first.talked.at first.holds before in
    let both = since_both c.lines_stay.ensures.stay limits m first.talked.to h front part first.answered first.talked.course.0 (whole_lines _ limits nothing_beyond _ _ _ _ _ m h front first) first.talked.course.2 in
    let last = settles_since limits (with_bytes h front) part in
    let whole : front ++ part ≡ piece = ap (λ (xs : List ℕ). front ++ xs) (take_rest piece c.loop-at.at) ∙ take-append-drop c.loop-at.at piece in
    let within = subst (λ (xs : List ℕ). some + last ≤ settles_since limits h xs) whole both in
    rw p.1 (pace_both (g.K.Saves.adds start limits) batch session.batch c.hear_line.new.session.engine.joined.keep 0 (g.L.Source.left c.hear_line.new.log) most some last (settles_since limits h piece) c.loop-at.invariant.batch within next)

pub returns-in-Ended-clause-adds : goal.returns-in-Ended-clause-adds
returns-in-Ended-clause-adds g c = λ start limits m h most at holds pace.
    let n = c.in_ok-count.count in
    let first = c.loop-at.invariant.heard start limits m h at holds in
    let piece = c.args.piece.now in
    let batch = c.args.session.now.batch in
    let session = c.loop-at.session in
    let front = take c.loop-at.at piece in
    let part = take n (take (length piece - c.loop-at.at) (drop c.loop-at.at piece)) in
    let some = settles_since limits h front in
    let before = pace_at (g.K.Saves.adds start limits) batch session.batch session.engine.joined.keep session.unsaved (g.L.Source.left c.loop-at.log) (most + some * batch) (sym c.loop-at.invariant.batch) (c.loop-at.invariant.adds start limits m h most at holds pace) in
    let next = c.in_ok-count.ensures.adds start limits first.talked.to (with_bytes h front) (most + some * batch) first.talked.at first.holds before in
    let both = since_both c.lines_stay.ensures.stay limits m first.talked.to h front part first.answered first.talked.course.0 (whole_lines _ limits nothing_beyond _ _ _ _ _ m h front first) first.talked.course.2 in
    let last = settles_since limits (with_bytes h front) part in
    let rest = drop n (drop c.loop-at.at piece) in
    let slice = take_rest piece c.loop-at.at in
    let whole : front ++ part ++ rest ≡ piece = rw (slice, append_assoc, take-append-drop, take-append-drop) refl in
    let longer = since_longer c.lines_stay.ensures.stay limits h (front ++ part) rest in
    let within = subst (λ (xs : List ℕ). some + last ≤ settles_since limits h xs) whole (omega (arith, both, longer)) in
    pace_both (g.K.Saves.adds start limits) batch session.batch c.hear_line.new.session.engine.joined.keep c.hear_line.new.session.unsaved (g.L.Source.left c.hear_line.new.log) most some last (settles_since limits h piece) c.loop-at.invariant.batch within next

pub returns-clause-adds : goal.returns-clause-adds
returns-clause-adds g c = λ start limits m h most at holds pace.
    let whole = take_all c.loop-at.at c.args.piece.now (omega arith) in
    subst (λ (xs : List ℕ). KeepsPace (g.K.Saves.adds start limits) c.args.session.now.batch c.loop-at.session.engine.joined.keep c.loop-at.session.unsaved (g.L.Source.left c.loop-at.log) (most + settles_since limits h xs * c.args.session.now.batch)) whole
    (c.loop-at.invariant.adds start limits m h most at holds pace)
