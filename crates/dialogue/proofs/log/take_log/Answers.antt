use Rattle.std.proofs.Common.{◌≡◌, ◌≤◌, ◌+◌, ℕ, length, take, arith, sym, refl, ◌∙◌, ap, subst, rules}
use Rattle.std.proofs.lemmas.List.{length-take, length-drop}
use Rattle.std.proofs.lemmas.Result.{err_from_is_err_and}
use Rattle.ingest.specs.Stops.{Stops}
use Rattle.dialogue.specs.Dialogue.{Moment, taken_on}
use Rattle.dialogue.specs.Course.{StandsAt}
use Rattle.dialogue.proofs.MomentLemmas.{counted_on, take_both, take_all, take_none, due_weaker, stop_later, left_none}
use Rattle.dialogue.proofs.LackLemmas.{left_all, left_both, left_more}
use Rattle.dialogue.proofs.log.take_log.Goals as goal

pub returns-in_err-taken-clause-due : goal.returns-in_err-taken-clause-due
returns-in_err-taken-clause-due g c = λ limits m h.
    let count = c.loop-count.count in
    let here = c.loop-count.invariant.at limits m h in
    let due = c.in_err-taken.ensures.due limits _ here in
    let room = length (take c.min-room.result c.loop-count.buf) in
    let small = length-take c.min-room.result c.loop-count.buf in
    let within : count + room ≤ c.args.most = omega arith in
    let p = err_from_is_err_and c.from_residual.result c.from_residual.ensures.1 in
    rw (p.1, p.2) (due_weaker _ _ _ (λ full over. stop_later c.stops_stay.ensures limits m (count + room) c.args.most full within (subst (λ (x : Moment). Stops limits x.history full) (take_both m count room) over)) due)

pub returns-then-taken-eq0-clause-took : goal.returns-then-taken-eq0-clause-took
returns-then-taken-eq0-clause-took g c = λ limits m h.
    let count = c.loop-count.count in
    let here = c.loop-count.invariant.at limits m h in
    let took = c.in_ok-taken.ensures.took limits _ here in
    let none = (c.in_ok-taken.ensures.some limits _ here).ended c.if-taken-eq0.true in
    let all = left_none m count none in
    let whole : length m.log ≤ c.args.most = omega (arith, all) in
    let e = ap (λ (n : ℕ). taken_on n (taken_on count m)) c.if-taken-eq0.true ∙ take_none (taken_on count m) ∙ take_all m count c.args.most all whole in
    subst (λ (x : Moment). StandsAt limits c.take_piece.new.engine (g.L.Source.left c.take_piece.new.log) x) e took

pub returns-then-taken-eq0-clause-count : goal.returns-then-taken-eq0-clause-count
returns-then-taken-eq0-clause-count g c = λ limits m h.
    let here = c.loop-count.invariant.at limits m h in
    let none = (c.in_ok-taken.ensures.some limits _ here).ended c.if-taken-eq0.true in
    let all = left_none m c.loop-count.count none in
    omega (arith, all, c.loop-count.invariant.part limits m h, length-take c.args.most m.log)

pub loop-count-preserved : goal.loop-count-preserved
loop-count-preserved g c =
    let count = c.loop-count.count in
    let taken = c.in_ok-taken.taken in
    let small = length-take c.min-room.result c.loop-count.buf in
    let bound = c.in_ok-taken.ensures.within in
    record {
      within = omega arith;
      at = λ limits m h.
          let here = c.loop-count.invariant.at limits m h in
          let took = c.in_ok-taken.ensures.took limits _ here in
          subst (λ (x : Moment). StandsAt limits c.take_piece.new.engine (g.L.Source.left c.take_piece.new.log) x) (take_both m count taken) took;
      part = λ limits m h.
          let here = c.loop-count.invariant.at limits m h in
          omega (arith, (c.in_ok-taken.ensures.some limits _ here).within, c.loop-count.invariant.part limits m h, length-drop count m.log);
      left = λ bytes told. left_both count taken bytes _ _ (c.loop-count.invariant.left bytes told) (c.in_ok-taken.ensures.left (c.loop-count.invariant.left bytes told).rest);
      counted = λ room. counted_on c.args.engine.now.part _ _ count taken room c.loop-count.invariant.counted c.in_ok-taken.ensures.part;
      alike = g.met.K.Rows.goes_along.next _ _ _ c.loop-count.invariant.alike c.take_piece.ensures.alike;
      marked = c.take_piece.ensures.marked ∙ c.loop-count.invariant.marked;
      counts = search rules;
    }

pub returns-clause-took : goal.returns-clause-took
returns-clause-took g c = λ limits m h.
    let all : c.loop-count.count ≡ c.args.most = omega arith in
    subst (λ (n : ℕ). StandsAt limits c.loop-count.engine (g.L.Source.left c.loop-count.log) (taken_on n m)) all (c.loop-count.invariant.at limits m h)

pub returns-clause-count : goal.returns-clause-count
returns-clause-count g c = λ limits m h.
    let all : c.loop-count.count ≡ c.args.most = omega arith in
    omega (arith, all, c.loop-count.invariant.part limits m h, length-take c.args.most m.log)

pub returns-clause-part : goal.returns-clause-part
returns-clause-part g c = c.loop-count.invariant.counted

pub returns-then-taken-eq0-clause-alike : goal.returns-then-taken-eq0-clause-alike
returns-then-taken-eq0-clause-alike g c = g.met.K.Rows.goes_along.next _ _ _ c.loop-count.invariant.alike c.take_piece.ensures.alike

pub returns-in_err-taken-clause-alike : goal.returns-in_err-taken-clause-alike
returns-in_err-taken-clause-alike g c = g.met.K.Rows.goes_along.next _ _ _ c.loop-count.invariant.alike c.take_piece.ensures.alike

pub loop-count-init : goal.loop-count-init
loop-count-init g c = record {
  within = omega arith;
  at = λ limits m h. subst (λ (x : Moment). StandsAt limits c.args.engine.now (g.L.Source.left c.args.log.now) x) (sym (take_none m)) h;
  part = λ limits m h. omega arith;
  left = λ bytes told. left_all 0 bytes _ told;
  counted = λ room. omega arith;
  alike = g.met.K.Rows.goes_along.same c.args.engine.now.joined.keep;
  marked = refl;
  counts = search rules;
}

pub returns-in_err-taken-clause-left : goal.returns-in_err-taken-clause-left
returns-in_err-taken-clause-left g c = λ bytes told.
    let count = c.loop-count.count in
    let before = c.loop-count.invariant.left bytes told in
    let room = length (take c.min-room.result c.loop-count.buf) in
    let small = length-take c.min-room.result c.loop-count.buf in
    let within : count + room ≤ c.args.most = omega arith in
    let p = err_from_is_err_and c.from_residual.result c.from_residual.ensures.1 in
    rw p.1 (left_more (count + room) c.args.most bytes _ within (left_both count room bytes _ _ before (c.in_err-taken.ensures.left before.rest)))

pub returns-then-taken-eq0-clause-left : goal.returns-then-taken-eq0-clause-left
returns-then-taken-eq0-clause-left g c = λ bytes told.
    let count = c.loop-count.count in
    let before = c.loop-count.invariant.left bytes told in
    let none = c.if-taken-eq0.true in
    left_more (count + c.in_ok-taken.taken) count bytes _ (omega (arith, none)) (left_both count c.in_ok-taken.taken bytes _ _ before (c.in_ok-taken.ensures.left before.rest))

pub returns-clause-left : goal.returns-clause-left
returns-clause-left g c = c.loop-count.invariant.left
