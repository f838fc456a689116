use Rattle.std.proofs.Common.{rules, ◌+◌, ◌≤◌, ◌<◌, length, drop, arith, sym, ap, ◌∙◌, Some}
use Rattle.std.proofs.lemmas.List.{length-take, length-drop, drop-drop}
use Rattle.std.proofs.Math.ListN.{drop_of_length-le}
use Rattle.dialogue.proofs.MomentLemmas.{at_end, told_read}
use Rattle.dialogue.proofs.LackLemmas.{kept_left, read_left}
use Rattle.dialogue.proofs.log.pass_over.Goals as goal

pub returns-then-count-eq0-clause-passed : goal.returns-then-count-eq0-clause-passed
returns-then-count-eq0-clause-passed g c = λ bytes told.
    let n = c.loop-passed.passed in
    let here = c.loop-passed.invariant.left bytes told in
    let read = told_read _ _ (drop n bytes) _ c.in-Ok.count here c.in-Ok.ensures.bytes.0 (sym c.in-Ok.ensures.bound.1) in
    let small = length-take c.min-room.result c.loop-passed.buf in
    let room : 0 < length c.read.new.buf = omega (arith, c.read.auto.buf, small) in
    let none = at_end _ (drop c.in-Ok.count (drop n bytes)) read.0 (c.in-Ok.ensures.bytes.1 c.if-count-eq0.true room) in
    let within = c.loop-passed.invariant.within in
    let short : length bytes ≤ c.args.most = omega (arith, ap length none, length-drop c.in-Ok.count (drop n bytes), length-drop n bytes, c.if-count-eq0.true, within) in
    read.0 ∙ ap Some (none ∙ sym (drop_of_length-le bytes short))

pub returns-then-count-eq0-clause-count : goal.returns-then-count-eq0-clause-count
returns-then-count-eq0-clause-count g c = λ bytes told.
    let n = c.loop-passed.passed in
    let here = c.loop-passed.invariant.left bytes told in
    let read = told_read _ _ (drop n bytes) _ c.in-Ok.count here c.in-Ok.ensures.bytes.0 (sym c.in-Ok.ensures.bound.1) in
    let small = length-take c.min-room.result c.loop-passed.buf in
    let room : 0 < length c.read.new.buf = omega (arith, c.read.auto.buf, small) in
    let none = at_end _ (drop c.in-Ok.count (drop n bytes)) read.0 (c.in-Ok.ensures.bytes.1 c.if-count-eq0.true room) in
    omega (arith, ap length none, length-drop c.in-Ok.count (drop n bytes), length-drop n bytes, c.if-count-eq0.true, c.loop-passed.invariant.within, c.loop-passed.invariant.part bytes told, length-take c.args.most bytes)

pub loop-passed-preserved : goal.loop-passed-preserved
loop-passed-preserved g c =
    let n = c.loop-passed.passed in
    let small = length-take c.min-room.result c.loop-passed.buf in
    let bound = c.in-Ok.ensures.bound.0 in
    let size = c.read.auto.buf in
    record {
      within = omega (arith, bound, size, small);
      left = λ bytes told.
          let read = told_read _ _ (drop n bytes) _ c.in-Ok.count (c.loop-passed.invariant.left bytes told) c.in-Ok.ensures.bytes.0 (sym c.in-Ok.ensures.bound.1) in
          read.0 ∙ ap Some (drop-drop c.in-Ok.count n bytes);
      part = λ bytes told.
          let read = told_read _ _ (drop n bytes) _ c.in-Ok.count (c.loop-passed.invariant.left bytes told) c.in-Ok.ensures.bytes.0 (sym c.in-Ok.ensures.bound.1) in
          omega (arith, read.2, length-drop n bytes, c.loop-passed.invariant.part bytes told);
      counts = search rules;
    }

pub returns-in-Err-clause-left : goal.returns-in-Err-clause-left
returns-in-Err-clause-left g c = λ bytes told.
    read_left c.loop-passed.passed c.args.most bytes _ c.loop-passed.invariant.within (kept_left _ _ (drop c.loop-passed.passed bytes) (c.loop-passed.invariant.left bytes told) c.in-Err.ensures.bytes)

pub returns-then-count-eq0-clause-left : goal.returns-then-count-eq0-clause-left
returns-then-count-eq0-clause-left g c = λ bytes told.
    let n = c.loop-passed.passed in
    let read = told_read _ _ (drop n bytes) _ c.in-Ok.count (c.loop-passed.invariant.left bytes told) c.in-Ok.ensures.bytes.0 (sym c.in-Ok.ensures.bound.1) in
    read_left (n + c.in-Ok.count) c.args.most bytes _ (omega (arith, c.if-count-eq0.true, c.loop-passed.invariant.within)) (read.0 ∙ ap Some (drop-drop c.in-Ok.count n bytes))

pub returns-clause-left : goal.returns-clause-left
returns-clause-left g c = λ bytes told. read_left c.loop-passed.passed c.args.most bytes _ c.loop-passed.invariant.within (c.loop-passed.invariant.left bytes told)
