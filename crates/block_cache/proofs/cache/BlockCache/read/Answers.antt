use Rattle.std.proofs.Common.{rules, ◌≡◌, ◌+◌, ◌/◌, ◌-◌, ◌∙◌, length, length-drop, drop, ap, arith}
use Rattle.std.proofs.lemmas.List.{length-take}
use Rattle.block_cache.specs.Cached.{range}
use Rattle.outside.proofs.Moments.{uses_in_a_row}
use Rattle.outside.specs.Looking.{looks_in_a_row}
use Rattle.block_cache.proofs.RangeLemmas.{range_more}
use Rattle.block_cache.proofs.cache.BlockCache.read.Goals as goal

pub read_piece-requires-clause-cache : goal.read_piece-requires-clause-cache
read_piece-requires-clause-cache g c = λ told. c.loop-done.invariant.cache (c.loop-done.invariant.uses.told_before told)

pub returns-in_err-read_piece-clause-cache : goal.returns-in_err-read_piece-clause-cache
returns-in_err-read_piece-clause-cache g c = λ told. c.read_piece.ensures.cache (c.loop-done.invariant.looks.tells told)

pub returns-in_err-read_piece-clause-held : goal.returns-in_err-read_piece-clause-held
returns-in_err-read_piece-clause-held g c = λ held.
    let number = (c.args.at + c.loop-done.done) / 4096 in
    let here = (c.loop-done.invariant.held held).1 number (held number (omega (arith, c.loop-done-test.true, c.loop-done.auto.buf)) (omega arith)) in
    let filled = (c.read_piece.ensures.held here).filled in
    let failed = c.in_err-read_piece.was in
    absurd (cc)

pub returns-then-not-branch-clause-cache : goal.returns-then-not-branch-clause-cache
returns-then-not-branch-clause-cache g c = λ told. c.read_piece.ensures.cache (c.loop-done.invariant.looks.tells told)

pub returns-then-not-branch-clause-held : goal.returns-then-not-branch-clause-held
returns-then-not-branch-clause-held g c = λ held.
    let number = (c.args.at + c.loop-done.done) / 4096 in
    let here = (c.loop-done.invariant.held held).1 number (held number (omega (arith, c.loop-done-test.true, c.loop-done.auto.buf)) (omega arith)) in
    let filled = (c.read_piece.ensures.held here).filled in
    let was = c.in_ok-read_piece.was in
    let not = c.if-not-branch.true in
    absurd (cc)

pub loop-done-preserved : goal.loop-done-preserved
loop-done-preserved g c =
    let so_far = c.loop-done.invariant in
    let state = g.D.Disk.state in
    let old = state c.args.disk.now in
    let number = (c.args.at + c.loop-done.done) / 4096 in
    let long : length c.read_piece.new.piece ≡ c.min-count.result =
    omega (arith, c.read_piece.auto.piece, length-take (c.loop-done.done + c.min-count.result - c.loop-done.done) (drop c.loop-done.done c.loop-done.buf), length-drop c.loop-done.done c.loop-done.buf, c.min-count.ensures, so_far.within) in
    record {
      within = search rules;
      there = λ told some.
          let there = (c.in_ok-read_piece.ensures.whole (so_far.looks.tells told)).0 c.if-not-branch.false in
          let same = ap length (so_far.looks.same told) in
          omega (arith, there (omega (arith, long, c.min-count.ensures, c.loop-done-test.true)), long, same);
      read = λ told. range_more c.args.at c.loop-done.done c.min-count.result _ c.loop-done.buf c.read_piece.new.piece old.reads so_far.within long (so_far.read told)
          (c.in_ok-read_piece.ensures.bytes (so_far.looks.tells told) c.if-not-branch.false ∙ ap (range (c.args.at + c.loop-done.done) (length c.read_piece.new.piece)) (so_far.looks.same told));
      cache = λ told. c.read_piece.ensures.cache (so_far.looks.tells told);
      firm = c.read_piece.ensures.firm ∙ so_far.firm;
      held = λ held.
          let so = so_far.held held in
          let spares = c.read_piece.ensures.held (so.1 number (held number (omega (arith, c.loop-done-test.true, c.loop-done.auto.buf)) (omega arith))) in
          (spares.disk ∙ so.0, λ n was. spares.keeps n (so.1 n was));
      looks = looks_in_a_row old (state c.loop-done.disk) (state c.read_piece.new.disk) so_far.looks c.read_piece.ensures.looks;
      uses = uses_in_a_row _ _ _ so_far.uses c.read_piece.ensures.uses;
    }
