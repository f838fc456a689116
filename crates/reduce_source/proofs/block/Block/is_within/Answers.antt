use Rattle.std.proofs.Common.{◌≡◌, ◌+◌, ◌*◌, ◌/◌, ◌%◌, sym, subst, arith, get_or, inl, inr}
use Rattle.std.specs.Int.{bit_at}
use Rattle.std.proofs.lemmas.Bool.{cases_eq}
use Rattle.reduce_source.proofs.BlockBits.{word_bit}
use Rattle.reduce_source.proofs.block.Block.is_within.Goals as goal

pub returns-then-not-covered-clause-no : goal.returns-then-not-covered-clause-no
returns-then-not-covered-clause-no c = λ f.
    let k = c.loop-place.place in
    let r = c.covers-covered.ensures.no c.if-not-covered.true in (
      64 * k + r.0,
      (let low = c.loop-place-test.true in let j = r.1 in omega (arith, low, j)),
      (word_bit c.args.self.now.words k r.0 r.1).0 r.2,
      λ t. r.3 ((word_bit c.args.large.now.words k r.0 r.1).1 t),
    )

pub loop-place-preserved : goal.loop-place-preserved
loop-place-preserved c = λ j low one.
    let k = c.loop-place.place in
    let small = c.args.self.now.words in
    let large = c.args.large.now.words in
    elim (cases_eq (j / 64) k) [
      | inl e ↦ subst (λ i. bit_at (get_or large i 0) (j % 64) ≡ 1) (sym e)
          (c.covers-covered.ensures.yes c.if-not-covered.false (j % 64) (omega arith) (subst (λ i. bit_at (get_or small i 0) (j % 64) ≡ 1) e one))
      | inr n ↦ c.loop-place.invariant j (omega (arith, low, n)) one
    ]
