use Rattle.std.proofs.Common.{◌≡◌, ◌+◌, ◌*◌, ◌/◌, ◌^◌, ◌<◌, get_or, sym, arith, inl, inr}
use Rattle.std.proofs.Math.Nat.{div-one}
use Rattle.std.proofs.lemmas.Bool.{cases_lt}
use Rattle.query_walk.proofs.BitLemmas.{first_of_rest, none_in_rest, none_past}
use Rattle.query_walk.proofs.bits.first_after.Goals as goal

pub returns-then-bits-ne0-clause-some : goal.returns-then-bits-ne0-clause-some
returns-then-bits-ne0-clause-some c =
    let words = c.args.words.now in
    let i = c.loop-index.index in
    let bits = get_or words i 0 in
    let small : bits < 2 ^ 64 = omega (arith, c.type_inv.words i) in
    let whole : bits ≡ bits / 2 ^ 0 = sym (div-one bits) in
    first_of_rest words i 0 bits (omega arith) small whole (64 * c.args.word + 64) _ (omega (arith, c.if-bits-ne0.true)) small (omega (arith, c.loop-index.auto.index))
    (λ p from before. c.loop-index.invariant p from (omega (arith, before))) (omega arith)

pub loop-index-preserved : goal.loop-index-preserved
loop-index-preserved c = λ p from before s.
    let words = c.args.words.now in
    let i = c.loop-index.index in
    let bits = get_or words i 0 in
    elim (cases_lt (p / 64) i) [
      | inl earlier ↦ c.loop-index.invariant p from earlier s
      | inr here ↦ none_in_rest words i 0 bits (omega arith) (omega (arith, c.type_inv.words i)) (sym (div-one bits)) c.if-bits-ne0.false p (omega arith) (omega (arith, before)) s
    ]

pub returns : goal.returns
returns c = record {
  some = tt;
  none = λ p from s. elim (cases_lt (p / 64) c.loop-index.index) [
    | inl before ↦ c.loop-index.invariant p from before s
    | inr past ↦ none_past c.args.words.now p (omega (arith, past, c.loop-index-test.false)) s
  ];
}
