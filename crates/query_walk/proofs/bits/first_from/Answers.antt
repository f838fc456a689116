use Rattle.std.proofs.Common.{ℕ, ◌+◌, ◌*◌, ◌/◌, ◌%◌, ◌^◌, ◌<◌, ◌≤◌, get_or, refl, arith}
use Rattle.query_walk.specs.Bits.{IsSet}
use Rattle.query_walk.proofs.BitLemmas.{inside, first_of_rest, none_in_rest, none_past, some_earlier, none_earlier}
use Rattle.query_walk.proofs.bits.first_from.Goals as goal

pub returns-then-word-words-clause-none : goal.returns-then-word-words-clause-none
returns-then-word-words-clause-none c = λ p from s. none_past c.args.words.now p (omega (arith, from, c.if-word-words.true)) s

pub overflow_add-result : goal.overflow_add-result
overflow_add-result c =
    let words = c.args.words.now in
    let w : ℕ = c.args.from / 64 in
    let k : ℕ = c.args.from % 64 in
    let rest = get_or words w 0 / 2 ^ k in
    let small : get_or words w 0 < 2 ^ 64 = omega (arith, c.type_inv.words w) in
    let within = inside words w k rest (omega arith) small refl (omega (arith, c.if-rest-ne0.true)) (omega (arith, small)) in
    omega (arith, within, c.if-word-words.false, c.requires)

pub returns-then-rest-ne0-clause-some : goal.returns-then-rest-ne0-clause-some
returns-then-rest-ne0-clause-some c =
    let words = c.args.words.now in
    let w : ℕ = c.args.from / 64 in
    let k : ℕ = c.args.from % 64 in
    let rest = get_or words w 0 / 2 ^ k in
    let small : get_or words w 0 < 2 ^ 64 = omega (arith, c.type_inv.words w) in
    first_of_rest words w k rest (omega arith) small refl c.args.from _ (omega (arith, c.if-rest-ne0.true)) (omega (arith, small)) (omega arith)
    (λ p from before. absurd (omega (arith, from, before))) (omega arith)

pub returns : goal.returns
returns c =
    let words = c.args.words.now in
    let w : ℕ = c.args.from / 64 in
    let k : ℕ = c.args.from % 64 in
    let rest = get_or words w 0 / 2 ^ k in
    let small : get_or words w 0 < 2 ^ 64 = omega (arith, c.type_inv.words w) in
    let none : (p : ℕ) → c.args.from ≤ p → p < 64 * w + 64 → ¬ IsSet words p = λ p from before. none_in_rest words w k rest (omega arith) small refl c.if-rest-ne0.false p (omega (arith, from)) before in
    record {
      some = some_earlier words c.args.from (64 * w + 64) (omega arith) none c.first_after.result c.first_after.ensures.some;
      none = none_earlier words c.args.from (64 * w + 64) (omega arith) none c.first_after.result c.first_after.ensures.none;
    }
