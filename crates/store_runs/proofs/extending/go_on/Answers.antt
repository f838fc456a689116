use Rattle.std.proofs.Common.{◌≡◌, arith, length}
use Rattle.std.proofs.lemmas.List.{length-take}
use Rattle.store_runs.proofs.extending.go_on.Goals as goal

pub returns-then-had-taken-clause-short : goal.returns-then-had-taken-clause-short
returns-then-had-taken-clause-short g c = λ bytes told all had is.
    let count = c.in_ok-had.ensures.count bytes told in
    let long = length-take c.args.taken bytes in
    let less = c.if-had-taken.true in
    let own : c.in_ok-had.had ≡ length bytes = omega (arith, count, long, less) in
    let same : all ≡ c.args.taken = cc in
    let had_is : had ≡ c.in_ok-had.had = cc in
    (same, omega (arith, own, had_is), omega (arith, had_is, less))

pub returns-clause-enough : goal.returns-clause-enough
returns-clause-enough g c = λ bytes told. omega (arith, c.in_ok-had.ensures.count bytes told, length-take c.args.taken bytes, c.if-had-taken.false)
