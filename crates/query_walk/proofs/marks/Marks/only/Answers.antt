use Rattle.std.proofs.Common.{◌≡◌, ◌↔◌, ℕ, arith, inl, inr}
use Rattle.query_walk.specs.Bits.{IsSet}
use Rattle.query_walk.proofs.MarkLemmas.{marked_is, marks_len}
use Rattle.query_walk.proofs.marks.Marks.only.Goals as goal

pub returns-clause-len : goal.returns-clause-len
returns-clause-len c = marks_len _ c.args.count

pub returns-clause-exact : goal.returns-clause-exact
returns-clause-exact c =
    let bits = c.set.new.self in
    let one : (p : ℕ) → IsSet bits p ↔ (p ≡ c.args.of.0) = λ p. (
      λ s. elim ((c.set.ensures.set p).0 s) [ inl was ↦ absurd (c.in_ok-bits.ensures.none p was) | inr e ↦ e ],
      λ e. (c.set.ensures.set p).1 (inr e),
    ) in
    λ u. let m = marked_is bits c.args.count (λ p s. omega (arith, (one p).0 s, c.requires)) u in (
      λ s. (one u).0 (m.0 s),
      λ e. m.1 ((one u).1 e),
    )
