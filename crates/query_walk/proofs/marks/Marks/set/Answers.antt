use Rattle.std.proofs.Common.{List, Bool, true, set, ap, ◌∙◌, arith, inl, inr}
use Rattle.query_walk.proofs.MarkLemmas.{below_count, mark_more}
use Rattle.query_walk.proofs.marks.Marks.set.Goals as goal

pub set-requires : goal.set-requires
set-requires c =
    let m = c.self.inside in
    let low = below_count m.bits m.count c.args.self.now c.self.view_is c.args.id.0 c.requires in
    omega (arith, low, c.self.invariant.1)

pub invariant_of-self : goal.invariant_of-self
invariant_of-self c =
    let m = c.self.inside in
    let low = below_count m.bits m.count c.args.self.now c.self.view_is c.args.id.0 c.requires in (
      c.self.invariant.0,
      omega (arith, c.self.invariant.1, c.set.ensures.len),
      λ p s. elim ((c.set.ensures.set p).0 s) [ inl was ↦ c.self.invariant.2 p was | inr e ↦ omega (arith, e, low) ],
    )

pub returns : goal.returns
returns c =
    let m = c.self.inside in
    let p = c.args.id.0 in
    let low = below_count m.bits m.count c.args.self.now c.self.view_is p c.requires in
    mark_more m.bits c.set.new.self m.count p low c.set.ensures.set ∙ ap (λ (marks : List Bool). set marks p true) c.self.view_is
