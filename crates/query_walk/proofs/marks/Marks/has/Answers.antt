use Rattle.std.proofs.Common.{◌≡◌, List, Bool, get_or, false, sym, ap, ◌∙◌, arith}
use Rattle.query_walk.specs.Bits.{IsSet}
use Rattle.query_walk.specs.Marks.{is_set}
use Rattle.query_walk.proofs.MarkLemmas.{below_count, mark_at, same_test, set_is}
use Rattle.query_walk.proofs.marks.Marks.has.Goals as goal

pub has-requires : goal.has-requires
has-requires c =
    let m = c.self.inside in
    let low = below_count m.bits m.count c.args.self.now c.self.view_is c.args.id.0 c.requires in
    omega (arith, low, c.self.invariant.1)

pub returns : goal.returns
returns c =
    let m = c.self.inside in
    let p = c.args.id.0 in
    let low = below_count m.bits m.count c.args.self.now c.self.view_is p c.requires in
    let is : c.has.result ≡ is_set m.bits p = same_test c.has.result (is_set m.bits p) (IsSet m.bits p) c.has.ensures (set_is m.bits p) in
    is ∙ sym (mark_at m.bits m.count p low) ∙ ap (λ (marks : List Bool). get_or marks p false) c.self.view_is
