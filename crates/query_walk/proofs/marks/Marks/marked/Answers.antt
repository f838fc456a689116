use Rattle.std.proofs.Common.{ℕ, ◌+◌, ◌↔◌, List, Bool, sym, subst, arith}
use Rattle.std.specs.List.{Contains}
use Rattle.reach_model.specs.Ids.{numbers}
use Rattle.reach_model.specs.Marks.{IsMarked}
use Rattle.reach_model.proofs.Ascending.{IsListedBelow, listed_more}
use Rattle.query_walk.specs.Bits.{IsFirstSet}
use Rattle.query_walk.specs.Marks.{marks_of}
use Rattle.query_walk.proofs.MarkLemmas.{listed_none, listed_to, marked_is}
use Rattle.query_walk.proofs.marks.Marks.marked.Goals as goal

pub loop-place-preserved : goal.loop-place-preserved
loop-place-preserved c =
    let m = c.self.inside in
    let marks = marks_of m.bits m.count in
    let is = marked_is m.bits m.count c.self.invariant.2 in
    let from = c.loop-place.from in
    let place = c.in-Some.place in
    let next : IsFirstSet m.bits from place = c.in-Some.ensures.some in
    subst (IsListedBelow marks (place + 1)) (sym c.in_ok-push.ensures.ok)
    (listed_more marks place c.loop-place.ids ((is place).1 next.set)
    (listed_to marks from place c.loop-place.ids next.low (λ u start before s. omega (arith, before, next.first u start ((is u).0 s))) c.loop-place.invariant))

pub returns-clause-exact : goal.returns-clause-exact
returns-clause-exact c =
    let m = c.self.inside in
    let marks = marks_of m.bits m.count in
    let is = marked_is m.bits m.count c.self.invariant.2 in
    let ids = c.loop-place.ids in
    subst (λ (marks : List Bool). (u : ℕ) → Contains (numbers ids) u ↔ IsMarked marks u) c.self.view_is
    (listed_none marks c.loop-place.from ids (λ u start s. c.in_default.ensures.none u start ((is u).0 s)) c.loop-place.invariant)
