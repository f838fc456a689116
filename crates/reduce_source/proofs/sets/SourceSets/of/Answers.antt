use Rattle.std.proofs.Common.{◌≡◌, ◌≤◌, ◌^◌, ◌+◌, min, length, sym, subst, ◌∙◌, arith, rules}
use Rattle.std.proofs.lemmas.Bool.{false≢true}
use Rattle.reduce_source.proofs.Listing.{AreListedBelow, listed_none, listed_more, listed_passed, listed_all}
use Rattle.reduce_source.proofs.sets.SourceSets.of.Goals as goal
use Rattle.reduce_source.proofs.sets.SourceSets.of.Goals.{then-is_source_of+in_ok-push, else-is_source_of}

pub loop-place-init : goal.loop-place-init
loop-place-init c = subst (AreListedBelow c.args.self.now c.args.id.0 0) (sym c.new-sources.ensures) (listed_none c.args.self.now c.args.id.0)

pub loop-place-preserved : goal.loop-place-preserved
loop-place-preserved c =
    let s = c.args.self.now in
    let i = c.loop-place.place in
    elim c.if-is_source_of.branch [
      | then-is_source_of+in_ok-push w ↦ subst (AreListedBelow s c.args.id.0 (i + 1)) (sym (w.sources-is ∙ w.in_ok-push.ensures.ok))
          (listed_more s c.args.id.0 i c.loop-place.sources (λ K t. (c.is_source_of.ensures K t).0 w.if-is_source_of.true) c.loop-place.invariant)
      | else-is_source_of w ↦ subst (AreListedBelow s c.args.id.0 (i + 1)) (sym w.sources-is)
          (listed_passed s c.args.id.0 i c.loop-place.sources (λ K t h. false≢true (sym w.if-is_source_of.false ∙ (c.is_source_of.ensures K t).1 h)) c.loop-place.invariant)
    ]

pub returns-clause-ascend : goal.returns-clause-ascend
returns-clause-ascend c = c.loop-place.invariant.ascending

pub returns-clause-exact : goal.returns-clause-exact
returns-clause-exact c =
    let s = c.args.self.now in
    let len : c.len.result ≡ length s.standings.items = search (rules, c.len.ensures) in
    let m = c.min-place-end.ensures in
    let past = c.loop-place-test.false in
    let end : min (length s.standings.items) (2 ^ 32) ≤ c.loop-place.place = omega (arith, len, m, past) in
    listed_all s c.args.id.0 c.loop-place.place c.loop-place.sources end c.loop-place.invariant
