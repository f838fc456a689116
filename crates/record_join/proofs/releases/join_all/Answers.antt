use Rattle.std.proofs.Common.{refl, sym, ◌∙◌, ap, subst, List, ◌∷◌, [], ◌++◌, map, length, append_assoc, append-nil, arith, ◌≡◌}
use Rattle.std.specs.Vec.Iter.{into_iter_items}
use Rattle.std.proofs.lemmas.List.{map-append}
use Rattle.record_join.specs.History.{Step, Came, Settle, start, events, state}
use Rattle.audit_record.specs.declared.types.Record.{Record}
use Rattle.record_join.proofs.Drained.{IsJoined, joined_more}
use Rattle.record_join.proofs.releases.join_all.Goals as goal

nothing_left : {X : Type 0} (l : List X) → length l ≡ 0 → l ≡ []
nothing_left [] h = refl
nothing_left (x ∷ xs) h = absurd (omega arith)

pub loop-item-preserved : goal.loop-item-preserved
loop-item-preserved c =
    let at = c.loop-item in
    let moved : into_iter_items at.item-iterator ≡ c.in-Some.item ∷ into_iter_items c.next.new.self = c.in-Some.ensures.steps.0 in
    let w = c.loop-item.invariant.joined in
    let limits = c.args.limits.now in
    let steps : List Step = map Came c.loop-item.yielded in
    let before = state limits start steps in
    let taken = c.in_ok-take.ensures.stands limits before w.stands in
    record {
      joined = subst (λ (xs : List Step). IsJoined limits c.release_ripe.new.join c.release_ripe.new.found xs) (sym (map-append Came c.loop-item.yielded (c.in-Some.item ∷ [])))
          (joined_more limits _ _ _ _ steps (Came c.in-Some.item) w (c.in_ok-release_ripe.ensures.stands limits _ taken) (c.in_ok-release_ripe.ensures.found limits _ taken));
      nothing = c.in_ok-release_ripe.ensures.nothing;
      rest = append_assoc at.yielded (c.in-Some.item ∷ []) _ ∙ rw (← moved) at.invariant.rest;
      counted =
          let was = at.invariant.counted in
          let gone = c.in-Some.ensures.steps.1 in
          let short = ap length moved in
          omega arith;
    }

pub returns : goal.returns
returns c =
    let w = c.loop-item.invariant.joined in
    let limits = c.args.limits.now in
    let steps : List Step = map Came c.loop-item.yielded in
    let closed = c.settle.ensures limits (state limits start steps) w.stands in
    let at = c.loop-item in
    let empty : into_iter_items at.item-iterator ≡ [] = nothing_left _ (sym at.invariant.counted ∙ c.in-None.ensures.steps.0) in
    let e : at.yielded ≡ c.args.items.items = sym (append-nil at.yielded) ∙ rw empty at at.invariant.rest ∙ c.into_iter-item-iterator.ensures.into_iter_gives.0 in
    (joined_more limits _ _ _ _ steps Settle w (c.in_ok-release_ripe-2.ensures.stands limits _ closed) (c.in_ok-release_ripe-2.ensures.found limits _ closed)).found_is
    ∙ ap (λ (xs : List Record). events limits start (map Came xs ++ Settle ∷ [])) e
