use Rattle.std.proofs.Common.{◌≡◌, ◌↔◌, ◌⊎◌, ℕ, ◌/◌, ◌%◌, ◌<◌, List, length, get_or, set, sym, subst, ap, ◌∙◌, arith, refl, inl, inr}
use Rattle.std.proofs.lemmas.Bool.{cases_eq}
use Rattle.std.proofs.lemmas.List.{length-set, get_or_default}
use Rattle.reduce_source.specs.Owners.{AreHeldBy}
use Rattle.reduce_source.specs.Pools.{ReplacesPage, Has, page_id, words_on, words_at}
use Rattle.reduce_source.proofs.Pooling.{own_page, kept_page, still_kept, kept_words, held_page, changes_both, words_aside, words_there, words_before}
use Rattle.reduce_source.proofs.SetBits.{same_bits, all_joined}
use Rattle.reduce_source.proofs.ids.Ids.join.Goals as goal

pub join-requires-clause-held : goal.join-requires-clause-held
join-requires-clause-held c =
    let i = c.loop-place.invariant in
    let place = c.loop-place.place in
    let ids = c.loop-place.self-inside.ids.items in
    let pools = c.loop-place.pools in
    let low = c.loop-place-test.true in
    let fits : place < length ids = let p = i.places in let q = c.requires.places in let v = ap length c.self.view_is in omega (arith, low, p, q, v) in
    let at : get_or ids place 0 ≡ c.index.result.now = get_or_default ids place 0 c.index.result.now fits ∙ sym c.index.ensures in
    subst (λ m. AreHeldBy c.args.object pools.blocks.slots.items (page_id pools m)) at (own_page c.args.object pools ids place i.held)

pub join-requires-clause-kept : goal.join-requires-clause-kept
join-requires-clause-kept c =
    kept_page c.args.object c.loop-place.pools c.args.more.now c.loop-place.place
    (still_kept c.args.object c.loop-place.place c.args.pools.now c.loop-place.pools c.loop-place.invariant.changes c.args.more.now c.requires.more)

pub loop-place-preserved : goal.loop-place-preserved
loop-place-preserved c =
    let i = c.loop-place.invariant in
    let place = c.loop-place.place in
    let ids = c.loop-place.self-inside.ids.items in
    let first = c.self.inside.ids.items in
    let more = c.args.more.now in
    let next = c.join.result in
    let start = c.args.pools.now in
    let old = c.loop-place.pools in
    let new = c.join.new.self in
    let x = c.args.object in
    let low = c.loop-place-test.true in
    let fits : place < length ids = let p = i.places in let q = c.requires.places in let v = ap length c.self.view_is in omega (arith, low, p, q, v) in
    let at : get_or ids place 0 ≡ c.index.result.now = get_or_default ids place 0 c.index.result.now fits ∙ sym c.index.ensures in
    let r : ReplacesPage x (get_or ids place 0) next old new = subst (λ m. ReplacesPage x m next old new) (sym at) c.join.ensures.replaces in
    record {
      done = λ k h j. elim (cases_eq (k / 16) place) [
        | inl e ↦ same_bits j (words_on new next (k % 16)) (words_on old c.index.result.now (k % 16)) (words_on old (get_or more place 0) (k % 16))
            (words_at new (set ids place next) k) (words_at start first k) (words_at start more k)
            (words_there x place next ids old new fits i.held r k e)
            (sym (i.words k (omega (arith, e))) ∙ words_before x place next ids old new fits i.held r k e ∙ ap (λ m. words_on old m (k % 16)) at)
            (sym (kept_words x place start old i.changes more c.requires.more k) ∙ ap (λ p. words_on old (get_or more p 0) (k % 16)) e)
            (c.join.ensures.bits (k % 16) j (omega arith))
        | inr n ↦ same_bits j (words_at old ids k) (words_at start first k) (words_at start more k) (words_at new (set ids place next) k) (words_at start first k) (words_at start more k)
            (words_aside x place next ids old new fits i.held r k n) refl refl (i.done k (omega (arith, h, n)) j)
      ];
      words = λ k h. words_aside x place next ids old new fits i.held r k (λ e. absurd (omega (arith, h, e))) ∙ i.words k (omega (arith, h));
      held = held_page x place next ids old new fits i.held r;
      places = length-set ids place next ∙ i.places;
      changes = changes_both x place (get_or ids place 0) next start old new i.changes r;
    }

pub returns-clause-set : goal.returns-clause-set
returns-clause-set c =
    let i = c.loop-place.invariant in
    let now = c.loop-place.pools in
    let list = c.loop-place.self-inside.ids.items in
    let start = c.args.pools.now in
    let end = c.loop-place-test.false in
    subst (λ (was : List ℕ). (n : ℕ) → Has now list n ↔ (Has start was n ⊎ Has start c.args.more.now n)) c.self.view_is
    (all_joined start now c.self.inside.ids.items c.args.more.now list c.loop-place.place (omega (arith, end)) i.done i.words)
