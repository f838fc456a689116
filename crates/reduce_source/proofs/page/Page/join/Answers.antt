use Rattle.std.proofs.Common.{◌≡◌, ◌≢◌, ◌↔◌, ◌⊎◌, ℕ, ◌+◌, ◌<◌, ◌≤◌, get_or, set, sym, subst, ap, ◌∙◌, arith, inl, inr}
use Rattle.std.proofs.lemmas.Bool.{cases_eq}
use Rattle.std.proofs.lemmas.List.{length-set, get_or-set_same, get_or-set_other}
use Rattle.reduce_source.specs.BitsOf.{HasBit}
use Rattle.reduce_source.specs.Blocks.{words_of, words_in}
use Rattle.reduce_source.specs.Owners.{AreHeldBy}
use Rattle.reduce_source.proofs.Paging.{own_next, puts_next, puts_one, words_aside}
use Rattle.reduce_source.proofs.page.Page.join.Goals as goal

pub join-requires-clause-mine : goal.join-requires-clause-mine
join-requires-clause-mine c =
    let i = c.loop-place.invariant in
    let low = c.loop-place-test.true in
    (own_next c.args.object c.loop-place.place (λ k. get_or c.args.self.now.ids k 0) (λ k. get_or c.loop-place.ids k 0) c.args.blocks.now.slots c.loop-place.blocks.slots i.puts
    (λ k h. i.rest k (omega (arith, low, h))) c.requires.held).held c.loop-place.place

pub loop-place-preserved : goal.loop-place-preserved
loop-place-preserved c =
    let i = c.loop-place.invariant in
    let place = c.loop-place.place in
    let ids = c.loop-place.ids in
    let next = c.join.result in
    let first = c.args.self.now.ids in
    let other = c.args.other.now.ids in
    let start = c.args.blocks.now.slots in
    let old = c.loop-place.blocks.slots in
    let new = c.join.new.blocks.slots in
    let x = c.args.object in
    let low = c.loop-place-test.true in
    let r = c.join.ensures.replaces in
    let own : AreHeldBy x old.items (λ k. get_or ids k 0) = own_next x place (λ k. get_or first k 0) (λ k. get_or ids k 0) start old i.puts (λ k h. i.rest k (omega (arith, low, h))) c.requires.held in
    let there : get_or (set ids place next) place 0 ≡ next = get_or-set_same ids place next 0 (let len = i.len in omega (arith, low, len)) in
    let elsewhere : (k : ℕ) → k ≢ place → get_or (set ids place next) k 0 ≡ get_or ids k 0 = λ k n. get_or-set_other ids place k next 0 n in
    let aside : (k : ℕ) → k < 16 → k ≢ place → words_of new.items (get_or ids k 0) ≡ words_of old.items (get_or ids k 0) =
    words_aside x place next (λ k. get_or ids k 0) (λ k. get_or (set ids place next) k 0) old new low there elsewhere r own in
    let mine : words_of old.items (get_or ids place 0) ≡ words_of start.items (get_or first place 0) = i.words place (omega arith) low in
    let more : words_of old.items (get_or other place 0) ≡ words_of start.items (get_or other place 0) = ap words_in ((i.puts).changes.values (get_or other place 0) (c.requires.other place)) in
    let last : (j : ℕ) → HasBit (words_of new.items next) j ↔ (HasBit (words_of start.items (get_or first place 0)) j ⊎ HasBit (words_of start.items (get_or other place 0)) j) =
    λ j. subst (λ w. HasBit (words_of new.items next) j ↔ (HasBit w j ⊎ HasBit (words_of start.items (get_or other place 0)) j)) mine
    (subst (λ w. HasBit (words_of new.items next) j ↔ (HasBit (words_of old.items (get_or ids place 0)) j ⊎ HasBit w j)) more (c.join.ensures.bits j)) in
    record {
      len = length-set ids place next ∙ i.len;
      done = λ k h j. elim (cases_eq k place) [
        | inl e ↦ subst (λ p. HasBit (words_of new.items (get_or (set ids place next) p 0)) j ↔ (HasBit (words_of start.items (get_or first p 0)) j ⊎ HasBit (words_of start.items (get_or other p 0)) j)) (sym e)
            (subst (λ n. HasBit (words_of new.items n) j ↔ (HasBit (words_of start.items (get_or first place 0)) j ⊎ HasBit (words_of start.items (get_or other place 0)) j)) (sym there) (last j))
        | inr n ↦ subst (λ w. HasBit w j ↔ (HasBit (words_of start.items (get_or first k 0)) j ⊎ HasBit (words_of start.items (get_or other k 0)) j))
            (sym (ap (words_of new.items) (elsewhere k n) ∙ aside k (omega (arith, h, low)) n)) (i.done k (omega (arith, h, n)) j)
      ];
      rest = λ k h. elsewhere k (past k h) ∙ i.rest k (omega (arith, h));
      words = λ k h fits. ap (words_of new.items) (elsewhere k (past k h)) ∙ aside k fits (past k h) ∙ i.words k (omega (arith, h)) fits;
      puts = puts_next x place 1 (λ k. get_or first k 0) (λ k. get_or ids k 0) (λ k. get_or (set ids place next) k 0) start old new i.puts
          (puts_one x place next (λ k. get_or ids k 0) (λ k. get_or (set ids place next) k 0) old new low there elsewhere r);
    }
  where
    past : (k : ℕ) → c.loop-place.place + 1 ≤ k → k ≢ c.loop-place.place
    past k h e = absurd (omega (arith, h, e))
