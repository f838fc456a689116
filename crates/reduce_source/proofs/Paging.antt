-- The blocks of one page of a set.
use Rattle.std.proofs.Common.{◌≡◌, ◌≢◌, ℕ, ◌+◌, ◌*◌, ◌/◌, ◌%◌, ◌<◌, ◌≤◌, ◌==◌, cond, refl, sym, ap, subst, ◌∙◌, arith, inl, inr}
use Rattle.std.specs.declared.vec.Vec.{Vec}
use Rattle.std.proofs.lemmas.Bool.{cases_eq, eq-eqb, ne_eqb}
use Rattle.reduce_source.specs.Blocks.{words_of, words_in}
use Rattle.reduce_source.specs.Owners.{AreHeldBy, Replaces}
use Rattle.reduce_source.specs.Pages.{IsPage, DifferAt, PutsPage}
use Rattle.reduce_source.specs.declared.block.Block.{Block}
use Rattle.reduce_source.specs.declared.slot.Slot.{Slot}
use Rattle.reduce_source.proofs.Owning.{held_same, held_next, value_beside, no_change, changes_next, changes_most}

-- a list with these ids on one page
abbrev pub laid : ℕ → (ℕ → ℕ) → (ℕ → ℕ) → ℕ → ℕ
laid page ids list k = cond (k / 16 == page) (ids (k % 16)) (list k)

pub laid_on : (page : ℕ) (ids list : ℕ → ℕ) → IsPage page ids (laid page ids list)
laid_on page ids list k e = ap (λ b. cond b (ids (k % 16)) (list k)) (eq-eqb (k / 16) page e)

pub laid_off : (page : ℕ) (ids list : ℕ → ℕ) → DifferAt page list (laid page ids list)
laid_off page ids list k n = ap (λ b. cond b (ids (k % 16)) (list k)) (ne_eqb (k / 16) page n)

-- lists with the same ids on a page that differ nowhere else are the same
one_list : (page : ℕ) (ids list other : ℕ → ℕ) → IsPage page ids list → IsPage page ids other → DifferAt page list other → (k : ℕ) → other k ≡ list k
one_list page ids list other a b differ k = elim (cases_eq (k / 16) page) [
  | inl e ↦ b k e ∙ sym (a k e)
  | inr n ↦ differ k n
]

-- a page's ids are a list of their own
pub is_own : (ids : ℕ → ℕ) → IsPage 0 ids ids
is_own ids k e = ap ids (omega (arith, e))

place_on : (page place : ℕ) → place < 16 → (16 * page + place) / 16 ≡ page
place_on page place low = omega (arith, low)

rest_on : (page place : ℕ) → place < 16 → (16 * page + place) % 16 ≡ place
rest_on page place low = omega (arith, low)

same_place : (page place k : ℕ) → k / 16 ≡ page → k % 16 ≡ place → k ≡ 16 * page + place
same_place page place k a b = omega (arith, a, b)

-- nothing was put
pub puts_none : {A : Type 0} (x : ℕ) (ids : ℕ → ℕ) (old : Vec (Slot Block) A) → PutsPage x 0 ids ids old old
puts_none x ids old = record {
  held = λ page before after a b differ h. held_same x old.items before after (one_list page ids before after a b differ) h;
  beside = λ page list a h k n. refl;
  changes = no_change x old;
}

-- the same ids, and more may have been added
pub puts_same : {A : Type 0} (x less most : ℕ) (mine next mine2 next2 : ℕ → ℕ) (old new : Vec (Slot Block) A) → less ≤ most → ((k : ℕ) → mine k ≡ mine2 k) → ((k : ℕ) → next k ≡ next2 k)
    → PutsPage x less mine next old new → PutsPage x most mine2 next2 old new
puts_same x less most mine next mine2 next2 old new low a b p = record {
  held = λ page before after m n differ h. p.held page before after (λ k e. m k e ∙ sym (a (k % 16))) (λ k e. n k e ∙ sym (b (k % 16))) differ h;
  beside = λ page list m h k n. p.beside page list (λ k e. m k e ∙ sym (a (k % 16))) h k n;
  changes = changes_most x less most old new low p.changes;
}

-- one put after another
pub puts_next : {A : Type 0} (x most more : ℕ) (mine middle next : ℕ → ℕ) (old between new : Vec (Slot Block) A) → PutsPage x most mine middle old between → PutsPage x more middle next between new
    → PutsPage x (most + more) mine next old new
puts_next x most more mine middle next old between new p q = record {
  held = λ page before after m n differ h.
      q.held page (laid page middle before) after (laid_on page middle before) n (λ k off. differ k off ∙ sym (laid_off page middle before k off))
      (p.held page before (laid page middle before) m (laid_on page middle before) (laid_off page middle before) h);
  beside = λ page list m h k off.
      let at = laid_off page middle list k off in
      let held = p.held page list (laid page middle list) m (laid_on page middle list) (laid_off page middle list) h in
      subst (λ i. words_of new.items i ≡ words_of between.items i) at (q.beside page (laid page middle list) (laid_on page middle list) held k off) ∙ p.beside page list m h k off;
  changes = changes_next x most more old between new p.changes q.changes;
}

-- the block at one place of a page was replaced
module _ {A : Type 0} (x place next : ℕ) (ids after : ℕ → ℕ) (old new : Vec (Slot Block) A) (low : place < 16) (there : after place ≡ next) (elsewhere : (k : ℕ) → k ≢ place → after k ≡ ids k)
    (r : Replaces x (ids place) next old new) where
  module _ (page : ℕ) (list list2 : ℕ → ℕ) (m : IsPage page ids list) (n : IsPage page after list2) (differ : DifferAt page list list2) (h : AreHeldBy x old.items list) where
    mine_there : list (16 * page + place) ≡ ids place
    mine_there = m (16 * page + place) (place_on page place low) ∙ ap ids (rest_on page place low)

    next_there : list2 (16 * page + place) ≡ next
    next_there = n (16 * page + place) (place_on page place low) ∙ ap after (rest_on page place low) ∙ there

    next_elsewhere : (k : ℕ) → k ≢ 16 * page + place → list2 k ≡ list k
    next_elsewhere k d = elim (cases_eq (k / 16) page) [
      | inl e ↦ n k e ∙ elsewhere (k % 16) (λ s. d (same_place page place k e s)) ∙ sym (m k e)
      | inr off ↦ differ k off
    ]

    replaces : Replaces x (list (16 * page + place)) next old new
    replaces = subst (λ i. Replaces x i next old new) (sym mine_there) r

    held_put : AreHeldBy x new.items list2
    held_put = held_next x (16 * page + place) next list list2 old new next_there next_elsewhere h replaces

    words_put : (k : ℕ) → k ≢ 16 * page + place → words_of new.items (list k) ≡ words_of old.items (list k)
    words_put k d = ap words_in (value_beside x (16 * page + place) next list list2 old new next_there next_elsewhere h replaces k d)

  pub puts_one : PutsPage x 1 ids after old new
  puts_one = record {
    held = held_put;
    beside = λ page list m h k off. words_put page list (laid page after list) m (laid_on page after list) (laid_off page after list) h k (λ e. off (ap (λ i. i / 16) e ∙ place_on page place low));
    changes = r.changes;
  }

  -- the other blocks of the page are as before
  pub words_aside : AreHeldBy x old.items ids → (k : ℕ) → k < 16 → k ≢ place → words_of new.items (ids k) ≡ words_of old.items (ids k)
  words_aside h k fits d =
      words_put 0 ids (laid 0 after ids) (is_own ids) (laid_on 0 after ids) (laid_off 0 after ids) h k (λ e. d (omega (arith, e)))

-- the own list of a page after it was put
pub own_next : {A : Type 0} (x most : ℕ) (mine next : ℕ → ℕ) (old new : Vec (Slot Block) A) → PutsPage x most mine next old new → ((k : ℕ) → 16 ≤ k → next k ≡ mine k) → AreHeldBy x old.items mine → AreHeldBy x new.items next
own_next x most mine next old new p far h = p.held 0 mine next (is_own mine) (is_own next) (λ k n. far k (omega (arith, n))) h
