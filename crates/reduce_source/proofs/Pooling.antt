-- The sets in the pools of blocks and pages.
use Rattle.std.proofs.Common.{◌≡◌, ◌≢◌, ◌⊎◌, ◌↔◌, ℕ, ◌+◌, ◌*◌, ◌/◌, ◌%◌, ◌<◌, ◌≤◌, List, [], length, get_or, set, Option, Some, None, refl, sym, ap, subst, ◌∙◌, arith, inl, inr}
use Rattle.std.proofs.lemmas.Bool.{cases_lt}
use Rattle.std.proofs.lemmas.List.{get_or_past, get_or-set_same, get_or-set_other}
use Rattle.reduce_source.specs.BitsOf.{HasBit}
use Rattle.reduce_source.specs.Slots.{value_of, owner_of}
use Rattle.reduce_source.specs.Blocks.{words_of, words_in, id_on, ids_in, flat}
use Rattle.reduce_source.specs.Owners.{MayHave, IsKept, AreHeldBy, AreKept, Changes, Replaces}
use Rattle.reduce_source.specs.Pages.{PutsPage}
use Rattle.reduce_source.specs.Pools.{AreHeldIn, AreKeptIn, ChangesBoth, ReplacesPage, page_id, words_on, words_at}
use Rattle.reduce_source.specs.declared.page.Page.{Page}
use Rattle.reduce_source.specs.declared.pools.Pools.{Pools}
use Rattle.reduce_source.specs.declared.slot.Slot.{Slot}
use Rattle.reduce_source.specs.declared.slot.Owner.TheVariants.{One, Many}
use Rattle.reduce_source.proofs.Owning.{kept_from, kept_next, no_change, changes_next, held_same, held_others, held_next, value_beside}
use Rattle.reduce_source.proofs.Paging.{puts_same}

-- a page has no id past its 16 places
far_in : (page : Option Page) (k : ℕ) → 16 ≤ k → get_or (ids_in page) k 0 ≡ 0
far_in None k h = get_or_past [] k 0 (omega (arith, h))
far_in (Some page) k h = let size = page.size in get_or_past page.ids k 0 (omega (arith, size, h))

pub id_far : (slots : List (Slot Page)) (id k : ℕ) → 16 ≤ k → id_on slots id k ≡ 0
id_far slots id k h = far_in (value_of slots id) k h

place_on : (page place : ℕ) → place < 16 → (16 * page + place) / 16 ≡ page
place_on page place low = omega (arith, low)

rest_on : (page place : ℕ) → place < 16 → (16 * page + place) % 16 ≡ place
rest_on page place low = omega (arith, low)

-- the flattened list at a place of a page
pub flat_on : (slots : List (Slot Page)) (list : List ℕ) (page place : ℕ) → place < 16 → flat slots list (16 * page + place) ≡ id_on slots (get_or list page 0) place
flat_on slots list page place low = ap (λ i. id_on slots (get_or list i 0) ((16 * page + place) % 16)) (place_on page place low) ∙ ap (id_on slots (get_or list page 0)) (rest_on page place low)

-- the blocks of one page of a set
pub own_page : (x : ℕ) (pools : Pools) (list : List ℕ) (page : ℕ) → AreHeldIn x pools list → AreHeldBy x pools.blocks.slots.items (page_id pools (get_or list page 0))
own_page x pools list page h = record { held = held; once = once }
  where
    ids : ℕ → ℕ
    ids = page_id pools (get_or list page 0)

    far : (k : ℕ) → 16 ≤ k → page_id pools (get_or list page 0) k ≡ 0
    far k high = id_far pools.pages.slots.items (get_or list page 0) k high

    near : (k : ℕ) → k < 16 → flat pools.pages.slots.items list (16 * page + k) ≡ page_id pools (get_or list page 0) k
    near k low = flat_on pools.pages.slots.items list page k low

    held : (k : ℕ) → MayHave x (owner_of pools.blocks.slots.items (page_id pools (get_or list page 0) k))
    held k = elim (cases_lt k 16) [
      | inl low ↦ subst (λ i. MayHave x (owner_of pools.blocks.slots.items i)) (near k low) ((h.blocks).held (16 * page + k))
      | inr high ↦ subst (λ i. MayHave x (owner_of pools.blocks.slots.items i)) (sym (far k (omega (arith, high)))) refl
    ]

    shared : (k : ℕ) → 16 ≤ k → owner_of pools.blocks.slots.items (page_id pools (get_or list page 0) k) ≢ One x
    shared k high one = let clash : Many ≡ One x = sym (ap (owner_of pools.blocks.slots.items) (far k high)) ∙ one in absurd (cc)

    once : (j k : ℕ) → page_id pools (get_or list page 0) j ≡ page_id pools (get_or list page 0) k → owner_of pools.blocks.slots.items (page_id pools (get_or list page 0) j) ≡ One x → j ≡ k
    once j k same one = elim (cases_lt j 16) [
      | inl lj ↦ elim (cases_lt k 16) [
        | inl lk ↦
            let e = (h.blocks).once (16 * page + j) (16 * page + k) (near j lj ∙ same ∙ sym (near k lk)) (ap (owner_of pools.blocks.slots.items) (near j lj) ∙ one) in
            omega (arith, e)
        | inr hk ↦ absurd (shared k (omega (arith, hk)) (ap (owner_of pools.blocks.slots.items) (sym same) ∙ one))
      ]
      | inr hj ↦ absurd (shared j (omega (arith, hj)) one)
    ]

-- the blocks of one page of another set
pub kept_page : (x : ℕ) (pools : Pools) (list : List ℕ) (page : ℕ) → AreKeptIn x pools list → AreKept x pools.blocks.slots.items (page_id pools (get_or list page 0))
kept_page x pools list page kept k = elim (cases_lt k 16) [
  | inl low ↦ subst (λ i. IsKept x (owner_of pools.blocks.slots.items i)) (flat_on pools.pages.slots.items list page k low) (kept.blocks (16 * page + k))
  | inr high ↦ subst (λ i. IsKept x (owner_of pools.blocks.slots.items i)) (sym (id_far pools.pages.slots.items (get_or list page 0) k (omega (arith, high)))) tt
]

-- another set than that of x may have the pages and blocks of its list
pub others_kept : (x v : ℕ) (pools : Pools) → v ≢ x → (list : List ℕ) → AreHeldIn v pools list → AreKeptIn x pools list
others_kept x v pools n list h = record {
  pages = λ k. kept_from x v (owner_of pools.pages.slots.items (get_or list k 0)) n ((h.pages).held k);
  blocks = λ k. kept_from x v (owner_of pools.blocks.slots.items (flat pools.pages.slots.items list k)) n ((h.blocks).held k);
}

-- the same pages by place
pub same_pages : (x : ℕ) (pools : Pools) (list other : List ℕ) → ((k : ℕ) → get_or other k 0 ≡ get_or list k 0) → AreHeldIn x pools list → AreHeldIn x pools other
same_pages x pools list other e h = record {
  pages = held_same x pools.pages.slots.items (λ k. get_or list k 0) (λ k. get_or other k 0) e h.pages;
  blocks = held_same x pools.blocks.slots.items (flat pools.pages.slots.items list) (flat pools.pages.slots.items other) (λ k. ap (λ i. id_on pools.pages.slots.items i (k % 16)) (e (k / 16))) h.blocks;
}

-- nothing has changed
pub both_same : (x : ℕ) (pools : Pools) → ChangesBoth x 0 pools pools
both_same x pools = record { pages = no_change x pools.pages.slots; blocks = no_change x pools.blocks.slots }

-- The set of x changed pages and blocks.
module _ (x most : ℕ) (old new : Pools) (c : ChangesBoth x most old new) where
  -- a page of another set has the ids that it had
  kept_ids : (list : List ℕ) → AreKept x old.pages.slots.items (λ k. get_or list k 0) → (k : ℕ) → flat new.pages.slots.items list k ≡ flat old.pages.slots.items list k
  kept_ids list kept k = ap (λ p. get_or (ids_in p) (k % 16) 0) ((c.pages).values (get_or list (k / 16) 0) (kept (k / 16)))

  -- other sets may still have them
  pub still_kept : (list : List ℕ) → AreKeptIn x old list → AreKeptIn x new list
  still_kept list kept = record {
    pages = λ k. kept_next x (owner_of old.pages.slots.items (get_or list k 0)) (owner_of new.pages.slots.items (get_or list k 0)) ((c.pages).owners (get_or list k 0) (kept.pages k)) (kept.pages k);
    blocks = λ k. subst (λ i. IsKept x (owner_of new.blocks.slots.items i)) (sym (kept_ids list kept.pages k))
        (kept_next x (owner_of old.blocks.slots.items (flat old.pages.slots.items list k)) (owner_of new.blocks.slots.items (flat old.pages.slots.items list k))
        ((c.blocks).owners (flat old.pages.slots.items list k) (kept.blocks k)) (kept.blocks k));
  }

  pub kept_words : (list : List ℕ) → AreKeptIn x old list → (k : ℕ) → words_at new list k ≡ words_at old list k
  kept_words list kept k = ap (words_of new.blocks.slots.items) (kept_ids list kept.pages k) ∙ ap words_in ((c.blocks).values (flat old.pages.slots.items list k) (kept.blocks k))

  -- the pages and blocks of another set stay its own
  pub others_held : (v : ℕ) → v ≢ x → (list : List ℕ) → AreHeldIn v old list → AreHeldIn v new list
  others_held v n list h = record {
    pages = held_others x most v old.pages.slots new.pages.slots (λ k. get_or list k 0) c.pages n h.pages;
    blocks = held_same v new.blocks.slots.items (flat old.pages.slots.items list) (flat new.pages.slots.items list) (kept_ids list (others_kept x v old n list h).pages)
        (held_others x (16 * most) v old.blocks.slots new.blocks.slots (flat old.pages.slots.items list) c.blocks n h.blocks);
  }

-- the pages of a set that has none are those of all
pub none_kept : (x : ℕ) (pools : Pools) (list : List ℕ) → list ≡ [] → AreKeptIn x pools list
none_kept x pools list e = record {
  pages = λ k. subst (λ l. IsKept x (owner_of pools.pages.slots.items (get_or l k 0))) (sym e) (subst (λ i. IsKept x (owner_of pools.pages.slots.items i)) (sym (get_or_past [] k 0 (omega arith))) tt);
  blocks = λ k. subst (λ l. IsKept x (owner_of pools.blocks.slots.items (flat pools.pages.slots.items l k))) (sym e) (subst (λ i. IsKept x (owner_of pools.blocks.slots.items i)) (sym (none k)) tt);
}
  where
    none : (k : ℕ) → flat pools.pages.slots.items [] k ≡ 0
    none k = ap (λ i. id_on pools.pages.slots.items i (k % 16)) (get_or_past [] (k / 16) 0 (omega arith)) ∙ get_or_past [] (k % 16) 0 (omega arith)

-- The blocks `first` of the page `mine` of x became `joined`, and these are those of the page `next` now.
module _ (x mine next : ℕ) (old new : Pools) (first joined : ℕ → ℕ) (was : (k : ℕ) → first k ≡ page_id old mine k) (is : (k : ℕ) → page_id new next k ≡ joined k) where
  pub page_put : (most : ℕ) → most ≤ 16 → Replaces x mine next old.pages.slots new.pages.slots → PutsPage x most first joined old.blocks.slots new.blocks.slots → ReplacesPage x mine next old new
  page_put most few r p = record {
    page = r;
    blocks = puts_same x most 16 first joined (page_id old mine) (page_id new next) old.blocks.slots new.blocks.slots few was (λ k. sym (is k)) p;
  }

  pub bits_put : (other : ℕ) (more : ℕ → ℕ) → ((k : ℕ) → more k ≡ page_id old other k)
      → ((k j : ℕ) → k < 16 → HasBit (words_of new.blocks.slots.items (joined k)) j ↔ (HasBit (words_of old.blocks.slots.items (first k)) j ⊎ HasBit (words_of old.blocks.slots.items (more k)) j))
      → (k j : ℕ) → k < 16 → HasBit (words_on new next k) j ↔ (HasBit (words_on old mine k) j ⊎ HasBit (words_on old other k) j)
  bits_put other more which bits k j low =
      subst (λ i. HasBit (words_of new.blocks.slots.items i) j ↔ (HasBit (words_on old mine k) j ⊎ HasBit (words_on old other k) j)) (sym (is k))
      (subst (λ i. HasBit (words_of new.blocks.slots.items (joined k)) j ↔ (HasBit (words_of old.blocks.slots.items i) j ⊎ HasBit (words_on old other k) j)) (was k)
      (subst (λ i. HasBit (words_of new.blocks.slots.items (joined k)) j ↔ (HasBit (words_of old.blocks.slots.items (first k)) j ⊎ HasBit (words_of old.blocks.slots.items i) j)) (which k) (bits k j low)))

-- a page with the value of another has its ids
pub ids_same : (a b : List (Slot Page)) (i j k : ℕ) → value_of a i ≡ value_of b j → id_on a i k ≡ id_on b j k
ids_same a b i j k e = ap (λ p. get_or (ids_in p) k 0) e

-- The set of x has the page `next` in place of that at a place of its list.
module _ (x page next : ℕ) (list : List ℕ) (old new : Pools) (fits : page < length list) (h : AreHeldIn x old list) (r : ReplacesPage x (get_or list page 0) next old new) where
  there : get_or (set list page next) page 0 ≡ next
  there = get_or-set_same list page next 0 fits

  elsewhere : (k : ℕ) → k ≢ page → get_or (set list page next) k 0 ≡ get_or list k 0
  elsewhere k n = get_or-set_other list page k next 0 n

  -- the other pages have the ids that they had
  aside : (k : ℕ) → k / 16 ≢ page → flat new.pages.slots.items (set list page next) k ≡ flat old.pages.slots.items list k
  aside k n =
      ap (λ i. id_on new.pages.slots.items i (k % 16)) (elsewhere (k / 16) n) ∙
      ap (λ p. get_or (ids_in p) (k % 16) 0)
      (value_beside x page next (λ k. get_or list k 0) (λ k. get_or (set list page next) k 0) old.pages.slots new.pages.slots there elsewhere h.pages r.page (k / 16) n)

  was : (k : ℕ) → k / 16 ≡ page → flat old.pages.slots.items list k ≡ page_id old (get_or list page 0) (k % 16)
  was k e = ap (λ i. id_on old.pages.slots.items (get_or list i 0) (k % 16)) e

  is : (k : ℕ) → k / 16 ≡ page → flat new.pages.slots.items (set list page next) k ≡ page_id new next (k % 16)
  is k e = ap (λ i. id_on new.pages.slots.items (get_or (set list page next) i 0) (k % 16)) e ∙ ap (λ i. id_on new.pages.slots.items i (k % 16)) there

  pub held_page : AreHeldIn x new (set list page next)
  held_page = record {
    pages = held_next x page next (λ k. get_or list k 0) (λ k. get_or (set list page next) k 0) old.pages.slots new.pages.slots there elsewhere h.pages r.page;
    blocks = (r.blocks).held page (flat old.pages.slots.items list) (flat new.pages.slots.items (set list page next)) was is aside h.blocks;
  }

  -- the numbers of the other pages are as before
  pub words_aside : (k : ℕ) → k / 16 ≢ page → words_at new (set list page next) k ≡ words_at old list k
  words_aside k n = ap (words_of new.blocks.slots.items) (aside k n) ∙ (r.blocks).beside page (flat old.pages.slots.items list) was h.blocks k n

  pub words_there : (k : ℕ) → k / 16 ≡ page → words_at new (set list page next) k ≡ words_on new next (k % 16)
  words_there k e = ap (words_of new.blocks.slots.items) (is k e)

  pub words_before : (k : ℕ) → k / 16 ≡ page → words_at old list k ≡ words_on old (get_or list page 0) (k % 16)
  words_before k e = ap (words_of old.blocks.slots.items) (was k e)

pub changes_both : (x most mine next : ℕ) (old between new : Pools) → ChangesBoth x most old between → ReplacesPage x mine next between new → ChangesBoth x (most + 1) old new
changes_both x most mine next old between new c r = record {
  pages = changes_next x most 1 old.pages.slots between.pages.slots new.pages.slots c.pages (r.page).changes;
  blocks = subst (λ n. Changes x n old.blocks.slots new.blocks.slots) by_pages (changes_next x (16 * most) 16 old.blocks.slots between.blocks.slots new.blocks.slots c.blocks (r.blocks).changes);
}
  where
    by_pages : 16 * most + 16 ≡ 16 * (most + 1)
    by_pages = omega arith
