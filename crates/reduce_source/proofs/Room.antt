-- The room that is left after a union.
use Rattle.std.proofs.Common.{◌≡◌, ℕ, zero, suc, ◌+◌, ◌*◌, ◌<◌, ◌≤◌, List, [], ◌∷◌, length, get_or, refl, sym, subst, arith}
use Rattle.std.specs.List.{Contains}
use Rattle.flow_base.specs.declared.types.Flow.{Flow}
use Rattle.reach_model.specs.Flows.{source, target}
use Rattle.std.specs.Vec.{vec_capacity}
use Rattle.reduce_source.specs.Pools.{Adds, Fits}
use Rattle.reduce_source.specs.Shelves.{IsAsWide}
use Rattle.reduce_source.specs.Sets.{HasRoom, IsBetween, count_after}
use Rattle.reduce_source.specs.declared.standing.Standing.{Standing}
use Rattle.reduce_source.specs.declared.standing.Standing.TheVariants.{Unknown, Entered, Source}
use Rattle.reduce_source.specs.declared.pools.Pools.{Pools}
use Rattle.reduce_source.specs.declared.sets.SourceSets.{SourceSets}

-- the ends of the next flow have places
pub ends_fit : (s : SourceSets) (f : Flow) (rest : List Flow) (u v : ℕ) → HasRoom s (f ∷ rest) → IsBetween f u v → (u < length s.standings.items) × (v < length s.standings.items)
ends_fit s f rest u v r b =
    let e = r.ends f (0, omega arith, refl) in
    (subst (λ x. x < length s.standings.items) b.0 e.0, subst (λ x. x < length s.standings.items) b.1 e.1)

-- the sets of the ends of the next flow are wide
pub wide_ends : (s : SourceSets) (f : Flow) (rest : List Flow) (u v : ℕ) → HasRoom s (f ∷ rest) → IsBetween f u v
    → (s.shared.width ≤ length (get_or s.shared.sets.items u [])) × (s.shared.width ≤ length (get_or s.shared.sets.items v []))
wide_ends s f rest u v r b =
    let w = r.wide f (0, omega arith, refl) in
    (subst (λ x. s.shared.width ≤ length (get_or s.shared.sets.items x [])) b.0 w.0, subst (λ x. s.shared.width ≤ length (get_or s.shared.sets.items x [])) b.1 w.1)

-- at most one number is used up
count_bound : (o : Standing) (n : ℕ) → count_after o n ≤ n + 1
count_bound Unknown n = omega arith
count_bound Entered n = omega arith
count_bound (Source m) n = omega arith

by_parts : (n m : ℕ) → suc n * m ≡ n * m + m
by_parts n m = omega arith

-- room for more pages is room for fewer
pub fits_fewer : (more fewer : ℕ) (pools : Pools) → fewer ≤ more → Fits more pools → Fits fewer pools
fits_fewer more fewer pools low f = record {
  pages = let p = f.pages in omega (arith, p, low);
  blocks = let p = f.blocks in omega (arith, p, low);
  few_pages = let p = f.few_pages in omega (arith, p, low);
  few_blocks = let p = f.few_blocks in omega (arith, p, low);
}

-- the room that is left after some pages were added
pub fits_left : (more added : ℕ) (old new : Pools) → Adds added old new → vec_capacity new.pages.slots ≡ vec_capacity old.pages.slots → vec_capacity new.blocks.slots ≡ vec_capacity old.blocks.slots
    → Fits (more + added) old → Fits more new
fits_left more added old new a cp cb f = record {
  pages = let p = f.pages in let q = a.pages in omega (arith, p, q, cp);
  blocks = let p = f.blocks in let q = a.blocks in omega (arith, p, q, cb);
  few_pages = let p = f.few_pages in let q = a.pages in omega (arith, p, q);
  few_blocks = let p = f.few_blocks in let q = a.blocks in omega (arith, p, q);
}

pub room_left : (old new : SourceSets) (o : Standing) → new.count ≡ count_after o old.count → length new.standings.items ≡ length old.standings.items
    → IsAsWide old.shared new.shared → Adds (old.shared.width + 1) old.shared.pools new.shared.pools
    → (f : Flow) (rest : List Flow) → HasRoom old (f ∷ rest) → HasRoom new rest
room_left old new o count places wide used f rest r = record {
  ends = λ g c. let e = r.ends g (suc c.0, omega (arith, c.1), c.2) in (subst (λ n. source g < n) (sym places) e.0, subst (λ n. target g < n) (sym places) e.1);
  objects = let a = r.objects in let b = wide.objects in omega (arith, a, b, places);
  wide = λ g c.
      let w = r.wide g (suc c.0, omega (arith, c.1), c.2) in
      let a = wide.places (source g) in
      let b = wide.places (target g) in
      let e = wide.width in
      (omega (arith, w.0, a, e), omega (arith, w.1, b, e));
  numbers = let b = count_bound o old.count in let n = r.numbers in let e = wide.width in omega (arith, b, n, e, count);
  counted = let b = count_bound o old.count in let n = r.counted in omega arith;
  fits = subst (λ w. Fits (length rest * (w + 1)) new.shared.pools) (sym wide.width)
      (fits_left (length rest * (old.shared.width + 1)) (old.shared.width + 1) old.shared.pools new.shared.pools used wide.pages wide.blocks
      (subst (λ n. Fits n old.shared.pools) (by_parts (length rest) (old.shared.width + 1)) r.fits));
}

-- room for flows is room for the first of them
pub room_one : (s : SourceSets) (f : Flow) (rest : List Flow) → HasRoom s (f ∷ rest) → HasRoom s (f ∷ [])
room_one s f rest r = record {
  ends = λ g c. r.ends g (first g c);
  objects = r.objects;
  wide = λ g c. r.wide g (first g c);
  numbers = let n = r.numbers in omega arith;
  counted = let n = r.counted in omega arith;
  fits = fits_fewer (length (f ∷ rest) * (s.shared.width + 1)) (length (f ∷ []) * (s.shared.width + 1)) s.shared.pools (let e = by_parts (length rest) (s.shared.width + 1) in omega (arith, e)) r.fits;
}
  where
    first : (g : Flow) → Contains (f ∷ []) g → Contains (f ∷ rest) g
    first g (zero, h, e) = (zero, omega arith, e)
    first g (suc k, h, e) = absurd (omega (arith, h))

-- and for those after it
pub room_rest : (s : SourceSets) (f : Flow) (rest : List Flow) → HasRoom s (f ∷ rest) → HasRoom s rest
room_rest s f rest r = room_left s s Entered refl refl (record { places = λ v. refl; objects = refl; pages = refl; blocks = refl; width = refl }) (record { pages = omega arith; blocks = omega arith }) f rest r
