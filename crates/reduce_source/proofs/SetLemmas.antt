-- What the tables say of the sources of an object.
use Rattle.std.proofs.Common.{◌≡◌, ◌≢◌, ◌↔◌, ◌<◌, ◌≤◌, ◌^◌, ℕ, List, length, Some, None, refl, sym, subst, ◌∙◌, ap}
use Rattle.flow_base.specs.declared.types.Flow.{Flow}
use Rattle.reach_model.specs.Flows.{source}
use Rattle.reach_model.specs.Sources.{first_at, IsSource}
use Rattle.reach_model.specs.SourceSets.{HasSource}
use Rattle.reduce_source.specs.Shelves.{HasNumber}
use Rattle.reduce_source.specs.Sets.{StandsFor, IsStanding, IsNumber, standing_of}
use Rattle.reduce_source.specs.declared.standing.Standing.{Standing}
use Rattle.reduce_source.specs.declared.standing.Standing.TheVariants.{Unknown, Entered, Source}
use Rattle.reduce_source.specs.declared.sets.SourceSets.{SourceSets}

-- an object without flows is no source
pub no_source : (K : List Flow) (x : ℕ) → first_at K x ≡ None → ¬ IsSource K x
no_source K x none s = let clash : None ≡ Some s.0 = sym none ∙ s.1 in absurd (cc)

-- a source has a number
pub numbered : (s : SourceSets) (K : List Flow) (x : ℕ) → IsStanding K x (standing_of s x) → IsSource K x → (n : ℕ) × IsNumber s x n
numbered s K x is src = by (standing_of s x) refl is
  where
    by : (o : Standing) → standing_of s x ≡ o → IsStanding K x o → (n : ℕ) × IsNumber s x n
    by Unknown e none = absurd (no_source K x none src)
    by Entered e (f, at, apart) = let same : Some f ≡ Some src.0 = sym at ∙ src.1 in let one : f ≡ src.0 = cc in absurd (apart (ap source one ∙ src.2))
    by (Source n) e is = (n, e)

-- where the numbers of one object are numbers of another, so are its sources
pub within_sets : (s : SourceSets) (K : List Flow) → StandsFor s K → (u v : ℕ) → ((n : ℕ) → HasNumber s.shared u n → HasNumber s.shared v n)
    → (x : ℕ) → HasSource K u x → HasSource K v x
within_sets s K st u v w x h =
    let num = numbered s K x (st.standings x) h.0 in
    let r = (st.sets v num.0).0 (w num.0 ((st.sets u num.0).1 (x, num.1, h))) in
    subst (HasSource K v) (st.apart r.0 x num.0 r.1 num.1) r.2

-- a number that one object alone has is a source that it alone has
pub missing_source : (s : SourceSets) (K : List Flow) → StandsFor s K → (u v n : ℕ) → HasNumber s.shared u n → ¬ HasNumber s.shared v n
    → (x : ℕ) × HasSource K u x × ¬ HasSource K v x
missing_source s K st u v n has lacks =
    let r = (st.sets u n).0 has in
    (r.0, r.2, λ h. lacks ((st.sets v n).1 (r.0, r.1, h)))

-- tables with the same standings and numbers say the same
pub same_tables : (old new : SourceSets) (K : List Flow) → ((x : ℕ) → standing_of new x ≡ standing_of old x) → ((v n : ℕ) → HasNumber new.shared v n ↔ HasNumber old.shared v n)
    → new.count ≡ old.count → (length old.standings.items ≤ 2 ^ 32 → length new.standings.items ≤ 2 ^ 32) → StandsFor old K → StandsFor new K
same_tables old new K same numbers count places s = record {
  standings = λ x. subst (IsStanding K x) (sym (same x)) (s.standings x);
  below = λ x n is. subst (λ m. n < m) (sym count) (s.below x n (sym (same x) ∙ is));
  apart = λ x y n a b. s.apart x y n (sym (same x) ∙ a) (sym (same y) ∙ b);
  sets = λ v n. (
    λ t. let r = (s.sets v n).0 ((numbers v n).0 t) in (r.0, same r.0 ∙ r.1, r.2),
    λ r. (numbers v n).1 ((s.sets v n).1 (r.0, sym (same r.0) ∙ r.1, r.2)),
  );
  places = places s.places;
}

-- an object with a standing has a first flow
pub first_of : (K : List Flow) (x : ℕ) (o : Standing) → o ≢ Unknown → IsStanding K x o → (g : Flow) × (first_at K x ≡ Some g)
first_of K x Unknown n is = absurd (n refl)
first_of K x Entered n (g, at, off) = (g, at)
first_of K x (Source m) n (g, at, out) = (g, at)
