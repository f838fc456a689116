-- Versions of objects in a list of kept flows.
use Rattle.std.specs.Prelude.{◌≡◌, ℕ, ◌+◌, ◌<◌, List, [], ◌∷◌, ◌++◌, length, reverse, take, slice_index_or, Option, Some, None, Bool, false, cond, ◌==◌, ◌&&◌}
use Rattle.std.specs.List.{IsDistinct, count_by}
use Rattle.std.specs.Prelude.{nat_eq}
use Rattle.std.specs.List.{Contains}
use Rattle.flow_base.specs.declared.types.Flow.{Flow}
use Rattle.reach_model.specs.Flows.{source, target}
use Rattle.reach_model.specs.Paths.{Reaches}
use Rattle.reach_model.specs.Sources.{first_at, IsSource}
use Rattle.reach_model.specs.Rows.{Row, SamePair, firsts}

-- there is such a flow, and it leaves x
abbrev pub leaves : Option Flow → ℕ → Bool
leaves None x = false
leaves (Some f) x = source f == x

-- the last flow of K that has x at an end leaves it, so the next flow into it opens a version
abbrev pub is_sealed : List Flow → ℕ → Bool
is_sealed K x = leaves (first_at (reverse K) x) x

-- how many flows of K, which come after done, enter x while it is sealed
abbrev pub opened : List Flow → List Flow → ℕ → ℕ
opened done [] x = 0
opened done (f ∷ K) x = cond ((target f == x) && is_sealed done x) 1 0 + opened (done ++ f ∷ []) K x

-- the version of x after the flows K
abbrev pub version : List Flow → ℕ → ℕ
version K x = opened [] K x

-- Full: two kept flows of one pair leave two versions of their source
abbrev pub LeavesOnce : List Row → Type 0
LeavesOnce R = (i j : ℕ) (d : Flow) → i < j → j < length (firsts R) → SamePair (slice_index_or (firsts R) i d) (slice_index_or (firsts R) j d)
    → version (take i (firsts R)) (source (slice_index_or (firsts R) j d)) < version (take j (firsts R)) (source (slice_index_or (firsts R) j d))

-- Source: at least as many sources reach v as kept flows enter it
abbrev pub HasSourceForEach : List Flow → List Row → Type 0
HasSourceForEach F R = (v : ℕ) → (xs : List ℕ) × IsDistinct nat_eq xs × ((x : ℕ) → Contains xs x → IsSource F x × Reaches (Contains F) 0 x v) × (length xs ≡ count_by (λ f. target f == v) (firsts R))
