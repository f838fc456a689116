-- Objects are numbered by first appearance.
use Rattle.std.specs.Prelude.{◌≡◌, ◌≢◌, ℕ, suc, ◌<◌, ◌≤◌, max, List, [], ◌∷◌, length, take, slice_index_or}
use Rattle.std.specs.List.{Contains}
use Rattle.flow_base.specs.declared.types.Flow.{Flow}
use Rattle.reach_model.specs.Flows.{source, target, time, place, IsLawful}

-- one more than the greatest number at an end of a flow
abbrev pub beyond : Flow → ℕ
beyond f = max (suc (source f)) (suc (target f))

-- how many objects the flows know: one more than the greatest number at an end
abbrev pub known : List Flow → ℕ
known [] = 0
known (f ∷ F) = max (beyond f) (known F)

-- each number is known, or the next one; the source of a flow goes before its target
pub record IsNumbered (F : List Flow) : Type 0 where
  pub sources : (k : ℕ) (d : Flow) → k < length F → source (slice_index_or F k d) ≤ known (take k F)
  pub targets : (k : ℕ) (d : Flow) → k < length F → target (slice_index_or F k d) ≤ max (known (take k F)) (suc (source (slice_index_or F k d)))

-- a lawful list of flows between this many objects, which are numbered by first appearance
pub record IsLawfulWith (count : ℕ) (F : List Flow) : Type 0 where
  pub lawful : IsLawful F
  pub numbered : IsNumbered F
  pub objects : known F ≡ count

-- f can come next: it has the next place, no flow so far is later, its ends differ, and each end is known or the next one,
-- its source before its target
pub record MayFollow (F : List Flow) (f : Flow) : Type 0 where
  pub next_place : place f ≡ length F
  pub no_earlier : (g : Flow) → Contains F g → time g ≤ time f
  pub ends_differ : source f ≢ target f
  pub source_known_or_next : source f ≤ known F
  pub target_known_or_next : target f ≤ max (known F) (suc (source f))
