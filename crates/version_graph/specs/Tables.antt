-- What the tables of versions say of the kept flows.
use Rattle.std.specs.Prelude.{◌≡◌, ℕ, ◌*◌, ◌<◌, ◌≤◌, ◌^◌, ◌↔◌, nat_eq, true, false, List, length, Option, Some, None}
use Rattle.indexmap.specs.IndexMap as index
use Rattle.flow_base.specs.declared.types.Flow.{Flow}
use Rattle.reach_model.specs.Pairs.{pair_eq}
use Rattle.reach_model.specs.Versions.{version, is_sealed}
use Rattle.version_graph.specs.Links.{HasLink}
use Rattle.version_graph.specs.declared.version.Version.{Version}
use Rattle.version_graph.specs.declared.versions.Versions.{Versions}

-- an object of which nothing is known is at version 0, unsealed
abbrev pub version_or : Option Version → Version
version_or None = record { number = 0; sealed = false }
version_or (Some current) = current

-- a flow from u to v left the version n of u, no later one than the current one. It is linked exactly if that version is
-- the current one, which is sealed then.
pub record IsLeft (K : List Flow) (u v n : ℕ) : Type 0 where
  pub begun : n ≤ version K u
  pub seal : n ≡ version K u → is_sealed K u ≡ true
  pub linked : (n ≡ version K u) ↔ HasLink K u v

abbrev pub IsLeftOf : List Flow → ℕ → ℕ → Option ℕ → Type 0
IsLeftOf K u v None = ¬ HasLink K u v
IsLeftOf K u v (Some n) = IsLeft K u v n

-- the tables are those of the kept flows K
pub record StandsFor (s : Versions) (K : List Flow) : Type 0 where
  pub numbers : (x : ℕ) → (version_or (index.get nat_eq s.objects x)).number ≡ version K x
  pub seals : (x : ℕ) → (version_or (index.get nat_eq s.objects x)).sealed ≡ is_sealed K x
  pub links : (u v : ℕ) → IsLeftOf K u v (index.get pair_eq s.links (u, v))

-- room for this many flows: two objects each and a pair
abbrev pub HasRoom : Versions → ℕ → Type 0
HasRoom s n = (2 * n ≤ index.spare s.objects) × (n ≤ index.spare s.links)

-- so few flows that their versions can be counted
abbrev pub AreFew : List Flow → Type 0
AreFew K = length K < 2 ^ 63
