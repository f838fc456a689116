-- What a walk needs of the rows, if they are observable.
use Rattle.std.proofs.Common.{◌≡◌, ℕ, ◌<◌, List, length, arith}
use Rattle.std.specs.List.{Contains}
use Rattle.std.proofs.lemmas.List.{length-map}
use Rattle.flow_base.specs.declared.types.Flow.{Flow}
use Rattle.reach_model.specs.Flows.{source, target}
use Rattle.reach_model.specs.Numbers.{known as known_of}
use Rattle.reach_model.specs.Rows.{Row, firsts}
use Rattle.reach_model.proofs.Numbering.{ends_known}
use Rattle.reach_rows.specs.Kept.{AreRows}

-- lawful rows, their number, and objects below a number
pub record AreObserved (R : List Row) (count known : ℕ) : Type 0 where
  pub lawful : AreRows R
  pub all : length (firsts R) ≡ count
  pub sources : (f : Flow) → Contains (firsts R) f → source f < known
  pub targets : (f : Flow) → Contains (firsts R) f → target f < known

pub are_observed : (R : List Row) (count known : ℕ) → AreRows R → length R ≡ count → known_of (firsts R) ≡ known → AreObserved R count known
are_observed R count known lawful all objects = record {
  lawful = lawful;
  all = simp length-map all;
  sources = λ f c. let b = ends_known (firsts R) f c in omega (arith, b.0, objects);
  targets = λ f c. let b = ends_known (firsts R) f c in omega (arith, b.1, objects);
}
