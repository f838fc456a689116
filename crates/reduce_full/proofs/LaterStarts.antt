-- Two flows of one pair, of which full mode keeps the first.
use Rattle.std.proofs.Common.{◌≡◌, ◌≢◌, ℕ, zero, suc, ◌<◌, ◌≤◌, List, [], ◌∷◌, refl, ap, ◌∙◌, Some, arith}
use Rattle.std.specs.Prelude.{slice_index_or}
use Rattle.std.specs.List.{Contains}
use Rattle.flow_base.specs.declared.types.Flow.{Flow}
use Rattle.flow_base.specs.declared.types.How.TheVariants.{Read}
use Rattle.reach_model.specs.declared.modes.Mode.TheVariants.{Full}
use Rattle.reach_model.specs.declared.modes.Verdict.TheVariants.{Drop, Add}
use Rattle.reach_model.specs.Flows.{source, target, time, place, IsLawful}
use Rattle.reach_model.specs.Paths.{Path, Fore, IsSince}
use Rattle.reach_model.specs.Laws.{AnswersAll}
use Rattle.reach_model.specs.Rows.{Row, IsLinked, Keeps, more, none, row_of, lasts}

abbrev from_0_to_1 : ℕ → ℕ → Flow
from_0_to_1 ms place = record { from = record { 0 = 0 }; to = record { 0 = 1 }; how = Read; at = record { ms = ms; place = place }; serial = 0 }

abbrev first : Flow
first = from_0_to_1 1 0

abbrev later : Flow
later = from_0_to_1 2 1

abbrev pub both : List Flow
both = first ∷ later ∷ []

abbrev pub kept : List Row
kept = row_of first ∷ []

-- an element of a list of one
only : {A : Type 0} (x y : A) → Contains (x ∷ []) y → x ≡ y
only x y (zero, h, e) = e
only x y (suc k, h, e) = absurd (omega (arith, h))

places : (k : ℕ) (d : Flow) → k < 2 → place (slice_index_or both k d) ≡ k
places zero d h = refl
places (suc zero) d h = refl
places (suc (suc k)) d h = absurd (omega (arith, h))

times : (j k : ℕ) (d : Flow) → j ≤ k → k < 2 → time (slice_index_or both j d) ≤ time (slice_index_or both k d)
times zero zero d l h = omega arith
times zero (suc zero) d l h = omega arith
times (suc zero) (suc zero) d l h = omega arith
times (suc j) zero d l h = absurd (omega (arith, l))
times (suc (suc j)) (suc zero) d l h = absurd (omega (arith, l))
times j (suc (suc k)) d l h = absurd (omega (arith, h))

ends : (k : ℕ) (d : Flow) → k < 2 → source (slice_index_or both k d) ≢ target (slice_index_or both k d)
ends zero d h = λ e. absurd (omega (arith, e))
ends (suc zero) d h = λ e. absurd (omega (arith, e))
ends (suc (suc k)) d h = absurd (omega (arith, h))

pub are_lawful : IsLawful both
are_lawful = record { places = places; times = times; ends = ends }

linked : IsLinked kept later
linked = record {
  by = first;
  kept = (0, omega arith, refl);
  pair = (refl, refl);
  no_inflow_since = λ h c e. let out : 1 ≡ 0 = ap target (only first h c) ∙ e in absurd (omega (arith, out));
}

pub are_kept : Keeps Full both kept
are_kept = more later Drop (more first Add none (λ l. absurd (omega (arith, (l.kept).1)))) linked

-- no flow of the rows is so late
none_so_late : (p : List Flow) → ¬ Path (λ f. Contains (lasts kept) f × IsSince (Some 2) f) 0 0 1 p
none_so_late [] w = absurd (omega (arith, w))
none_so_late (f ∷ p) w =
    let at : 1 ≡ time f = ap time (only first f w.0.0) in
    let since : 2 ≤ time f = w.0.1 in
    absurd (omega (arith, at, since))

pub not_all : ¬ AnswersAll both kept
not_all answers =
    let found : Fore (lasts kept) 0 (Some 2) 1 = (answers.fore 0 (Some 2) 1).1 (later ∷ [], (((1, omega arith, refl), omega arith), omega arith, refl, refl)) in
    none_so_late found.0 found.1
