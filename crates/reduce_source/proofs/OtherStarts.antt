-- Two flows out of a source, and one between their targets, which source mode drops.
use Rattle.std.proofs.Common.{◌≡◌, ◌≢◌, ℕ, zero, suc, ◌<◌, List, [], ◌∷◌, refl, sym, ap, subst, ◌∙◌, Some, None, arith}
use Rattle.std.specs.Prelude.{slice_index_or}
use Rattle.std.specs.List.{Contains}
use Rattle.flow_base.specs.declared.types.Flow.{Flow}
use Rattle.flow_base.specs.declared.types.How.TheVariants.{Read}
use Rattle.reach_model.specs.declared.modes.Mode.TheVariants.{Source}
use Rattle.reach_model.specs.declared.modes.Verdict.TheVariants.{Drop, Add}
use Rattle.reach_model.specs.Flows.{source, target, time, place, IsLawful}
use Rattle.reach_model.specs.Paths.{Path, Fore, IsSince}
use Rattle.reach_model.specs.Sources.{IsSource}
use Rattle.reach_model.specs.Laws.{AnswersFromFirst}
use Rattle.reach_model.specs.Rows.{Row, IsSourceOf, Keeps, more, none, row_of, lasts}

abbrev flow : ℕ → ℕ → ℕ → Flow
flow u v place = record { from = record { 0 = u }; to = record { 0 = v }; how = Read; at = record { ms = 0; place = place }; serial = 0 }

abbrev pub all : List Flow
all = flow 0 1 0 ∷ flow 0 2 1 ∷ flow 1 2 2 ∷ []

abbrev two : List Flow
two = flow 0 1 0 ∷ flow 0 2 1 ∷ []

abbrev one : List Flow
one = flow 0 1 0 ∷ []

abbrev pub kept : List Row
kept = row_of (flow 0 1 0) ∷ row_of (flow 0 2 1) ∷ []

places : (k : ℕ) (d : Flow) → k < 3 → place (slice_index_or all k d) ≡ k
places zero d h = refl
places (suc zero) d h = refl
places (suc (suc zero)) d h = refl
places (suc (suc (suc k))) d h = absurd (omega (arith, h))

at_once : (k : ℕ) (d : Flow) → k < 3 → time (slice_index_or all k d) ≡ 0
at_once zero d h = refl
at_once (suc zero) d h = refl
at_once (suc (suc zero)) d h = refl
at_once (suc (suc (suc k))) d h = absurd (omega (arith, h))

ends : (k : ℕ) (d : Flow) → k < 3 → source (slice_index_or all k d) ≢ target (slice_index_or all k d)
ends zero d h = λ e. absurd (omega (arith, e))
ends (suc zero) d h = λ e. absurd (omega (arith, e))
ends (suc (suc zero)) d h = λ e. absurd (omega (arith, e))
ends (suc (suc (suc k))) d h = absurd (omega (arith, h))

pub are_lawful : IsLawful all
are_lawful = record {
  places = places;
  times = λ j k d l h. let a = at_once j d (omega (arith, l, h)) in omega (arith, a);
  ends = ends;
}

-- each of the first two flows leaves object 0
leaves_0 : (f : Flow) → Contains two f → source f ≡ 0
leaves_0 f (zero, h, e) = sym (ap source e)
leaves_0 f (suc zero, h, e) = sym (ap source e)
leaves_0 f (suc (suc k), h, e) = absurd (omega (arith, h))

only : (f : Flow) → Contains one f → (source f ≡ 0) × (target f ≡ 1)
only f (zero, h, e) = (sym (ap source e), sym (ap target e))
only f (suc k, h, e) = absurd (omega (arith, h))

no_path : (v : ℕ) (p : List Flow) → 0 ≢ v → ¬ Path (Contains []) 0 0 v p
no_path v [] apart w = apart w
no_path v (f ∷ p) apart w = absurd (omega (arith, (w.0).1))

not_to_2 : (p : List Flow) → ¬ Path (Contains one) 0 0 2 p
not_to_2 [] w = absurd (omega (arith, w))
not_to_2 (f ∷ []) w = let at = (only f w.0).1 in let there : target f ≡ 2 = w.3 in absurd (omega (arith, at, there))
not_to_2 (f ∷ g ∷ p) w =
    let at = (only f w.0).1 in
    let from = (only g w.3.0).0 in
    let next : source g ≡ target f = w.3.2 in
    absurd (omega (arith, at, from, next))

-- object 1 is no source
not_1 : ¬ IsSource all 1
not_1 (f, at, from) =
    let same : Some (flow 0 1 0) ≡ Some f = at in
    let is : flow 0 1 0 ≡ f = cc in
    let out : 0 ≡ 1 = ap source is ∙ from in
    absurd (omega (arith, out))

-- a source that reaches object 1 is object 0, which reaches object 2
covered : (x : ℕ) → IsSourceOf two (flow 1 2 2) 1 x → IsSourceOf two (flow 1 2 2) 2 x
covered x (is, ([], w)) = absurd (not_1 (subst (IsSource all) w is))
covered x (is, (f ∷ p, w)) =
    let at : 0 ≡ x = sym (leaves_0 f w.0) ∙ w.2 in
    (is, (flow 0 2 1 ∷ [], ((1, omega arith, refl), omega arith, at, refl)))

pub are_kept : Keeps Source all kept
are_kept =
    more (flow 1 2 2) Drop
    (more (flow 0 2 1) Add
    (more (flow 0 1 0) Add none (0, ((flow 0 1 0, refl, refl), ([], refl)), λ s. no_path 1 s.1.0 (λ e. absurd (omega (arith, e))) s.1.1))
    (0, ((flow 0 1 0, refl, refl), ([], refl)), λ s. not_to_2 s.1.0 s.1.1))
    covered

-- no row leaves object 1
none_from_1 : (p : List Flow) → ¬ Path (λ f. Contains (lasts kept) f × IsSince None f) 0 1 2 p
none_from_1 [] w = absurd (omega (arith, w))
none_from_1 (f ∷ p) w =
    let from = leaves_0 f w.0.0 in
    let at : source f ≡ 1 = w.2 in
    absurd (omega (arith, from, at))

pub not_all : ¬ AnswersFromFirst all kept
not_all answers =
    let found : Fore (lasts kept) 1 None 2 = (answers.fore 1 None tt 2).1 (flow 1 2 2 ∷ [], (((2, omega arith, refl), tt), omega arith, refl, refl)) in
    none_from_1 found.0 found.1
