-- What a lawful list of flows says of its members.
use Rattle.std.proofs.Common.{◌≡◌, ◌≢◌, ℕ, ◌<◌, ◌≤◌, List, [], ◌∷◌, ◌++◌, length, get_or, refl, sym, ap, ◌∙◌, arith, subst, inl, inr}
use Rattle.std.specs.List.{Contains}
use Rattle.std.proofs.lemmas.List.{get_or_default, get_or_append_left, get_or_push, length-append}
use Rattle.std.proofs.lemmas.List.Elements.{Contains-push, Contains-get_or}
use Rattle.std.proofs.lemmas.Bool.{cases_lt}
use Rattle.flow_base.specs.declared.types.Flow.{Flow}
use Rattle.reach_model.specs.Flows.{source, target, time, place, IsLawful}

pub place_at : {F : List Flow} → IsLawful F → (f : Flow) (c : Contains F f) → place f ≡ c.0
place_at l f c = ap place (sym c.2) ∙ l.places c.0 f c.1

pub ends_differ : {F : List Flow} → IsLawful F → (f : Flow) → Contains F f → source f ≢ target f
ends_differ l f c = rw c.2 at (l.ends c.0 f c.1)

pub below_length : {F : List Flow} → IsLawful F → (f : Flow) → Contains F f → place f < length F
below_length {F} l f c = let e = place_at l f c in omega (arith, c.1)

pub same_place : {F : List Flow} → IsLawful F → (f g : Flow) → Contains F f → Contains F g → place f ≡ place g → f ≡ g
same_place {F} l f g c d e =
    let same : c.0 ≡ d.0 = sym (place_at l f c) ∙ e ∙ place_at l g d in
    sym c.2 ∙ get_or_default F c.0 f g c.1 ∙ ap (λ k. get_or F k g) same ∙ d.2

pub times_ordered : {F : List Flow} → IsLawful F → (f g : Flow) → Contains F f → Contains F g → place f ≤ place g → time f ≤ time g
times_ordered {F} l f g c d h =
    let low : c.0 ≤ d.0 = omega (arith, place_at l f c, place_at l g d) in
    let t : time (get_or F c.0 f) ≤ time (get_or F d.0 f) = l.times c.0 d.0 f low d.1 in
    let is_f : get_or F c.0 f ≡ f = c.2 in
    let is_g : get_or F d.0 f ≡ g = get_or_default F d.0 f g d.1 ∙ d.2 in
    subst (λ x. time f ≤ time x) is_g (subst (λ x. time x ≤ time (get_or F d.0 f)) is_f t)

-- a list and a last flow
pub lawful_front : (F : List Flow) (f : Flow) → IsLawful (F ++ f ∷ []) → IsLawful F
lawful_front F f l = record {
  places = λ k d h. rw (get_or_append_left F (f ∷ []) d k h) at (l.places k d (longer k h));
  times = λ j k d i h. let low : j < length F = omega arith in
      rw (get_or_append_left F (f ∷ []) d j low) at (rw (get_or_append_left F (f ∷ []) d k h) at (l.times j k d i (longer k h)));
  ends = λ k d h. rw (get_or_append_left F (f ∷ []) d k h) at (l.ends k d (longer k h));
}
  where
    longer : (k : ℕ) → k < length F → k < length (F ++ f ∷ [])
    longer k h = simp length-append (omega arith)

pub lawful_push : (F : List Flow) (f : Flow) → IsLawful F → place f ≡ length F → ((g : Flow) → Contains F g → time g ≤ time f) → source f ≢ target f → IsLawful (F ++ f ∷ [])
lawful_push F f l next no_earlier differ = record {
  places = λ k d h. elim (cases_lt k (length F)) [
    | inl old ↦ rw (get_or_append_left F (f ∷ []) d k old) (l.places k d old)
    | inr new ↦ let e = at_end k h new in rw (get_or_push F f d k e) (next ∙ e)
  ];
  times = λ j k d i h. elim (cases_lt k (length F)) [
    | inl old ↦ let low : j < length F = omega arith in
        rw (get_or_append_left F (f ∷ []) d j low, get_or_append_left F (f ∷ []) d k old) (l.times j k d i old)
    | inr new ↦ let e = at_end k h new in elim (cases_lt j (length F)) [
      | inl low ↦ rw (get_or_append_left F (f ∷ []) d j low, get_or_push F f d k e) (no_earlier (get_or F j d) (Contains-get_or F j d low))
      | inr high ↦ let e' : length F ≡ j = omega arith in rw (get_or_push F f d j e', get_or_push F f d k e) (omega arith)
    ]
  ];
  ends = λ k d h. elim (cases_lt k (length F)) [
    | inl old ↦ rw (get_or_append_left F (f ∷ []) d k old) (l.ends k d old)
    | inr new ↦ let e = at_end k h new in rw (get_or_push F f d k e) differ
  ];
}
  where
    at_end : (k : ℕ) → k < length (F ++ f ∷ []) → length F ≤ k → length F ≡ k
    at_end k h new = omega (arith, length-append F (f ∷ []))

pub last_place : (F : List Flow) (f : Flow) → IsLawful (F ++ f ∷ []) → place f ≡ length F
last_place F f l = ap place (sym (get_or_push F f f (length F) refl)) ∙ l.places (length F) f (simp length-append (omega arith))

pub last_ends : (F : List Flow) (f : Flow) → IsLawful (F ++ f ∷ []) → source f ≢ target f
last_ends F f l = ends_differ l f (Contains-push F f)

pub before_last : (F : List Flow) (f g : Flow) → IsLawful (F ++ f ∷ []) → Contains F g → place g < place f
before_last F f g l c = let e = last_place F f l in let b = below_length (lawful_front F f l) g c in omega arith
