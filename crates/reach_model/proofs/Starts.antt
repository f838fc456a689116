-- A start at an object's first flow misses none of its flows.
use Rattle.std.proofs.Common.{◌≡◌, ℕ, zero, suc, ◌<◌, ◌≤◌, List, [], ◌∷◌, length, get_or, Option, Some, None, true, cond, sym, ap, subst, ◌∙◌, arith, inl, inr}
use Rattle.std.specs.List.{Contains}
use Rattle.std.proofs.lemmas.Bool.{cases_Bool}
use Rattle.flow_base.specs.declared.types.Flow.{Flow}
use Rattle.reach_model.specs.Flows.{time, place, IsLawful}
use Rattle.reach_model.specs.Sources.{touches, first_at, StartsBy, IsStartAllowed}
use Rattle.reach_model.proofs.Lawful.{place_at, times_ordered}
use Rattle.reach_model.proofs.FirstFlows.{known_by, known_or_not, touches_source}
use Rattle.reach_model.proofs.Exists.{first_member}
use Rattle.reach_model.proofs.SingleRows.{IsFromFirst}

-- the first flow stands at a place before which no flow has the object at an end
first_index : (F : List Flow) (x : ℕ) (g : Flow) → first_at F x ≡ Some g → (f : Flow) (c : Contains F f) → touches f x ≡ true → (k : ℕ) × (k ≤ c.0) × (k < length F) × (get_or F k g ≡ g)
first_index [] x g e f c t = absurd (omega (arith, c.1))
first_index (h ∷ F) x g e f (zero, low, is) t =
    let hit : touches h x ≡ true = ap (λ f. touches f x) is ∙ t in
    let s : Some h ≡ Some g = sym (ap (λ b. cond b (Some h) (first_at F x)) hit) ∙ e in
    let same : h ≡ g = cc in (0, omega arith, omega arith, same)
first_index (h ∷ F) x g e f (suc k, low, is) t = elim (cases_Bool (touches h x)) [
  | inl hit ↦ let s : Some h ≡ Some g = sym (ap (λ b. cond b (Some h) (first_at F x)) hit) ∙ e in let same : h ≡ g = cc in (0, omega arith, omega arith, same)
  | inr miss ↦ let r = first_index F x g (sym (ap (λ b. cond b (Some h) (first_at F x)) miss) ∙ e) f (k, omega (arith, low), is) t in
      (suc r.0, omega (arith, r.1), omega (arith, r.2), r.3)
]

pub first_least : {F : List Flow} → IsLawful F → (x : ℕ) (g f : Flow) → first_at F x ≡ Some g → Contains F f → touches f x ≡ true → place g ≤ place f
first_least {F} l x g f e c t = let r = first_index F x g e f c t in
    omega (arith, place_at l g (r.0, r.2, r.3), place_at l f c)

-- so a start that is no later than the object's first flow is no later than any flow that leaves it
pub from_first : {F : List Flow} → IsLawful F → (u : ℕ) (s : Option ℕ) → IsStartAllowed F u s → IsFromFirst F u s
from_first {F} l u None h f c e = h
from_first {F} l u (Some s) h f c e = elim (known_or_not F u) [
  | inl k ↦ let low = first_least l u k.0 f k.1 c (touches_source f u e) in
      let t = times_ordered l k.0 f (first_member F u k.0 k.1) c low in
      let a : s ≤ time k.0 = subst (λ o. StartsBy o s) k.1 h in omega arith
  | inr nobody ↦ let k = known_by F f u c (touches_source f u e) in let clash : None ≡ Some k.0 = sym nobody ∙ k.1 in absurd (cc)
]
