-- Choosing some of a list of numbers.
use Rattle.std.proofs.Common.{◌≡◌, ℕ, ◌<◌, ◌↔◌, List, [], ◌∷◌, ◌++◌, Option, Some, None, length, sym, subst, refl, ◌∙◌, arith, inl, inr}
use Rattle.std.specs.List.{Contains}
use Rattle.std.specs.Option.{IfSome}
use Rattle.std.proofs.lemmas.List.{get_or_default, get_or_append_left, get_or_push, length-append}
use Rattle.std.proofs.lemmas.List.Elements.{Contains-push, Contains-push_cases, Contains-append_left}
use Rattle.reach_model.specs.Ids.{IsAscending}
use Rattle.reach_model.proofs.Ascending.{ascending_push}
use Rattle.kept_flows.specs.Answering.{AreThose}

pub told : {X : Type 0} (P : X → Type 0) (o : Option X) → IfSome o P → (x : X) → o ≡ Some x → P x
told P o i x e = subst (λ r. IfSome r P) e i

pub if_told : {X : Type 0} (P : X → Type 0) (o : Option X) → ((x : X) → o ≡ Some x → P x) → IfSome o P
if_told P None h = tt
if_told P (Some x) h = h x refl

module _ (xs : List ℕ) (x : ℕ) where
  longer : (k : ℕ) → k < length xs → k < length (xs ++ x ∷ [])
  longer k h = simp length-append (omega arith)

  front : IsAscending (xs ++ x ∷ []) → IsAscending xs
  front a j k h hk = let hj : j < length xs = omega arith in
      rw (get_or_append_left xs (x ∷ []) 0 j hj) at (rw (get_or_append_left xs (x ∷ []) 0 k hk) at (a j k h (longer k hk)))

  below_last : IsAscending (xs ++ x ∷ []) → (u : ℕ) → Contains xs u → u < x
  below_last a u c =
      let less = a c.0 (length xs) c.1 (simp length-append (omega arith)) in
      subst (λ y. y < x) (get_or_default xs c.0 0 u c.1 ∙ c.2) (rw (get_or_append_left xs (x ∷ []) 0 c.0 c.1) at (rw (get_or_push xs x 0 (length xs) refl) at less))

  -- one that meets P is put last
  pub those_more : (P : ℕ → Type 0) (those : List ℕ) → P x → AreThose P xs those → AreThose P (xs ++ x ∷ []) (those ++ x ∷ [])
  those_more P those p t = record {
    ascend = λ a. ascending_push those x (t.ascend (front a)) (λ u c. below_last a u ((t.exact u).0 c).1);
    exact = λ u. (
      λ c. elim (Contains-push_cases those x u c) [
        | inl old ↦ let o = (t.exact u).0 old in (o.0, Contains-append_left xs (x ∷ []) u o.1)
        | inr new ↦ (subst P new p, subst (Contains (xs ++ x ∷ [])) new (Contains-push xs x))
      ],
      λ both. elim (Contains-push_cases xs x u both.1) [
        | inl old ↦ Contains-append_left those (x ∷ []) u ((t.exact u).1 (both.0, old))
        | inr new ↦ subst (Contains (those ++ x ∷ [])) new (Contains-push those x)
      ],
    );
  }

  -- and another is passed over
  pub those_passed : (P : ℕ → Type 0) (those : List ℕ) → ¬ P x → AreThose P xs those → AreThose P (xs ++ x ∷ []) those
  those_passed P those fails t = record {
    ascend = λ a. t.ascend (front a);
    exact = λ u. (
      λ c. let o = (t.exact u).0 c in (o.0, Contains-append_left xs (x ∷ []) u o.1),
      λ both. elim (Contains-push_cases xs x u both.1) [
        | inl old ↦ (t.exact u).1 (both.0, old)
        | inr new ↦ absurd (fails (subst P (sym new) both.0))
      ],
    );
  }

-- all meet what always holds
pub those_all : (P : ℕ → Type 0) (xs : List ℕ) → ((x : ℕ) → P x) → AreThose P xs xs
those_all P xs all = record { ascend = λ a. a; exact = λ x. (λ c. (all x, c), λ both. both.1) }

-- none of none
pub those_none : (P : ℕ → Type 0) → AreThose P [] []
those_none P = record { ascend = λ a. a; exact = λ x. (λ c. absurd (omega (arith, c.1)), λ both. both.1) }

-- what means the same chooses the same
pub those_same : (P Q : ℕ → Type 0) (xs those : List ℕ) → ((x : ℕ) → P x ↔ Q x) → AreThose P xs those → AreThose Q xs those
those_same P Q xs those same t = record {
  ascend = t.ascend;
  exact = λ x. (
    λ c. let o = (t.exact x).0 c in ((same x).0 o.0, o.1),
    λ both. (t.exact x).1 ((same x).1 both.0, both.1),
  );
}
