-- Lines among others: one more of each kind, and all of them together.
use Rattle.std.proofs.Common.{◌≡◌, ◌∙◌, inl, inr, sym, refl, ap, subst, List, [], ◌∷◌, ◌++◌, append_assoc}
use Rattle.std.specs.List.Sorted.{IsPermutation}
use Rattle.std.proofs.lemmas.List.Sorted.{IsPermutation-refl, IsPermutation-trans, IsPermutation-cons, IsPermutation-middle}
use Rattle.audit_order.specs.Woven.{IsWoven}

pub woven_none : {A : Type 0} → IsWoven {A = A} [] [] [] []
woven_none = (refl, refl, refl)

-- one more after these
with_last : {A : Type 0} (lines rest : List A) (x line : A) → lines ≡ x ∷ rest → lines ++ line ∷ [] ≡ x ∷ (rest ++ line ∷ [])
with_last {A} lines rest x line is = ap (λ (l : List A). l ++ line ∷ []) is

first : {A : Type 0} (lines : List A) (line : A) → lines ≡ [] → lines ++ line ∷ [] ≡ line ∷ []
first {A} lines line is = ap (λ (l : List A). l ++ line ∷ []) is

pub woven_given : {A : Type 0} (ends peers given all : List A) (line : A) → IsWoven ends peers given all → IsWoven ends peers (given ++ line ∷ []) (all ++ line ∷ [])
woven_given ends peers given [] line w = inr (inr ([], first given line w.2, (w.0, w.1, refl)))
woven_given ends peers given (x ∷ all) line (inl w) = inl (w.0, w.1, woven_given w.0 peers given all line w.2)
woven_given ends peers given (x ∷ all) line (inr (inl w)) = inr (inl (w.0, w.1, woven_given ends w.0 given all line w.2))
woven_given ends peers given (x ∷ all) line (inr (inr w)) =
    inr (inr (w.0 ++ line ∷ [], with_last given w.0 x line w.1, woven_given ends peers w.0 all line w.2))

pub woven_end : {A : Type 0} (ends peers given all : List A) (line : A) → IsWoven ends peers given all → IsWoven (ends ++ line ∷ []) peers given (all ++ line ∷ [])
woven_end ends peers given [] line w = inl ([], first ends line w.0, (refl, w.1, w.2))
woven_end ends peers given (x ∷ all) line (inl w) = inl (w.0 ++ line ∷ [], with_last ends w.0 x line w.1, woven_end w.0 peers given all line w.2)
woven_end ends peers given (x ∷ all) line (inr (inl w)) = inr (inl (w.0, w.1, woven_end ends w.0 given all line w.2))
woven_end ends peers given (x ∷ all) line (inr (inr w)) = inr (inr (w.0, w.1, woven_end ends peers w.0 all line w.2))

pub woven_peer : {A : Type 0} (ends peers given all : List A) (line : A) → IsWoven ends peers given all → IsWoven ends (peers ++ line ∷ []) given (all ++ line ∷ [])
woven_peer ends peers given [] line w = inr (inl ([], first peers line w.1, (w.0, refl, w.2)))
woven_peer ends peers given (x ∷ all) line (inl w) = inl (w.0, w.1, woven_peer w.0 peers given all line w.2)
woven_peer ends peers given (x ∷ all) line (inr (inl w)) =
    inr (inl (w.0 ++ line ∷ [], with_last peers w.0 x line w.1, woven_peer ends w.0 given all line w.2))
woven_peer ends peers given (x ∷ all) line (inr (inr w)) = inr (inr (w.0, w.1, woven_peer ends peers w.0 all line w.2))

-- an element in the middle comes first
put_first : {A : Type 0} (front back all : List A) (x : A) → IsPermutation (front ++ back) all → IsPermutation (front ++ x ∷ back) (x ∷ all)
put_first front back all x same =
    IsPermutation-trans (front ++ x ∷ back) (x ∷ (front ++ back)) (x ∷ all) (IsPermutation-middle front x back) (IsPermutation-cons x (front ++ back) all same)

-- none of the lines is lost, doubled or made up
pub woven_same : {A : Type 0} (ends peers given all : List A) → IsWoven ends peers given all → IsPermutation (ends ++ (peers ++ given)) all
woven_same ends peers given [] w = rw (w.0, w.1, w.2) (IsPermutation-refl [])
woven_same {A} ends peers given (x ∷ all) (inl w) =
    subst (λ (l : List A). IsPermutation (l ++ (peers ++ given)) (x ∷ all)) (sym w.1)
    (IsPermutation-cons x (w.0 ++ (peers ++ given)) all (woven_same w.0 peers given all w.2))
woven_same {A} ends peers given (x ∷ all) (inr (inl w)) =
    subst (λ (l : List A). IsPermutation (ends ++ (l ++ given)) (x ∷ all)) (sym w.1)
    (put_first ends (w.0 ++ given) all x (woven_same ends w.0 given all w.2))
woven_same {A} ends peers given (x ∷ all) (inr (inr w)) =
    subst (λ (l : List A). IsPermutation l (x ∷ all)) (append_assoc ends peers (x ∷ w.0) ∙ ap (λ (l : List A). ends ++ (peers ++ l)) (sym w.1))
    (put_first (ends ++ peers) w.0 all x
    (subst (λ (l : List A). IsPermutation l all) (sym (append_assoc ends peers w.0)) (woven_same ends peers w.0 all w.2)))
