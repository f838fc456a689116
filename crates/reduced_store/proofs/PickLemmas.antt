-- Rows that are moved from the end of one list to the end of another.
use Rattle.std.proofs.Common.{◌≡◌, ◌∙◌, refl, sym, ap, Bool, List, [], ◌∷◌, ◌++◌, reverse, append_assoc}
use Rattle.std.specs.Prelude.{filter}
use Rattle.std.proofs.lemmas.List.{reverse-append}
use Rattle.std.proofs.lemmas.List.Elements.{filter-append}

turned_push : {A : Type 0} (xs : List A) (x : A) → reverse (xs ++ x ∷ []) ≡ x ∷ reverse xs
turned_push xs x = reverse-append xs (x ∷ [])

pub move_more : {A : Type 0} (to old new whole : List A) (x : A) → old ≡ new ++ x ∷ [] → to ++ reverse old ≡ whole → (to ++ x ∷ []) ++ reverse new ≡ whole
move_more to old new whole x is was =
    append_assoc to (x ∷ []) (reverse new) ∙ sym (ap (λ r. to ++ r) (ap reverse is ∙ turned_push new x)) ∙ was

pub pick_more : {A : Type 0} (p : A → Bool) (to old new whole : List A) (x : A) → old ≡ new ++ x ∷ [] → to ++ filter p (reverse old) ≡ whole → (to ++ filter p (x ∷ [])) ++ filter p (reverse new) ≡ whole
pick_more p to old new whole x is was =
    append_assoc to (filter p (x ∷ [])) (filter p (reverse new))
    ∙ ap (λ r. to ++ r) (sym (filter-append p (x ∷ []) (reverse new)))
    ∙ sym (ap (λ r. to ++ filter p r) (ap reverse is ∙ turned_push new x)) ∙ was

pub turned_twice : {A : Type 0} (xs : List A) → reverse (reverse xs) ≡ xs
turned_twice [] = refl
turned_twice (x ∷ xs) = ap reverse (reverse-append (x ∷ []) xs) ∙ turned_push (reverse xs) x ∙ ap (λ r. x ∷ r) (turned_twice xs)
