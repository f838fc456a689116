-- The law of values that are spelled one after the other, to the end of the bytes.
use Rattle.std.proofs.Common.{◌≡◌, ℕ, ◌+◌, ◌<◌, ◌≤◌, List, [], ◌∷◌, ◌++◌, length, take, get_or, Option, Some, None, refl, sym, ap, subst, ◌∙◌, append_assoc, arith}
use Rattle.std.specs.List.{flat_map, All, AllByRecursion}
use Rattle.std.proofs.lemmas.List.{flat_map_more, length-append, take_more}
use Rattle.std.proofs.lemmas.List.Elements.{All-push, recursion_from_All}
use Rattle.row_codec.specs.Parsing.{Parsed}
use Rattle.row_codec.proofs.ExactLaws.{IsBytes, IsExact, IsBytes-after, apart}

no_first : (xs ys : List ℕ) → xs ++ ys ≡ [] → xs ≡ []
no_first [] ys e = refl
no_first (x ∷ xs) ys e = absurd cc

cons_same : {A : Type 0} (x y : A) (xs ys : List A) → x ≡ y → xs ≡ ys → y ∷ ys ≡ x ∷ xs
cons_same x y xs ys e f = rw (e, f) refl

-- if nothing is read from no bytes, each spelling has a byte
has_bytes : {A : Type 0} {f : A → List ℕ} {r : List ℕ → Parsed A} {F : A → Type 0} → IsExact f r F → r [] ≡ None → (a : A) → F a → f a ≡ [] → ⊥
has_bytes {r = r} part none a fits e =
    let again : r [] ≡ Some (a, []) = subst (λ (t : List ℕ). r (t ++ []) ≡ Some (a, [])) e (part.again a [] fits) in
    absurd cc

-- if the spellings of these values are a prefix of those of others, these are the first of the others
pub first_of : {A : Type 0} {f : A → List ℕ} {r : List ℕ → Parsed A} {F : A → Type 0} → IsExact f r F → r [] ≡ None → (xs ys : List A) (rest : List ℕ) → AllByRecursion F xs → AllByRecursion F ys
    → flat_map f xs ++ rest ≡ flat_map f ys → (zs : List A) × (ys ≡ xs ++ zs) × AllByRecursion F zs × (rest ≡ flat_map f zs)
first_of part none [] ys rest fit_x fit_y e = (ys, refl, fit_y, e)
first_of {f = f} part none (x ∷ xs) [] rest fit_x fit_y e =
    absurd (has_bytes part none x fit_x.0 (no_first (f x) (flat_map f xs) (no_first (f x ++ flat_map f xs) rest e)))
first_of {A = A} {f = f} {r = r} {F = F} part none (x ∷ xs) (y ∷ ys) rest fit_x fit_y e =
    let one = apart f r F part x y (flat_map f xs ++ rest) (flat_map f ys) fit_x.0 fit_y.0 (sym (append_assoc (f x) (flat_map f xs) rest) ∙ e) in
    let others = first_of part none xs ys rest fit_x.1 fit_y.1 one.1 in
    (others.0, cons_same x y (xs ++ others.0) ys one.0 (sym others.1), others.2, others.3)

-- if bytes are left that spell no value, the bytes aren't the spellings of any values
pub no_values : {A : Type 0} {f : A → List ℕ} {r : List ℕ → Parsed A} {F : A → Type 0} → IsExact f r F → r [] ≡ None → (xs ys : List A) (bytes rest : List ℕ) → All F xs → (bytes ≡ flat_map f xs ++ rest)
    → ¬ (rest ≡ []) → r rest ≡ None → All F ys → bytes ≡ flat_map f ys → ⊥
no_values {A = A} {f = f} {r = r} {F = F} part none xs ys bytes rest fit_x is left unread fit_y e =
    let found = first_of part none xs ys rest (recursion_from_All F xs fit_x) (recursion_from_All F ys fit_y) (sym is ∙ e) in
    unspelled found.0 found.2 found.3
  where
    unspelled : (zs : List A) → AllByRecursion F zs → rest ≡ flat_map f zs → ⊥
    unspelled [] fits is = left is
    unspelled (z ∷ zs) fits is =
        let again : r rest ≡ Some (z, flat_map f zs) = ap r is ∙ part.again z (flat_map f zs) fits.0 in
        absurd cc

-- what is read takes a byte at least
pub shorter : {A : Type 0} {f : A → List ℕ} {r : List ℕ → Parsed A} {F : A → Type 0} → IsExact f r F → r [] ≡ None → (bytes : List ℕ) (a : A) (rest : List ℕ) → IsBytes bytes → r bytes ≡ Some (a, rest) → length rest < length bytes
shorter {f = f} {F = F} part none bytes a rest are e =
    let found = part.only bytes a rest are e in
    by (f a) refl found.0 found.1
  where
    by : (text : List ℕ) → f a ≡ text → F a → bytes ≡ f a ++ rest → length rest < length bytes
    by [] is fits whole = absurd (has_bytes part none a fits is)
    by (b ∷ text) is fits whole =
        let long : length bytes ≡ length (b ∷ text) + length rest = ap length (whole ∙ ap (λ (t : List ℕ). t ++ rest) is) ∙ length-append (b ∷ text) rest in
        omega (arith, long)

-- the values read so far and one more
pub read_more : {A : Type 0} {f : A → List ℕ} {r : List ℕ → Parsed A} {F : A → Type 0} → IsExact f r F → (xs : List A) (bytes rest : List ℕ) (a : A) (after : List ℕ) → IsBytes bytes
    → All F xs × (bytes ≡ flat_map f xs ++ rest) → r rest ≡ Some (a, after) → All F (xs ++ a ∷ []) × (bytes ≡ flat_map f (xs ++ a ∷ []) ++ after)
read_more {f = f} {F = F} part xs bytes rest a after are so_far e =
    let left : IsBytes rest = IsBytes-after (flat_map f xs) rest (subst IsBytes so_far.1 are) in
    let one = part.only rest a after left e in (
      All-push F xs a so_far.0 one.0,
      so_far.1 ∙ ap (λ (t : List ℕ). flat_map f xs ++ t) one.1 ∙ sym (append_assoc (flat_map f xs) (f a) after) ∙ ap (λ (t : List ℕ). t ++ after) (flat_map_more f [] xs a),
    )

-- the values written so far and one more
pub put_more : {A : Type 0} (f : A → List ℕ) (F : A → Type 0) (start to next : List ℕ) (xs : List A) (i : ℕ) (x : A) → i < length xs → x ≡ get_or xs i x → next ≡ to ++ f x → F x
    → (to ≡ start ++ flat_map f (take i xs)) × All F (take i xs) → (next ≡ start ++ flat_map f (take (i + 1) xs)) × All F (take (i + 1) xs)
put_more {A = A} f F start to next xs i x lt is wrote fits so_far =
    let more : take (i + 1) xs ≡ take i xs ++ x ∷ [] = take_more xs i x lt ∙ ap (λ (y : A). take i xs ++ y ∷ []) (sym is) in (
      wrote ∙ ap (λ (t : List ℕ). t ++ f x) so_far.0 ∙ flat_map_more f start (take i xs) x ∙ ap (λ (ys : List A). start ++ flat_map f ys) (sym more),
      subst (All F) (sym more) (All-push F (take i xs) x so_far.1 fits),
    )

-- the same bytes spell one list of values
pub values_apart : {A : Type 0} {f : A → List ℕ} {r : List ℕ → Parsed A} {F : A → Type 0} → IsExact f r F → r [] ≡ None → (xs ys : List A) → AllByRecursion F xs → AllByRecursion F ys
    → flat_map f xs ≡ flat_map f ys → xs ≡ ys
values_apart part none [] [] fit_x fit_y e = refl
values_apart {f = f} part none [] (y ∷ ys) fit_x fit_y e = absurd (has_bytes part none y fit_y.0 (no_first (f y) (flat_map f ys) (sym e)))
values_apart {f = f} part none (x ∷ xs) [] fit_x fit_y e = absurd (has_bytes part none x fit_x.0 (no_first (f x) (flat_map f xs) e))
values_apart {f = f} {r = r} {F = F} part none (x ∷ xs) (y ∷ ys) fit_x fit_y e =
    let one = apart f r F part x y (flat_map f xs) (flat_map f ys) fit_x.0 fit_y.0 e in
    sym (cons_same x y xs ys one.0 (values_apart part none xs ys fit_x.1 fit_y.1 one.1))
