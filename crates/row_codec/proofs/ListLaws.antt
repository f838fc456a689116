-- The law of n values, of a list with its number, and of a value after a flag.
use Rattle.std.proofs.Common.{◌≡◌, ℕ, zero, suc, ◌+◌, ◌^◌, ◌<◌, ◌≤◌, Bool, true, false, cond, ltb, List, [], ◌∷◌, ◌++◌, length, get_or, take, drop, Option, Some, None, refl, sym, ap, subst, ◌∙◌, append_assoc, arith, inl, inr}
use Rattle.std.specs.List.{flat_map, AllByRecursion}
use Rattle.std.specs.Prelude.{⊤}
use Rattle.std.specs.Int.{w32}
use Rattle.std.proofs.lemmas.List.Concat.{flat_map-cons}
use Rattle.row_codec.specs.Parsing.{Parsed, ◌>>=◌, number_at, number, many_at, list_at, list, option_at, option, FitsOption}
use Rattle.row_codec.proofs.ExactLaws.{IsBytes, IsBytes-after, IsExact, parsed_parts, bind_some}
use Rattle.row_codec.proofs.NumberLaws.{exact-n4}

-- ---- n values

many_again : {A : Type 0} (f : A → List ℕ) (r : List ℕ → Parsed A) (F : A → Type 0) → IsExact f r F → (values : List A) (rest : List ℕ) → AllByRecursion F values → many_at r (length values) (flat_map f values ++ rest) ≡ Some (values, rest)
unfolding many_at
many_again f r F part [] rest fits = refl
many_again f r F part (a ∷ values) rest fits =
    let one = part.again a (flat_map f values ++ rest) fits.0 in
    let two = many_again f r F part values rest fits.1 in
    rw (flat_map-cons f a values, append_assoc (f a) (flat_map f values) rest, one, two) refl

many_parts : {A : Type 0} (f : A → List ℕ) (F : A → Type 0) (n : ℕ) (bytes : List ℕ) (a : A) (others : List A) (middle after : List ℕ) (values : List A) (rest : List ℕ)
    → F a → AllByRecursion F others → length others ≡ n → bytes ≡ f a ++ middle → middle ≡ flat_map f others ++ after → a ∷ others ≡ values → after ≡ rest
    → (length values ≡ suc n) × AllByRecursion F values × (bytes ≡ flat_map f values ++ rest)
many_parts {A = A} f F n bytes a others middle after values rest fits all len one two is rest-is =
    let text : bytes ≡ flat_map f (a ∷ others) ++ rest = one ∙ rw (two, rest-is, flat_map-cons f a others, append_assoc (f a) (flat_map f others) rest) refl in
    (rw (← is, ← len) refl, subst (AllByRecursion F) is (fits, all), rw (← is) text)

many_only : {A : Type 0} (f : A → List ℕ) (r : List ℕ → Parsed A) (F : A → Type 0) → IsExact f r F → (n : ℕ) (bytes : List ℕ) (values : List A) (rest : List ℕ) → IsBytes bytes
    → many_at r n bytes ≡ Some (values, rest) → (length values ≡ n) × AllByRecursion F values × (bytes ≡ flat_map f values ++ rest)
unfolding many_at
many_only {A = A} f r F part zero bytes values rest are e =
    let is = parsed_parts [] bytes values rest e in
    (ap length (sym is.0), subst (AllByRecursion F) is.0 tt, rw (← is.0) is.1)
many_only {A = A} f r F part (suc n) bytes values rest are e =
    let a = bind_some (r bytes) (λ a. many_at r n a.1 >>= λ others. Some (a.0 ∷ others.0, others.1)) (values, rest) e in
    let b = bind_some (many_at r n a.0.1) (λ others. Some (a.0.0 ∷ others.0, others.1)) (values, rest) a.2 in
    let one = part.only bytes a.0.0 a.0.1 are a.1 in
    let after : IsBytes a.0.1 = IsBytes-after (f a.0.0) a.0.1 (subst IsBytes one.1 are) in
    let two = many_only f r F part n a.0.1 b.0.0 b.0.1 after b.1 in
    let is = parsed_parts (a.0.0 ∷ b.0.0) b.0.1 values rest b.2 in
    many_parts f F n bytes a.0.0 b.0.0 a.0.1 b.0.1 values rest one.0 two.1 two.0 one.1 two.2 is.0 is.1

-- ---- their number, and that many values

list_text : {A : Type 0} (f : A → List ℕ) (n : ℕ) (values : List A) (bytes after rest : List ℕ) → bytes ≡ number w32 n ++ after → length values ≡ n → after ≡ flat_map f values ++ rest → bytes ≡ list f values ++ rest
list_text f n values bytes after rest one len two = one ∙ rw (← len, two, append_assoc (number w32 (length values)) (flat_map f values) rest) refl

pub exact-list : {A : Type 0} {f : A → List ℕ} {r : List ℕ → Parsed A} {F : A → Type 0} → IsExact f r F → IsExact (list f) (list_at r) (λ values. (length values < 2 ^ 32) × AllByRecursion F values)
exact-list {f = f} {r = r} {F = F} part = record {
  again = λ values rest fits. rw (append_assoc (number w32 (length values)) (flat_map f values) rest, exact-n4.again (length values) (flat_map f values ++ rest) fits.0) (many_again f r F part values rest fits.1);
  only = λ bytes values rest are e.
      let n = bind_some (number_at w32 bytes) (λ n. many_at r n.0 n.1) (values, rest) e in
      let one = exact-n4.only bytes n.0.0 n.0.1 are n.1 in
      let after : IsBytes n.0.1 = IsBytes-after (number w32 n.0.0) n.0.1 (subst IsBytes one.1 are) in
      let two = many_only f r F part n.0.0 n.0.1 values rest after n.2 in
      ((subst (λ (k : ℕ). k < 2 ^ 32) (sym two.0) one.0, two.1), list_text f n.0.0 values bytes n.0.1 rest one.1 two.0 two.2);
}

-- ---- a flag, and the value if it is 1

option_again : {A : Type 0} (f : A → List ℕ) (r : List ℕ → Parsed A) (F : A → Type 0) → IsExact f r F → (o : Option A) (rest : List ℕ) → FitsOption F o → option_at r (option f o ++ rest) ≡ Some (o, rest)
option_again f r F part None rest fits = refl
option_again f r F part (Some a) rest fits = rw (part.again a rest fits) refl

option_text : {A : Type 0} (f : A → List ℕ) (F : A → Type 0) (a : A) (o : Option A) (bytes after rest : List ℕ) → F a → bytes ≡ f a ++ after → Some a ≡ o → after ≡ rest → FitsOption F o × (1 ∷ bytes ≡ option f o ++ rest)
option_text f F a o bytes after rest fits one is rest-is = (subst (FitsOption F) is fits, rw (← is, ← rest-is) (ap (λ (t : List ℕ). 1 ∷ t) one))

option_only : {A : Type 0} (f : A → List ℕ) (r : List ℕ → Parsed A) (F : A → Type 0) → IsExact f r F → (bytes : List ℕ) (o : Option A) (rest : List ℕ) → IsBytes bytes → option_at r bytes ≡ Some (o, rest) → FitsOption F o × (bytes ≡ option f o ++ rest)
option_only f r F part [] o rest are e = absurd cc
option_only f r F part (zero ∷ bytes) o rest are e =
    let is = parsed_parts None bytes o rest e in
    (subst (FitsOption F) is.0 tt, rw (← is.0, ← is.1) refl)
option_only f r F part (suc zero ∷ bytes) o rest are e =
    let a = bind_some (r bytes) (λ a. Some (Some a.0, a.1)) (o, rest) e in
    let is = parsed_parts (Some a.0.0) a.0.1 o rest a.2 in
    let one = part.only bytes a.0.0 a.0.1 (λ i. are (suc i)) a.1 in
    option_text f F a.0.0 o bytes a.0.1 rest one.0 one.1 is.0 is.1
option_only f r F part (suc (suc b) ∷ bytes) o rest are e = absurd cc

pub exact-option : {A : Type 0} {f : A → List ℕ} {r : List ℕ → Parsed A} {F : A → Type 0} → IsExact f r F → IsExact (option f) (option_at r) (FitsOption F)
exact-option {f = f} {r = r} {F = F} part = record { again = option_again f r F part; only = option_only f r F part }
