-- What is spelled is read again, and only that is read: the law of a part, and of parts that are put together.
use Rattle.std.proofs.Common.{◌≡◌, ℕ, suc, ◌-◌, ◌<◌, ◌≤◌, Bool, true, false, cond, eqb, eq-eqb, List, [], ◌∷◌, ◌++◌, length, take, drop, get_or, Option, Some, None, refl, sym, ap, subst, ◌∙◌, append_assoc, arith}
use Rattle.std.proofs.lemmas.Bool.{eqb-true}
use Rattle.std.proofs.lemmas.List.{take_at, take-append-drop, length-append}
use Rattle.std.proofs.lemmas.Option.{some_pair_parts}
use Rattle.row_codec.specs.Parsing.{Parsed, ◌>>=◌, both_at, seen_at, byte_at, rest_after, after_at}

abbrev pub IsBytes : List ℕ → Type 0
IsBytes bytes = (i : ℕ) → get_or bytes i 0 < 256

pub IsBytes-after : (front rest : List ℕ) → IsBytes (front ++ rest) → IsBytes rest
IsBytes-after [] rest h = h
IsBytes-after (b ∷ front) rest h = IsBytes-after front rest (λ i. h (suc i))

-- the values that fit have these bytes, which are read again, whatever follows them, and nothing else is read
pub record IsExact {A : Type 0} (spelled : A → List ℕ) (read : List ℕ → Parsed A) (Fits : A → Type 0) : Type 0 where
  pub again : (a : A) (rest : List ℕ) → Fits a → read (spelled a ++ rest) ≡ Some (a, rest)
  pub only : (bytes : List ℕ) (a : A) (rest : List ℕ) → IsBytes bytes → read bytes ≡ Some (a, rest) → Fits a × (bytes ≡ spelled a ++ rest)

pub bind_some : {A B : Type 0} (r : Option A) (f : A → Option B) (y : B) → (r >>= f) ≡ Some y → (x : A) × (r ≡ Some x) × (f x ≡ Some y)
bind_some None f y e = absurd cc
bind_some (Some x) f y e = (x, refl, e)

abbrev pub front : {A : Type 0} → A → List ℕ → Parsed A
front a rest = Some (a, rest)

pub parsed_parts : {A : Type 0} (a : A) (rest : List ℕ) (b : A) (after : List ℕ) → front a rest ≡ front b after → (a ≡ b) × (rest ≡ after)
parsed_parts a rest b after e = some_pair_parts a b rest after e

abbrev pair : {A B : Type 0} → A → B → A × B
pair a b = (a, b)

pub parts_of : {A B : Type 0} (a : A) (b : B) (rest : List ℕ) (p : A × B) (after : List ℕ) → front (pair a b) rest ≡ front p after → (a ≡ p.0) × (b ≡ p.1) × (rest ≡ after)
parts_of {A = A} {B = B} a b rest p after e = let is = parsed_parts (pair a b) rest p after e in (ap (λ (q : A × B). q.0) is.0, ap (λ (q : A × B). q.1) is.0, is.1)

-- ---- a value, and then another

both_text : {A B : Type 0} (f : A → List ℕ) (g : B → List ℕ) (a : A) (b : B) (p : A × B) (bytes middle after rest : List ℕ)
    → bytes ≡ f a ++ middle → middle ≡ g b ++ after → a ≡ p.0 → b ≡ p.1 → after ≡ rest → bytes ≡ (f p.0 ++ g p.1) ++ rest
both_text f g a b p bytes middle after rest one two a-is b-is rest-is =
    one ∙ ap (λ (t : List ℕ). f a ++ t) two ∙ sym (append_assoc (f a) (g b) after) ∙ rw (a-is, b-is, rest-is) refl

pub exact-both : {A B : Type 0} {f : A → List ℕ} {r : List ℕ → Parsed A} {F : A → Type 0} {g : B → List ℕ} {s : List ℕ → Parsed B} {G : B → Type 0}
    → IsExact f r F → IsExact g s G → IsExact (λ (p : A × B). f p.0 ++ g p.1) (both_at r s) (λ (p : A × B). F p.0 × G p.1)
exact-both {f = f} {r = r} {F = F} {g = g} {s = s} {G = G} first second = record {
  again = λ p rest fits. rw (append_assoc (f p.0) (g p.1) rest, first.again p.0 (g p.1 ++ rest) fits.0, second.again p.1 rest fits.1) refl;
  only = λ bytes p rest are e.
      let a = bind_some (r bytes) (λ a. s a.1 >>= λ b. Some ((a.0, b.0), b.1)) (p, rest) e in
      let b = bind_some (s a.0.1) (λ b. Some ((a.0.0, b.0), b.1)) (p, rest) a.2 in
      let one = first.only bytes a.0.0 a.0.1 are a.1 in
      let after : IsBytes a.0.1 = IsBytes-after (f a.0.0) a.0.1 (subst IsBytes one.1 are) in
      let two = second.only a.0.1 b.0.0 b.0.1 after b.1 in
      let is = parts_of a.0.0 b.0.0 b.0.1 p rest b.2 in
      ((subst F is.0 one.0, subst G is.1 two.0), both_text f g a.0.0 b.0.0 p bytes a.0.1 b.0.1 rest one.1 two.1 is.0 is.1 is.2);
}

-- ---- a value that stands for another one, or for none

seen_text : {A B : Type 0} (f : A → List ℕ) (from : B → A) (a : A) (v b : B) (bytes after rest : List ℕ) → bytes ≡ f a ++ after → from v ≡ a → v ≡ b → after ≡ rest → bytes ≡ f (from b) ++ rest
seen_text f from a v b bytes after rest one back v-is rest-is = one ∙ rw (← back, v-is, rest-is) refl

pub exact-seen : {A B : Type 0} {f : A → List ℕ} {r : List ℕ → Parsed A} {F : A → Type 0} (view : A → Option B) (from : B → A) (G : B → Type 0)
    → ((b : B) → G b → F (from b) × (view (from b) ≡ Some b)) → ((a : A) (b : B) → F a → view a ≡ Some b → (from b ≡ a) × G b)
    → IsExact f r F → IsExact (λ (b : B). f (from b)) (seen_at view r) G
exact-seen {f = f} {r = r} {F = F} view from G there back part = record {
  again = λ b rest fits. let t = there b fits in rw (part.again (from b) rest t.0, t.1) refl;
  only = λ bytes b rest are e.
      let a = bind_some (r bytes) (λ a. view a.0 >>= λ b. Some (b, a.1)) (b, rest) e in
      let v = bind_some (view a.0.0) (λ b. Some (b, a.0.1)) (b, rest) a.2 in
      let is = parsed_parts v.0 a.0.1 b rest v.2 in
      let one = part.only bytes a.0.0 a.0.1 are a.1 in
      let two = back a.0.0 v.0 one.0 v.1 in
      (subst G is.0 two.1, seen_text f from a.0.0 v.0 b bytes a.0.1 rest one.1 two.0 is.0 is.1);
}

-- the same for another view of every value
pub exact-as : {A B : Type 0} {f : A → List ℕ} {r : List ℕ → Parsed A} {F : A → Type 0} (to : A → B) (from : B → A) (G : B → Type 0)
    → ((b : B) → to (from b) ≡ b) → ((a : A) → from (to a) ≡ a) → ((b : B) → G b → F (from b)) → ((a : A) → F a → G (to a))
    → IsExact f r F → IsExact (λ (b : B). f (from b)) (seen_at (λ a. Some (to a)) r) G
exact-as {f = f} {r = r} {F = F} to from G round trip there back part =
    exact-seen (λ a. Some (to a)) from G (λ b g. (there b g, ap Some (round b)))
    (λ a b h e. let is : to a ≡ b = cc in (ap from (sym is) ∙ trip a, subst G is (back a h))) part

-- ---- a tag, and what it chooses: the fields after a tag are of the values with that tag

tagged_text : {A B : Type 0} (f : A → List ℕ) (spelled : B → List ℕ) (tag : ℕ) (a : A) (v b : B) (bytes after rest : List ℕ)
    → bytes ≡ f a ++ after → spelled v ≡ tag ∷ f a → v ≡ b → after ≡ rest → tag ∷ bytes ≡ spelled b ++ rest
tagged_text f spelled tag a v b bytes after rest one is-spelled b-is rest-is = rw (← b-is, is-spelled, ← rest-is) (ap (λ (t : List ℕ). tag ∷ t) one)

pub variant_only : {A B : Type 0} {f : A → List ℕ} {r : List ℕ → Parsed A} {F : A → Type 0} (view : A → Option B) (spelled : B → List ℕ) (G : B → Type 0) (tag : ℕ)
    → IsExact f r F → ((a : A) (b : B) → F a → view a ≡ Some b → G b × (spelled b ≡ tag ∷ f a))
    → (bytes : List ℕ) (b : B) (rest : List ℕ) → IsBytes bytes → seen_at view r bytes ≡ Some (b, rest) → G b × (tag ∷ bytes ≡ spelled b ++ rest)
variant_only {f = f} {r = r} {F = F} view spelled G tag part fits bytes b rest are e =
    let a = bind_some (r bytes) (λ a. view a.0 >>= λ b. Some (b, a.1)) (b, rest) e in
    let v = bind_some (view a.0.0) (λ b. Some (b, a.0.1)) (b, rest) a.2 in
    let is = parsed_parts v.0 a.0.1 b rest v.2 in
    let one = part.only bytes a.0.0 a.0.1 are a.1 in
    let two = fits a.0.0 v.0 one.0 v.1 in
    (subst G is.0 two.0, tagged_text f spelled tag a.0.0 v.0 b bytes a.0.1 rest one.1 two.1 is.0 is.1)

-- the same if every value of the fields gives one
pub all_only : {A B : Type 0} {f : A → List ℕ} {r : List ℕ → Parsed A} {F : A → Type 0} (to : A → B) (spelled : B → List ℕ) (G : B → Type 0) (tag : ℕ)
    → IsExact f r F → ((a : A) → F a → G (to a)) → ((a : A) → spelled (to a) ≡ tag ∷ f a)
    → (bytes : List ℕ) (b : B) (rest : List ℕ) → IsBytes bytes → seen_at (λ a. Some (to a)) r bytes ≡ Some (b, rest) → G b × (tag ∷ bytes ≡ spelled b ++ rest)
all_only {f = f} {r = r} {F = F} to spelled G tag part fits is-spelled =
    variant_only (λ a. Some (to a)) spelled G tag part
    (λ a b h e. let is : to a ≡ b = cc in (subst G is (fits a h), ap spelled (sym is) ∙ is-spelled a))

pub all_again : {A B : Type 0} {f : A → List ℕ} {r : List ℕ → Parsed A} {F : A → Type 0} (to : A → B) → IsExact f r F → (a : A) (rest : List ℕ) → F a → seen_at (λ a. Some (to a)) r (f a ++ rest) ≡ Some (to a, rest)
all_again {f = f} {r = r} {F = F} to part a rest fits = rw (part.again a rest fits) refl

abbrev pub tagged_at : {B : Type 0} → (ℕ → List ℕ → Parsed B) → List ℕ → Parsed B
tagged_at fields_at bytes = byte_at bytes >>= λ tag. fields_at tag.0 tag.1

byte_prefix : (bytes : List ℕ) (tag : ℕ) (rest : List ℕ) → byte_at bytes ≡ Some (tag, rest) → bytes ≡ tag ∷ rest
byte_prefix [] tag rest e = absurd cc
byte_prefix (b ∷ bytes) tag rest e = let is = parsed_parts b bytes tag rest e in rw (is.0, is.1) refl

pub exact-tagged : {B : Type 0} (spelled : B → List ℕ) (fields_at : ℕ → List ℕ → Parsed B) (G : B → Type 0)
    → ((b : B) (rest : List ℕ) → G b → tagged_at fields_at (spelled b ++ rest) ≡ Some (b, rest))
    → ((tag : ℕ) (bytes : List ℕ) (b : B) (rest : List ℕ) → IsBytes bytes → fields_at tag bytes ≡ Some (b, rest) → G b × (tag ∷ bytes ≡ spelled b ++ rest))
    → IsExact spelled (tagged_at fields_at) G
exact-tagged spelled fields_at G again fields_only = record {
  again = again;
  only = λ bytes b rest are e.
      let tag = bind_some (byte_at bytes) (λ tag. fields_at tag.0 tag.1) (b, rest) e in
      let front = byte_prefix bytes tag.0.0 tag.0.1 tag.1 in
      let after : IsBytes tag.0.1 = IsBytes-after (tag.0.0 ∷ []) tag.0.1 (subst IsBytes front are) in
      let two = fields_only tag.0.0 tag.0.1 b rest after tag.2 in
      (two.0, front ∙ two.1);
}

-- ---- a given byte, and then a value

after_again : {A : Type 0} (f : A → List ℕ) (r : List ℕ → Parsed A) (F : A → Type 0) (first : ℕ) → IsExact f r F → (a : A) (rest : List ℕ) → F a → after_at first r (first ∷ (f a ++ rest)) ≡ Some (a, rest)
after_again f r F first part a rest fits = let same : eqb first first ≡ true = eq-eqb first first refl in rw same (part.again a rest fits)

chosen : (b : Bool) (rest after : List ℕ) → cond b (Some rest) None ≡ Some after → (b ≡ true) × (rest ≡ after)
chosen true rest after e = (refl, cc)
chosen false rest after e = absurd cc

pub rest_after_is : (first : ℕ) (bytes rest : List ℕ) → rest_after first bytes ≡ Some rest → bytes ≡ first ∷ rest
rest_after_is first [] rest e = absurd cc
rest_after_is first (b ∷ bytes) rest e = let c = chosen (eqb b first) bytes rest e in rw (eqb-true _ _ c.0, c.1) refl

pub exact-after : {A : Type 0} {f : A → List ℕ} {r : List ℕ → Parsed A} {F : A → Type 0} (first : ℕ) → IsExact f r F → IsExact (λ a. first ∷ f a) (after_at first r) F
exact-after {f = f} {r = r} {F = F} first part = record {
  again = λ a rest fits. after_again f r F first part a rest fits;
  only = λ bytes a rest are e.
      let b = bind_some (rest_after first bytes) r (a, rest) e in
      let front = rest_after_is first bytes b.0 b.1 in
      let two = part.only b.0 a rest (IsBytes-after (first ∷ []) b.0 (subst IsBytes front are)) b.2 in
      (two.0, front ∙ ap (λ (t : List ℕ). first ∷ t) two.1);
}

-- ---- what follows from a law: no spelling is a prefix of another one
pub apart : {A : Type 0} (f : A → List ℕ) (r : List ℕ → Parsed A) (F : A → Type 0) → IsExact f r F → (a b : A) (x y : List ℕ) → F a → F b → f a ++ x ≡ f b ++ y → (a ≡ b) × (x ≡ y)
apart f r F part a b x y fits_a fits_b e = parsed_parts a x b y (sym (part.again a x fits_a) ∙ ap r e ∙ part.again b y fits_b)

-- what was read is a prefix of the bytes
pub prefix_of : {A : Type 0} {f : A → List ℕ} {r : List ℕ → Parsed A} {F : A → Type 0} → IsExact f r F → (bytes : List ℕ) (a : A) (rest : List ℕ) → IsBytes bytes → r bytes ≡ Some (a, rest)
    → F a × (take (length bytes - length rest) bytes ≡ f a) × (length bytes - length rest ≤ length bytes) × (length rest ≤ length bytes)
prefix_of {f = f} part bytes a rest are e =
    let found = part.only bytes a rest are e in
    let n : length bytes - length rest ≡ length (f a) = omega (arith, ap length found.1, length-append (f a) rest) in
    (found.0, rw n (ap (take (length (f a))) found.1 ∙ take_at (f a) rest (length (f a)) refl), omega arith, omega (arith, ap length found.1, length-append (f a) rest))

-- if nothing is read, no prefix is a spelling
pub no_prefix : {A : Type 0} {f : A → List ℕ} {r : List ℕ → Parsed A} {F : A → Type 0} → IsExact f r F → (bytes : List ℕ) → r bytes ≡ None → (a : A) (n : ℕ) → F a → take n bytes ≡ f a → ⊥
no_prefix {f = f} {r = r} part bytes e a n fits is =
    let whole : bytes ≡ f a ++ drop n bytes = sym (take-append-drop n bytes) ∙ ap (λ (t : List ℕ). t ++ drop n bytes) is in
    let again : r bytes ≡ Some (a, drop n bytes) = ap r whole ∙ part.again a (drop n bytes) fits in
    absurd cc
