-- Cuts of texts at a byte.
use Rattle.std.proofs.Common.{◌≡◌, ◌<◌, ◌≤◌, ◌+◌, ◌==◌, ◌∙◌, sym, refl, ap, ℕ, suc, zero, Bool, true, false, List, [], ◌∷◌, ◌++◌, length, take, drop, get_or, Option, None, Some, option_map, arith, ⊎_elim, subst}
use Rattle.std.specs.List.{list_all}
use Rattle.std.proofs.lemmas.Bool.{and_parts, cases_Bool, both_ways, eqb-true, eq-eqb}
use Rattle.std.proofs.lemmas.Option.{same_Some}
use Rattle.memchr.specs.Find.{is_byte, Passes}
use Rattle.order_text.specs.Cut.{Parts, with_byte, first_cut, first_step, last_cut, last_step}

-- cases on a test, with what it answered
pub by_test : {P : Type 0} (b : Bool) → (b ≡ true → P) → (b ≡ false → P) → P
by_test true f g = f refl
by_test false f g = g refl

pub fails : (byte : ℕ) (hay : List ℕ) (k : ℕ) → (Passes (is_byte byte) hay k → ⊥) → is_byte byte (get_or hay k 0) ≡ false
fails byte hay k missing = ⊎_elim (λ passes. absurd (missing passes)) (λ h. h) (cases_Bool (is_byte byte (get_or hay k 0)))

first_here : (byte b : ℕ) (text : List ℕ) (rest : Option Parts) → (b == byte) ≡ true → first_step byte b text rest ≡ Some ([], text)
first_here byte b text rest e = rw e refl

first_later : (byte b : ℕ) (text : List ℕ) (rest : Option Parts) → (b == byte) ≡ false → first_step byte b text rest ≡ option_map (with_byte b) rest
first_later byte b text rest e = rw e refl

last_here : (byte b : ℕ) (text : List ℕ) → (b == byte) ≡ true → last_step byte b text None ≡ Some ([], text)
last_here byte b text e = rw e refl

last_never : (byte b : ℕ) (text : List ℕ) → (b == byte) ≡ false → last_step byte b text None ≡ None
last_never byte b text e = rw e refl

-- ---- by places

first_at : (byte : ℕ) (hay : List ℕ) (i : ℕ) → i < length hay → is_byte byte (get_or hay i 0) ≡ true
    → ((k : ℕ) → k < i → is_byte byte (get_or hay k 0) ≡ false) → first_cut byte hay ≡ Some (take i hay, drop (suc i) hay)
first_at byte [] i within here before = absurd (omega (arith, within))
first_at byte (b ∷ text) zero within here before = first_here byte b text (first_cut byte text) here
first_at byte (b ∷ text) (suc i) within here before =
    let ih = first_at byte text i (omega (arith, within)) here (λ k below. before (suc k) (omega (arith, below))) in
    first_later byte b text (first_cut byte text) (before 0 (omega arith)) ∙ ap (option_map (with_byte b)) ih

pub first_found : (byte : ℕ) (hay : List ℕ) (i : ℕ) → i < length hay → is_byte byte (get_or hay i 0) ≡ true
    → ((k : ℕ) → k < i → is_byte byte (get_or hay k 0) ≡ false) → first_cut byte hay ≡ Some (take i hay, drop (i + 1) hay)
first_found byte hay i within here before =
    let one : suc i ≡ i + 1 = omega arith in
    first_at byte hay i within here before ∙ ap (λ n. Some (take i hay, drop n hay)) one

pub first_missing : (byte : ℕ) (hay : List ℕ) → ((k : ℕ) → k < length hay → is_byte byte (get_or hay k 0) ≡ false) → first_cut byte hay ≡ None
first_missing byte [] none = refl
first_missing byte (b ∷ text) none =
    let ih = first_missing byte text (λ k below. none (suc k) (omega (arith, below))) in
    first_later byte b text (first_cut byte text) (none 0 (omega arith))
    ∙ ap (option_map (with_byte b)) ih

pub last_missing : (byte : ℕ) (hay : List ℕ) → ((k : ℕ) → k < length hay → is_byte byte (get_or hay k 0) ≡ false) → last_cut byte hay ≡ None
last_missing byte [] none = refl
last_missing byte (b ∷ text) none =
    let ih = last_missing byte text (λ k below. none (suc k) (omega (arith, below))) in
    ap (last_step byte b text) ih ∙ last_never byte b text (none 0 (omega arith))

last_at : (byte : ℕ) (hay : List ℕ) (i : ℕ) → i < length hay → is_byte byte (get_or hay i 0) ≡ true
    → ((k : ℕ) → i < k → k < length hay → is_byte byte (get_or hay k 0) ≡ false) → last_cut byte hay ≡ Some (take i hay, drop (suc i) hay)
last_at byte [] i within here after = absurd (omega (arith, within))
last_at byte (b ∷ text) zero within here after =
    let none = last_missing byte text (λ k below. after (suc k) (omega arith) (omega (arith, below))) in
    ap (last_step byte b text) none ∙ last_here byte b text here
last_at byte (b ∷ text) (suc i) within here after =
    let ih = last_at byte text i (omega (arith, within)) here (λ k low below. after (suc k) (omega (arith, low)) (omega (arith, below))) in
    ap (last_step byte b text) ih

pub last_found : (byte : ℕ) (hay : List ℕ) (i : ℕ) → i < length hay → is_byte byte (get_or hay i 0) ≡ true
    → ((k : ℕ) → i + 1 ≤ k → k < length hay → is_byte byte (get_or hay k 0) ≡ false) → last_cut byte hay ≡ Some (take i hay, drop (i + 1) hay)
last_found byte hay i within here after =
    let one : suc i ≡ i + 1 = omega arith in
    last_at byte hay i within here (λ k low below. after k (omega (arith, low)) below) ∙ ap (λ n. Some (take i hay, drop n hay)) one

-- ---- by parts

-- a text whose bytes pass a test that the byte fails is cut at the byte after it
pub first_after : (test : ℕ → Bool) (byte : ℕ) (part rest : List ℕ) → test byte ≡ false → list_all test part ≡ true
    → first_cut byte (part ++ byte ∷ rest) ≡ Some (part, rest)
first_after test byte [] rest fails all = first_here byte byte rest (first_cut byte rest) (eq-eqb byte byte refl)
first_after test byte (b ∷ part) rest fails all =
    let parts = and_parts _ _ all in
    let isnt : (b == byte) ≡ false = by_test (b == byte) (λ same. absurd (both_ways (test b) (ap test (eqb-true b byte same) ∙ fails) parts.0)) (λ e. e) in
    first_later byte b (part ++ byte ∷ rest) (first_cut byte (part ++ byte ∷ rest)) isnt
    ∙ ap (option_map (with_byte b)) (first_after test byte part rest fails parts.1)

-- and such a text has no last byte of it
pub never_in : (test : ℕ → Bool) (byte : ℕ) (part : List ℕ) → test byte ≡ false → list_all test part ≡ true → last_cut byte part ≡ None
never_in test byte [] fails all = refl
never_in test byte (b ∷ part) fails all =
    let parts = and_parts _ _ all in
    let isnt : (b == byte) ≡ false = by_test (b == byte) (λ same. absurd (both_ways (test b) (ap test (eqb-true b byte same) ∙ fails) parts.0)) (λ e. e) in
    ap (last_step byte b part) (never_in test byte part fails parts.1) ∙ last_never byte b part isnt

-- what two texts don't have, both together don't have
no_head : (byte b : ℕ) (text : List ℕ) (rest : Option Parts) → last_step byte b text rest ≡ None → (rest ≡ None) × ((b == byte) ≡ false)
no_head byte b text (Some parts) e = absurd (cc e)
no_head byte b text None e = by_test (b == byte) (λ same. let one = sym (last_here byte b text same) ∙ e in absurd (cc one)) (λ isnt. (refl, isnt))

pub never_in_both : (byte : ℕ) (xs ys : List ℕ) → last_cut byte xs ≡ None → last_cut byte ys ≡ None → last_cut byte (xs ++ ys) ≡ None
never_in_both byte [] ys none more = more
never_in_both byte (b ∷ xs) ys none more =
    let parts = no_head byte b xs (last_cut byte xs) none in
    ap (last_step byte b (xs ++ ys)) (never_in_both byte xs ys parts.0 more) ∙ last_never byte b (xs ++ ys) parts.1

-- the last cut is at the byte after which there is none
pub last_before : (byte : ℕ) (part rest : List ℕ) → last_cut byte rest ≡ None → last_cut byte (part ++ byte ∷ rest) ≡ Some (part, rest)
last_before byte [] rest none = ap (last_step byte byte rest) none ∙ last_here byte byte rest (eq-eqb byte byte refl)
last_before byte (b ∷ part) rest none = ap (last_step byte b (part ++ byte ∷ rest)) (last_before byte part rest none)

-- a cut text is its parts with the byte between, and another text after the byte is cut there too
pub record IsCut (byte : ℕ) (text front back : List ℕ) : Type 0 where
  pub whole : text ≡ front ++ byte ∷ back
  pub again : (other : List ℕ) → first_cut byte (front ++ byte ∷ other) ≡ Some (front, other)

cut_more : (byte b : ℕ) (text : List ℕ) (rest : Option Parts) → (b == byte) ≡ false
    → ((x y : List ℕ) → rest ≡ Some (x, y) → IsCut byte text x y)
    → (parts : Parts) → option_map (with_byte b) rest ≡ Some parts → IsCut byte (b ∷ text) parts.0 parts.1
cut_more byte b text None isnt ih parts e = absurd (cc e)
cut_more byte b text (Some (x, y)) isnt ih parts e =
    let before = ih x y refl in
    subst (λ (p : Parts). IsCut byte (b ∷ text) p.0 p.1) (same_Some _ _ e) (record {
      whole = ap (λ (t : List ℕ). b ∷ t) before.whole;
      again = λ other. first_later byte b (x ++ byte ∷ other) (first_cut byte (x ++ byte ∷ other)) isnt
          ∙ ap (option_map (with_byte b)) (before.again other);
    })

cut_head : (byte b : ℕ) (text : List ℕ) → (b == byte) ≡ true → IsCut byte (b ∷ text) [] text
cut_head byte b text same = record {
  whole = ap (λ (c : ℕ). c ∷ text) (eqb-true b byte same);
  again = λ other. first_here byte byte other (first_cut byte other) (eq-eqb byte byte refl);
}

cut_first : (byte b : ℕ) (text : List ℕ) (parts : Parts) → (b == byte) ≡ true → first_step byte b text (first_cut byte text) ≡ Some parts → IsCut byte (b ∷ text) parts.0 parts.1
cut_first byte b text parts same e =
    subst (λ (p : Parts). IsCut byte (b ∷ text) p.0 p.1) (same_Some _ _ (sym (first_here byte b text (first_cut byte text) same) ∙ e)) (cut_head byte b text same)

pub is_cut : (byte : ℕ) (text front back : List ℕ) → first_cut byte text ≡ Some (front, back) → IsCut byte text front back
is_cut byte [] front back e = absurd (cc e)
is_cut byte (b ∷ text) front back e = by_test (b == byte)
    (λ same. cut_first byte b text (front, back) same e)
    (λ isnt. cut_more byte b text (first_cut byte text) isnt (λ x y found. is_cut byte text x y found) (front, back)
    (sym (first_later byte b text (first_cut byte text) isnt) ∙ e))
