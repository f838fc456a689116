-- A text that is cut at a byte: the part before has none of it, and a text without it isn't cut.
use Rattle.std.proofs.Common.{◌≡◌, ◌≢◌, ◌<◌, ◌+◌, ◌==◌, ◌∙◌, refl, ap, ℕ, Bool, true, false, not, cond, List, [], ◌∷◌, ◌++◌, length, take, drop, get_or, None, Some, if◌then◌else◌, nat_lt, arith, suc, length-append}
use Rattle.std.specs.List.{AllByRecursion, list_all, position_or_len}
use Rattle.std.proofs.lemmas.Bool.{and_parts, ne_eqb, eq-eqb, eqb-true, lt-ltb, le-ltb, ltb-true, both_ways, cond-true, cond-false}
use Rattle.std.proofs.Math.Seq.{take-append_seam, drop-append-add}
use Rattle.std.proofs.lemmas.List.Sums.{split_at_first, passes_at_first}
use Rattle.memchr.specs.Find.{is_byte}
use Rattle.report_json.specs.Reading.{cut_at}

-- no byte of the text is this one
abbrev pub HasNo : ℕ → List ℕ → Type 0
HasNo byte text = AllByRecursion (λ b. b ≢ byte) text

counted : (same : Bool) (n m : ℕ) → same ≡ false → n ≡ m → cond (not same) (1 + n) 0 ≡ suc m
counted true n m isnt is = cc isnt
counted false n m isnt is = omega (arith, is)

-- the first place of a byte that isn't there is the length
no_place : (byte : ℕ) (text : List ℕ) → HasNo byte text → position_or_len (is_byte byte) text ≡ length text
no_place byte [] none = refl
no_place byte (b ∷ text) none =
    counted (b == byte) (position_or_len (is_byte byte) text) (length text) (ne_eqb _ _ none.0) (no_place byte text none.1)

-- and where the byte stands behind, it is the place of that one
place_here : (byte : ℕ) (part rest : List ℕ) → HasNo byte part → position_or_len (is_byte byte) (part ++ byte ∷ rest) ≡ length part
place_here byte [] rest none = rw (eq-eqb byte byte refl) refl
place_here byte (b ∷ part) rest none =
    counted (b == byte) (position_or_len (is_byte byte) (part ++ byte ∷ rest)) (length part) (ne_eqb _ _ none.0) (place_here byte part rest none.1)

-- a text whose bytes pass a test has no byte that doesn't
pub passing_has_no : (test : ℕ → Bool) (byte : ℕ) (text : List ℕ) → test byte ≡ false → list_all test text ≡ true → HasNo byte text
passing_has_no test byte [] fails all = tt
passing_has_no test byte (b ∷ text) fails all =
    let parts = and_parts _ _ all in
    (λ same. both_ways (test b) (ap test same ∙ fails) parts.0, passing_has_no test byte text fails parts.1)

abbrev around : List ℕ → ℕ → List ℕ × List ℕ
around text place = (take place text, drop (place + 1) text)

cut_by : (text : List ℕ) (place n : ℕ) → place ≡ n → n < length text
    → (if nat_lt place (length text) then Some (around text place) else None) ≡ Some (around text n)
cut_by text place n is within = rw is (cond-true (nat_lt n (length text)) (Some (around text n)) None (lt-ltb n (length text) within))

pub cut_here : (byte : ℕ) (part rest : List ℕ) → HasNo byte part → cut_at byte (part ++ byte ∷ rest) ≡ Some (part, rest)
cut_here byte part rest none =
    let text = part ++ byte ∷ rest in
    let front : take (length part) text ≡ part = take-append_seam part (byte ∷ rest) in
    let back : drop (length part + 1) text ≡ rest = drop-append-add part (byte ∷ rest) 1 in
    cut_by text (position_or_len (is_byte byte) text) (length part) (place_here byte part rest none) (simp length-append (omega arith))
    ∙ ap (λ x. Some (x, drop (length part + 1) text)) front ∙ ap (λ y. Some (part, y)) back

pub no_cut : (byte : ℕ) (text : List ℕ) → HasNo byte text → cut_at byte text ≡ None
no_cut byte text none =
    let at_end = no_place byte text none in
    cond-false (nat_lt (position_or_len (is_byte byte) text) (length text)) _ None (le-ltb _ _ (omega (arith, at_end)))

-- a value that was chosen by a test
pub chosen_some : {A : Type 0} (test : Bool) (a b : A) → (if test then Some a else None) ≡ Some b → (test ≡ true) × (a ≡ b)
chosen_some true a b is = (refl, cc is)
chosen_some false a b is = cc is

pub cut_is : (byte : ℕ) (text front back : List ℕ) → cut_at byte text ≡ Some (front, back) → text ≡ front ++ byte ∷ back
cut_is byte text front back is =
    let place = position_or_len (is_byte byte) text in
    let parts = chosen_some (nat_lt place (length text)) (around text place) (front, back) is in
    let before : take place text ≡ front = ap (λ (p : List ℕ × List ℕ). p.0) parts.1 in
    let after : drop (place + 1) text ≡ back = ap (λ (p : List ℕ × List ℕ). p.1) parts.1 in
    let within = ltb-true place (length text) parts.0 in
    let there = eqb-true _ _ (passes_at_first (is_byte byte) text 0 within) in
    split_at_first (is_byte byte) text 0 within ∙ ap (λ x. x ++ get_or text place 0 ∷ drop (place + 1) text) before
    ∙ ap (λ b. front ++ b ∷ drop (place + 1) text) there ∙ ap (λ y. front ++ byte ∷ y) after
