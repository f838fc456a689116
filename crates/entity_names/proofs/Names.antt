-- What one more name makes of the names of a key.
use Rattle.std.proofs.Common.{◌≡◌, ◌≤◌, ◌<◌, ◌∙◌, ◌||◌, ap, sym, refl, ℕ, Bool, true, false, cond, List, [], ◌∷◌, ◌++◌, filter, map, take, length, if◌then◌else◌, arith}
use Rattle.std.specs.Prelude.{fold, nat_le, nat_eq}
use Rattle.std.specs.List.{list_any}
use Rattle.std.specs.Cmp.Lexicographic.{pointwise}
use Rattle.std.proofs.lemmas.Bool.Decides.{nat_tests}
use Rattle.std.proofs.lemmas.List.{take_all, take-append-le, length-take-le}
use Rattle.std.proofs.lemmas.Grind.{common_steps}
use Rattle.entity_names.specs.Known.{with_name_within}
use Rattle.flow_base.specs.declared.types.Key.{Key}
use Rattle.flow_base.specs.contracts.types.KeyPartialEq.TheImpl.{ghosts}
use Rattle.acts.specs.Keys.{names_of, with_name}

abbrev Pairs : Type 0
Pairs = List (Key × List ℕ)

abbrev texts_from : List (List ℕ) → Pairs → List (List ℕ)
texts_from names pairs = fold with_name names (map (λ p. p.1) pairs)

abbrev of_key : Key → Pairs → Pairs
of_key key pairs = filter (λ p. ghosts.eq p.0 key) pairs

only : (b : Bool) (names : List (List ℕ)) (p : Key × List ℕ) → texts_from names (cond b (p ∷ []) []) ≡ (if b then with_name (texts_from names []) p.1 else texts_from names [])
only true names p = refl
only false names p = refl

first : (b e : Bool) (names : List (List ℕ)) (p : Key × List ℕ) (after before : Pairs) (text : List ℕ)
    → texts_from (with_name names p.1) after ≡ (if e then with_name (texts_from (with_name names p.1) before) text else texts_from (with_name names p.1) before)
    → texts_from names after ≡ (if e then with_name (texts_from names before) text else texts_from names before)
    → texts_from names (cond b (p ∷ after) after) ≡ (if e then with_name (texts_from names (cond b (p ∷ before) before)) text else texts_from names (cond b (p ∷ before) before))
first true e names p after before text here there = here
first false e names p after before text here there = there

fold_from : (key : Key) (names : List (List ℕ)) (pairs : Pairs) (k : Key) (text : List ℕ)
    → texts_from names (of_key key (pairs ++ (k, text) ∷ [])) ≡ (if ghosts.eq k key then with_name (texts_from names (of_key key pairs)) text else texts_from names (of_key key pairs))
fold_from key names [] k text = only (ghosts.eq k key) names (k, text)
fold_from key names (p ∷ pairs) k text =
    first (ghosts.eq p.0 key) (ghosts.eq k key) names p (of_key key (pairs ++ (k, text) ∷ [])) (of_key key pairs) text
    (fold_from key (with_name names p.1) pairs k text) (fold_from key names pairs k text)

-- a list that is long enough is not changed by one more
long : (b : Bool) (most : ℕ) (names : List (List ℕ)) (text : List ℕ) → most ≤ length names → take most (if b then names else names ++ text ∷ []) ≡ take most names
long true most names text enough = refl
long false most names text enough = take-append-le most names (text ∷ []) enough

stays : (b : Bool) (names : List (List ℕ)) (text : List ℕ) → (if b || true then names else names ++ text ∷ []) ≡ names
stays true names text = refl
stays false names text = refl

-- nor is its front
full : (b c : Bool) (names : List (List ℕ)) (text : List ℕ) → c ≡ true → (if b || c then names else names ++ text ∷ []) ≡ names
full b c names text is = ap (λ t. if b || t then names else names ++ text ∷ []) is ∙ stays b names text

grows : (b : Bool) (most : ℕ) (names : List (List ℕ)) (text : List ℕ) → length names < most
    → take most (if b || false then names else names ++ text ∷ []) ≡ (if b || false then names else names ++ text ∷ [])
grows true most names text place = take_all most names (let e : length names ≤ most = omega arith in e)
grows false most names text place = take_all most (names ++ text ∷ []) (grind (arith, common_steps))

-- a list with a place gets it
short : (b c d : Bool) (most : ℕ) (names : List (List ℕ)) (text : List ℕ) → c ≡ false → d ≡ false → length names < most
    → take most (if b || c then names else names ++ text ∷ []) ≡ (if b || d then names else names ++ text ∷ [])
short b c d most names text is_c is_d place =
    ap (λ t. take most (if b || t then names else names ++ text ∷ [])) is_c ∙ grows b most names text place ∙ ap (λ t. if b || t then names else names ++ text ∷ []) (sym is_d)

upto : (a b : ℕ) → a ≤ b → nat_le a b ≡ true
upto a b h = grind (arith, nat_tests)

above : (a b : ℕ) → b < a → nat_le a b ≡ false
above a b h = grind (arith, nat_tests)

-- the first names of one more are those of the first names with one more
cut_by : (tested : Bool) (most : ℕ) (names : List (List ℕ)) (text : List ℕ) → nat_le most (length names) ≡ tested → most ≤ 16
    → take most (with_name names text) ≡ with_name_within most (take most names) text
cut_by true most names text is within =
    let enough : most ≤ length names = grind (arith, nat_tests) in
    long (list_any (pointwise nat_eq text) names || nat_le 16 (length names)) most names text enough
    ∙ sym (full (list_any (pointwise nat_eq text) (take most names)) (nat_le most (length (take most names))) (take most names) text
    (upto most (length (take most names)) (let e : length (take most names) ≡ most = length-take-le most names enough in (let f : most ≤ length (take most names) = omega arith in f))))
cut_by false most names text is within =
    let place : length names < most = grind (arith, nat_tests) in
    short (list_any (pointwise nat_eq text) names) (nat_le 16 (length names)) (nat_le most (length names)) most names text (above 16 (length names) (let e : length names < 16 = omega arith in e)) is place
    ∙ ap (λ front. with_name_within most front text) (sym (take_all most names (let e : length names ≤ most = omega arith in e)))

cut : (most : ℕ) (names : List (List ℕ)) (text : List ℕ) → most ≤ 16 → take most (with_name names text) ≡ with_name_within most (take most names) text
cut most names text within = cut_by (nat_le most (length names)) most names text refl within

cut_if : (b : Bool) (most : ℕ) (names : List (List ℕ)) (text : List ℕ) → most ≤ 16 → take most (if b then with_name names text else names) ≡ (if b then with_name_within most (take most names) text else take most names)
cut_if true most names text within = cut most names text within
cut_if false most names text within = refl

pub one_more : (most : ℕ) (key : Key) (pairs : Pairs) (k : Key) (text : List ℕ) → most ≤ 16
    → take most (names_of key (pairs ++ (k, text) ∷ [])) ≡ (if ghosts.eq k key then with_name_within most (take most (names_of key pairs)) text else take most (names_of key pairs))
one_more most key pairs k text within = ap (take most) (fold_from key [] pairs k text) ∙ cut_if (ghosts.eq k key) most (names_of key pairs) text within
