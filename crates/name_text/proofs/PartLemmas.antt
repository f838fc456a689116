-- How the kept parts of a path change when a part is put behind them.
use Rattle.std.proofs.Common.{◌≡◌, ℕ, ◌-◌, ◌<◌, ◌≤◌, List, [], ◌∷◌, ◌++◌, length, take, map, Bool, true, false, not, ◌&&◌, if◌then◌else◌, refl, sym, ap, ◌∙◌, append_assoc, arith, Some, slice_get, Bor, filter, codes, cond}
use Rattle.std.specs.List.{slice_split, onto_first}
use Rattle.std.proofs.lemmas.List.Splits.{length-slice_split}
use Rattle.std.proofs.lemmas.Slice.Eq.{bytes_eq-Decides}
use Rattle.std.proofs.lemmas.List.Elements.{filter-append}
use Rattle.std.proofs.lemmas.Grind.{common_steps}
use Rattle.std.proofs.lemmas.List.{take_more, append-nil, map-append}
use Rattle.std.proofs.lemmas.Option.{slice_get_within, get_or_from_slice_get}
use Rattle.name_text.specs.Paths.{is_slash, is_absolute, is_named, is_up, before, resolved, below_root, kept, parts_of, path_of, tidied, Gains}

-- parts with one `..` more: it stands behind a last `..`, and takes out another last part
abbrev pub with_up : List (List ℕ) → List ℕ → List (List ℕ)
with_up [] up = up ∷ []
with_up (part ∷ []) up = if is_up part then part ∷ up ∷ [] else []
with_up (part ∷ next ∷ rest) up = part ∷ with_up (next ∷ rest) up

-- the same below a root, which has nothing above it
abbrev pub with_up_at : Bool → List (List ℕ) → List ℕ → List (List ℕ)
with_up_at true [] up = []
with_up_at true (part ∷ rest) up = with_up (part ∷ rest) up
with_up_at false parts up = with_up parts up

before-name_by : (c : Bool) (r s t : List (List ℕ)) → (if c then r ++ t else s ++ t) ≡ (if c then r else s) ++ t
before-name_by true r s t = refl
before-name_by false r s t = refl

before-name : (x : List ℕ) (r : List (List ℕ)) (p : List ℕ) → is_up p ≡ false → before x (r ++ p ∷ []) ≡ before x r ++ p ∷ []
before-name x [] p h = rw h refl
before-name x (n ∷ rest) p h = before-name_by (is_up n && not (is_up x)) rest (x ∷ n ∷ rest) (p ∷ [])

pub resolved-name : (xs : List (List ℕ)) (p : List ℕ) → is_up p ≡ false → resolved (xs ++ p ∷ []) ≡ resolved xs ++ p ∷ []
resolved-name [] p h = refl
resolved-name (x ∷ xs) p h = ap (before x) (resolved-name xs p h) ∙ before-name x (resolved xs) p h

before-up_one : (x : List ℕ) (a : Bool) (up : List ℕ) → is_up up ≡ true → is_up x ≡ a → before x (up ∷ []) ≡ with_up (x ∷ []) up
before-up_one x true up h e = rw (h, e) refl
before-up_one x false up h e = rw (h, e) refl

before-up_two : (x n : List ℕ) (a b : Bool) (up : List ℕ) → is_up up ≡ true → is_up x ≡ a → is_up n ≡ b → before x (with_up (n ∷ []) up) ≡ with_up (before x (n ∷ [])) up
before-up_two x n true true up h e f = rw (f, e) (rw f refl)
before-up_two x n true false up h e f = rw f (rw f refl)
before-up_two x n false true up h e f = rw f (rw (f, e) refl)
before-up_two x n false false up h e f = rw f (rw f refl)

before-up_more : (c : Bool) (x n m : List ℕ) (more : List (List ℕ)) (up : List ℕ) → (if c then with_up (m ∷ more) up else x ∷ n ∷ with_up (m ∷ more) up) ≡ with_up (if c then m ∷ more else x ∷ n ∷ m ∷ more) up
before-up_more true x n m more up = refl
before-up_more false x n m more up = refl

before-up : (x : List ℕ) (r : List (List ℕ)) (up : List ℕ) → is_up up ≡ true → before x (with_up r up) ≡ with_up (before x r) up
before-up x [] up h = before-up_one x (is_up x) up h refl
before-up x (n ∷ []) up h = before-up_two x n (is_up x) (is_up n) up h refl refl
before-up x (n ∷ m ∷ more) up h = before-up_more (is_up n && not (is_up x)) x n m more up

pub resolved-up : (xs : List (List ℕ)) (up : List ℕ) → is_up up ≡ true → resolved (xs ++ up ∷ []) ≡ with_up (resolved xs) up
resolved-up [] up h = refl
resolved-up (x ∷ xs) up h = ap (before x) (resolved-up xs up h) ∙ before-up x (resolved xs) up h

below_root-name_by : (c : Bool) (r s t : List (List ℕ)) → (if c then r ++ t else s ++ t) ≡ (if c then r else s) ++ t
below_root-name_by true r s t = refl
below_root-name_by false r s t = refl

below_root-name : (xs : List (List ℕ)) (p : List ℕ) → is_up p ≡ false → below_root (xs ++ p ∷ []) ≡ below_root xs ++ p ∷ []
below_root-name [] p h = rw h refl
below_root-name (x ∷ xs) p h = ap (λ r. if is_up x then r else x ∷ xs ++ p ∷ []) (below_root-name xs p h) ∙ below_root-name_by (is_up x) (below_root xs) (x ∷ xs) (p ∷ [])

below_root-up_one : (x : List ℕ) (a : Bool) (up : List ℕ) → is_up up ≡ true → is_up x ≡ a → below_root (with_up (x ∷ []) up) ≡ with_up_at true (below_root (x ∷ [])) up
below_root-up_one x true up h e = rw e (rw (e, h) refl)
below_root-up_one x false up h e = rw e (rw e refl)

below_root-up_by : (c : Bool) (x n : List ℕ) (rest : List (List ℕ)) (up : List ℕ) → below_root (with_up (n ∷ rest) up) ≡ with_up_at true (below_root (n ∷ rest)) up
    → (if c then below_root (with_up (n ∷ rest) up) else x ∷ with_up (n ∷ rest) up) ≡ with_up_at true (if c then below_root (n ∷ rest) else x ∷ n ∷ rest) up
below_root-up_by true x n rest up e = e
below_root-up_by false x n rest up e = refl

below_root-up : (xs : List (List ℕ)) (up : List ℕ) → is_up up ≡ true → below_root (with_up xs up) ≡ with_up_at true (below_root xs) up
below_root-up [] up h = rw h refl
below_root-up (x ∷ []) up h = below_root-up_one x (is_up x) up h refl
below_root-up (x ∷ n ∷ rest) up h = below_root-up_by (is_up x) x n rest up (below_root-up (n ∷ rest) up h)

-- a part that isn't `..` stays behind the others
pub kept-name : (absolute : Bool) (xs : List (List ℕ)) (p : List ℕ) → is_up p ≡ false → kept absolute (xs ++ p ∷ []) ≡ kept absolute xs ++ p ∷ []
kept-name true xs p h = ap below_root (resolved-name xs p h) ∙ below_root-name (resolved xs) p h
kept-name false xs p h = resolved-name xs p h

-- a `..` takes out the last part, or stays, or leaves the root as it is
pub kept-up : (absolute : Bool) (xs : List (List ℕ)) (up : List ℕ) → is_up up ≡ true → kept absolute (xs ++ up ∷ []) ≡ with_up_at absolute (kept absolute xs) up
kept-up true xs up h = ap below_root (resolved-up xs up h) ∙ below_root-up (resolved xs) up h
kept-up false xs up h = resolved-up xs up h

with_up-name : (ys : List (List ℕ)) (last up : List ℕ) → is_up last ≡ false → with_up (ys ++ last ∷ []) up ≡ ys
with_up-name [] last up h = rw h refl
with_up-name (y ∷ []) last up h = ap (λ r. y ∷ r) (with_up-name [] last up h)
with_up-name (y ∷ z ∷ ys) last up h = ap (λ r. y ∷ r) (with_up-name (z ∷ ys) last up h)

with_up-up : (ys : List (List ℕ)) (last up : List ℕ) → is_up last ≡ true → with_up (ys ++ last ∷ []) up ≡ (ys ++ last ∷ []) ++ up ∷ []
with_up-up [] last up h = rw h refl
with_up-up (y ∷ []) last up h = ap (λ r. y ∷ r) (with_up-up [] last up h)
with_up-up (y ∷ z ∷ ys) last up h = ap (λ r. y ∷ r) (with_up-up (z ∷ ys) last up h)

with_up_at-last : (absolute : Bool) (ys : List (List ℕ)) (last up : List ℕ) → with_up_at absolute (ys ++ last ∷ []) up ≡ with_up (ys ++ last ∷ []) up
with_up_at-last true [] last up = refl
with_up_at-last true (y ∷ ys) last up = refl
with_up_at-last false ys last up = refl

pub with_up_at-name : (absolute : Bool) (ys : List (List ℕ)) (last up : List ℕ) → is_up last ≡ false → with_up_at absolute (ys ++ last ∷ []) up ≡ ys
with_up_at-name absolute ys last up h = with_up_at-last absolute ys last up ∙ with_up-name ys last up h

pub with_up_at-up : (absolute : Bool) (ys : List (List ℕ)) (last up : List ℕ) → is_up last ≡ true → with_up_at absolute (ys ++ last ∷ []) up ≡ (ys ++ last ∷ []) ++ up ∷ []
with_up_at-up absolute ys last up h = with_up_at-last absolute ys last up ∙ with_up-up ys last up h

-- a list by its last element
pub last_is : {X : Type 0} (xs : List X) (last : X) → slice_get xs (length xs - 1) ≡ Some last → xs ≡ take (length xs - 1) xs ++ last ∷ []
last_is xs last found =
    let within = slice_get_within xs (length xs - 1) last found in
    let there = get_or_from_slice_get xs (length xs - 1) last last found in
    let more = take_more xs (length xs - 1) last within in
    grind (arith, common_steps)

pub up_is : (part : List ℕ) → is_up part ≡ true → part ≡ codes ".."
up_is part h = let decided = bytes_eq-Decides part (codes "..") in decided.0 h

named-up : (part : List ℕ) → is_up part ≡ true → is_named part ≡ true
named-up part h = ap is_named (up_is part h)

pub gains_up : (absolute : Bool) (old new : List (List ℕ)) (up : List ℕ) → is_up up ≡ true → new ≡ with_up_at absolute old up → Gains absolute old new (up ∷ [])
gains_up absolute old new up h e earlier was =
    e ∙ ap (λ r. with_up_at absolute r up) was ∙ sym (kept-up absolute earlier up h) ∙ ap (λ b. kept absolute (earlier ++ (if b then up ∷ [] else []))) (sym (named-up up h))

pub gains_name : (absolute : Bool) (old new : List (List ℕ)) (part : List ℕ) → is_up part ≡ false → is_named part ≡ true → new ≡ old ++ part ∷ [] → Gains absolute old new (part ∷ [])
gains_name absolute old new part h named e earlier was =
    e ∙ ap (λ r. r ++ part ∷ []) was ∙ sym (kept-name absolute earlier part h) ∙ ap (λ b. kept absolute (earlier ++ (if b then part ∷ [] else []))) (sym named)

pub gains_none : (absolute : Bool) (old : List (List ℕ)) → Gains absolute old old []
gains_none absolute old earlier was = was ∙ ap (kept absolute) (sym (append-nil earlier))

pub gains_unnamed : (absolute : Bool) (old : List (List ℕ)) (part : List ℕ) → is_named part ≡ false → Gains absolute old old (part ∷ [])
gains_unnamed absolute old part named earlier was = gains_none absolute old earlier was ∙ ap (λ b. kept absolute (earlier ++ (if b then part ∷ [] else []))) (sym named)

pub gains_both : (absolute : Bool) (old mid new xs ys : List (List ℕ)) → Gains absolute old mid xs → Gains absolute mid new ys → Gains absolute old new (xs ++ ys)
gains_both absolute old mid new xs ys first second earlier was =
    second (earlier ++ filter is_named xs) (first earlier was) ∙ ap (kept absolute) (append_assoc earlier (filter is_named xs) (filter is_named ys) ∙ ap (λ r. earlier ++ r) (sym (filter-append is_named xs ys)))

abbrev pub now : Bor (List ℕ) → List ℕ
now part = part.now

-- what `last` and `pop` give of the parts
pub popped : (absolute : Bool) (items seen rest : List (Bor (List ℕ))) (n : ℕ) (last : Bor (List ℕ)) (up : List ℕ) → seen ≡ items → length seen ≡ n → Some last ≡ slice_get seen (length seen - 1) → is_up last.now ≡ false
    → rest ≡ take (n - 1) items → map (λ p. p.now) rest ≡ with_up_at absolute (map (λ p. p.now) items) up
popped absolute items seen rest n last up same len found h left =
    let front = take (length items - 1) items in
    let back : slice_get seen (length seen - 1) ≡ Some last = sym found in
    let found' : slice_get items (length items - 1) ≡ Some last = rw same at back in
    let whole : map now items ≡ map now front ++ last.now ∷ [] = ap (map now) (last_is items last found') ∙ map-append now front (last ∷ []) in
    let n' : n - 1 ≡ length items - 1 = omega (arith, len, ap length same) in
    ap (map now) left ∙ ap (λ k. map now (take k items)) n' ∙ sym (with_up_at-name absolute (map now front) last.now up h) ∙ ap (λ r. with_up_at absolute r up) (sym whole)

pub pushed : (absolute : Bool) (items seen more : List (Bor (List ℕ))) (last up : Bor (List ℕ)) → seen ≡ items → Some last ≡ slice_get seen (length seen - 1) → is_up last.now ≡ true
    → more ≡ items ++ up ∷ [] → map (λ p. p.now) more ≡ with_up_at absolute (map (λ p. p.now) items) up.now
pushed absolute items seen more last up same found h put =
    let front = take (length items - 1) items in
    let back : slice_get seen (length seen - 1) ≡ Some last = sym found in
    let found' : slice_get items (length items - 1) ≡ Some last = rw same at back in
    let whole : map now items ≡ map now front ++ last.now ∷ [] = ap (map now) (last_is items last found') ∙ map-append now front (last ∷ []) in
    ap (map now) put ∙ map-append now items (up ∷ []) ∙ ap (λ r. r ++ up.now ∷ []) whole ∙ sym (with_up_at-up absolute (map now front) last.now up.now h) ∙ ap (λ r. with_up_at absolute r up.now) (sym whole)

-- no part stands before a `..` at the root, or at the head of a relative path
pub at_root : (absolute : Bool) (items : List (Bor (List ℕ))) (up : List ℕ) → length items ≤ 0 → absolute ≡ true → map (λ p. p.now) items ≡ with_up_at absolute (map (λ p. p.now) items) up
at_root absolute [] up none e = rw e refl
at_root absolute (item ∷ items) up none e = absurd (omega arith)

pub at_head : (absolute : Bool) (items more : List (Bor (List ℕ))) (up : Bor (List ℕ)) → length items ≤ 0 → absolute ≡ false → more ≡ items ++ up ∷ [] → map (λ p. p.now) more ≡ with_up_at absolute (map (λ p. p.now) items) up.now
at_head absolute [] more up none e put = rw e (ap (map now) put)
at_head absolute (item ∷ items) more up none e put = absurd (omega arith)

kept-none : (absolute : Bool) → kept absolute [] ≡ []
kept-none true = refl
kept-none false = refl

-- no parts are those that are kept of none
pub begun : (absolute : Bool) (items : List (Bor (List ℕ))) → items ≡ [] → map (λ p. p.now) items ≡ kept absolute []
begun absolute items none = ap (map now) none ∙ sym (kept-none absolute)

pub tidied_is : (absolute : Bool) (path : List ℕ) (parts : List (List ℕ)) → absolute ≡ is_absolute path → parts ≡ kept absolute (parts_of path) → path_of absolute parts ≡ tidied path
tidied_is absolute path parts same e = ap (path_of absolute) e ∙ ap (λ a. path_of a (kept a (parts_of path))) same

split-by : (slash : Bool) (x : ℕ) (front back : List (List ℕ)) → 0 < length front → cond slash ([] ∷ front ++ back) (onto_first x (front ++ back)) ≡ cond slash ([] ∷ front) (onto_first x front) ++ back
split-by slash x [] back some = absurd (omega arith)
split-by true x (first ∷ rest) back some = refl
split-by false x (first ∷ rest) back some = refl

pub split-both : (xs ys : List ℕ) → slice_split is_slash (xs ++ 47 ∷ ys) ≡ slice_split is_slash xs ++ slice_split is_slash ys
split-both [] ys = refl
split-both (x ∷ xs) ys =
    ap (λ parts. cond (is_slash x) ([] ∷ parts) (onto_first x parts)) (split-both xs ys)
    ∙ split-by (is_slash x) x (slice_split is_slash xs) (slice_split is_slash ys) (omega (arith, length-slice_split is_slash xs))

-- a path's parts are those before one of its slashes and those behind it
pub parts_of-both : (front name : List ℕ) → filter is_named (slice_split is_slash front ++ slice_split is_slash name) ≡ parts_of (front ++ 47 ∷ name)
parts_of-both front name = ap (filter is_named) (sym (split-both front name))
