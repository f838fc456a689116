-- The parts of a tidied path.
use Rattle.std.proofs.Common.{◌≡◌, ◌≢◌, ℕ, zero, suc, List, [], ◌∷◌, ◌++◌, Bool, true, false, not, ◌&&◌, cond, if◌then◌else◌, replicate, refl, sym, ap, ◌∙◌, filter, codes, true≢false, eq-eqb, ne_eqb, length, take, arith, Option, Some, None, subst, append_assoc, ⊎_elim}
use Rattle.std.specs.Str.{bytes_eq}
use Rattle.std.proofs.lemmas.Bool.{cases_Bool}
use Rattle.std.proofs.lemmas.List.Elements.{filter-append}
use Rattle.std.proofs.lemmas.Slice.Eq.{bytes_eq-Decides}
use Rattle.std.specs.List.{AllByRecursion, slice_split, onto_first, join_with_byte}
use Rattle.name_text.specs.Paths.{is_slash, is_absolute, is_named, is_up, before, resolved, below_root, kept, parts_of, path_of, tidied, whole, joined}
use Rattle.name_text.specs.TidyPaths.{IsName, AreTidy}
use Rattle.name_text.proofs.PartLemmas.{up_is, split-both, kept-name, kept-up, with_up_at, with_up_at-name}

-- a part without slashes
abbrev pub Whole : List ℕ → Type 0
Whole part = AllByRecursion (λ byte. byte ≢ 47) part

-- a part of a path that leads anywhere
abbrev IsPart : List ℕ → Type 0
IsPart part = (is_named part ≡ true) × Whole part

-- the same, and no way up
abbrev pub IsPlain : List ℕ → Type 0
IsPlain part = (is_named part ≡ true) × Whole part × (is_up part ≡ false)

-- parts in order
pub record InOrder (absolute : Bool) (parts : List (List ℕ)) : Type 0 where
  pub ups : ℕ
  pub names : List (List ℕ)
  pub order : parts ≡ replicate ups (codes "..") ++ names
  pub plain : AllByRecursion IsPlain names
  pub at_root : absolute ≡ true → ups ≡ 0

no_slash : (byte : ℕ) → is_slash byte ≡ false → byte ≢ 47
no_slash byte none e = true≢false (sym (eq-eqb byte 47 e) ∙ none)

split_by : (slash : Bool) (byte : ℕ) (parts : List (List ℕ)) → is_slash byte ≡ slash → AllByRecursion Whole parts → AllByRecursion Whole (cond slash ([] ∷ parts) (onto_first byte parts))
split_by true byte parts e h = (tt, h)
split_by false byte [] e h = ((no_slash byte e, tt), tt)
split_by false byte (part ∷ parts) e h = ((no_slash byte e, h.0), h.1)

pub split_whole : (path : List ℕ) → AllByRecursion Whole (slice_split is_slash path)
split_whole [] = (tt, tt)
split_whole (byte ∷ path) = split_by (is_slash byte) byte (slice_split is_slash path) refl (split_whole path)

filter_by : (named : Bool) (part : List ℕ) (parts : List (List ℕ)) → is_named part ≡ named → Whole part → AllByRecursion IsPart parts → AllByRecursion IsPart (if named then part ∷ parts else parts)
filter_by true part parts e w h = ((e, w), h)
filter_by false part parts e w h = h

filter_parts : (parts : List (List ℕ)) → AllByRecursion Whole parts → AllByRecursion IsPart (filter is_named parts)
filter_parts [] h = tt
filter_parts (part ∷ parts) h = filter_by (is_named part) part (filter is_named parts) refl h.0 (filter_parts parts h.1)

parts_are : (path : List ℕ) → AllByRecursion IsPart (parts_of path)
parts_are path = filter_parts (slice_split is_slash path) (split_whole path)

-- a way up stands before all parts
up_by : (a : Bool) (up : List ℕ) (r s : List (List ℕ)) → (if a && false then r else s) ≡ s
up_by true up r s = refl
up_by false up r s = refl

up_before : (r : List (List ℕ)) → before (codes "..") r ≡ codes ".." ∷ r
up_before [] = refl
up_before (next ∷ rest) = up_by (is_up next) (codes "..") rest (codes ".." ∷ next ∷ rest)

-- a name stands before names
name_before : (part : List ℕ) (names : List (List ℕ)) → AllByRecursion IsPlain names → before part names ≡ part ∷ names
name_before part [] h = refl
name_before part (next ∷ rest) h = ap (λ b. if b && not (is_up part) then rest else part ∷ next ∷ rest) h.0.2

-- a name goes out with a way up
name_out : (part : List ℕ) (rest : List (List ℕ)) → is_up part ≡ false → before part (codes ".." ∷ rest) ≡ rest
name_out part rest h = ap (λ b. if not b then rest else part ∷ codes ".." ∷ rest) h

order_before : (b : Bool) (part : List ℕ) (ups : ℕ) (names r : List (List ℕ)) → is_up part ≡ b → IsPart part → r ≡ replicate ups (codes "..") ++ names → AllByRecursion IsPlain names → InOrder false (before part r)
order_before true part ups names r e p order plain = record {
  ups = suc ups;
  names = names;
  order = ap (λ x. before x r) (up_is part e) ∙ up_before r ∙ ap (λ rest. codes ".." ∷ rest) order;
  plain = plain;
  at_root = λ t. absurd (true≢false (sym t));
}
order_before false part zero names r e p order plain = record {
  ups = 0;
  names = part ∷ names;
  order = ap (before part) order ∙ name_before part names plain;
  plain = ((p.0, p.1, e), plain);
  at_root = λ t. absurd (true≢false (sym t));
}
order_before false part (suc ups) names r e p order plain = record {
  ups = ups;
  names = names;
  order = ap (before part) order ∙ name_out part (replicate ups (codes "..") ++ names) e;
  plain = plain;
  at_root = λ t. absurd (true≢false (sym t));
}

order_resolved : (parts : List (List ℕ)) → AllByRecursion IsPart parts → InOrder false (resolved parts)
order_resolved [] h = record { ups = 0; names = []; order = refl; plain = tt; at_root = λ t. refl }
order_resolved (part ∷ parts) h = let rest = order_resolved parts h.1 in order_before (is_up part) part rest.ups rest.names (resolved parts) refl h.0 rest.order rest.plain

below_names : (names : List (List ℕ)) → AllByRecursion IsPlain names → below_root names ≡ names
below_names [] h = refl
below_names (part ∷ rest) h = ap (λ b. if b then below_root rest else part ∷ rest) h.0.2

below_ups : (ups : ℕ) (names : List (List ℕ)) → AllByRecursion IsPlain names → below_root (replicate ups (codes "..") ++ names) ≡ names
below_ups zero names h = below_names names h
below_ups (suc ups) names h = below_ups ups names h

named_by : (part : List ℕ) → IsPlain part → IsName part
named_by part h = record {
  some = λ e. true≢false (sym h.0 ∙ ap is_named e);
  whole = h.1;
  here = λ e. true≢false (sym h.0 ∙ ap is_named e);
  up = λ e. true≢false (sym (ap is_up e) ∙ h.2);
}

all_named : (names : List (List ℕ)) → AllByRecursion IsPlain names → AllByRecursion IsName names
all_named [] h = tt
all_named (part ∷ names) h = (named_by part h.0, all_named names h.1)

order_kept : (absolute : Bool) (parts : List (List ℕ)) → InOrder false (resolved parts) → InOrder absolute (kept absolute parts)
order_kept true parts h = record {
  ups = 0;
  names = h.names;
  order = ap below_root h.order ∙ below_ups h.ups h.names h.plain;
  plain = h.plain;
  at_root = λ t. refl;
}
order_kept false parts h = h

-- the parts that stay of a path
order_of : (path : List ℕ) → InOrder (is_absolute path) (kept (is_absolute path) (parts_of path))
order_of path = order_kept (is_absolute path) (parts_of path) (order_resolved (parts_of path) (parts_are path))

tidy_by : (absolute : Bool) (parts : List (List ℕ)) → InOrder absolute parts → AreTidy absolute parts
tidy_by absolute parts h = record { ups = h.ups; names = h.names; order = h.order; named = all_named h.names h.plain; at_root = h.at_root }

pub tidy_of : (path : List ℕ) → (parts : List (List ℕ)) × (tidied path ≡ path_of (is_absolute path) parts) × AreTidy (is_absolute path) parts
tidy_of path = (kept (is_absolute path) (parts_of path), refl, tidy_by (is_absolute path) (kept (is_absolute path) (parts_of path)) (order_of path))

alone_by : (cwd : Option (List ℕ)) (name : List ℕ) → is_absolute name ≡ true → whole cwd name ≡ name
alone_by None name h = refl
alone_by (Some cwd) name h = ap (λ b. if b then name else cwd ++ 47 ∷ name) h

pub alone : (first second : Option (List ℕ)) (name : List ℕ) (limit : ℕ) → is_absolute name ≡ true → joined first name limit ≡ joined second name limit
alone first second name limit h = ap (λ path. take limit (tidied path)) (alone_by first name h ∙ sym (alone_by second name h))

-- ---- tidying twice

resolved_names : (names : List (List ℕ)) → AllByRecursion IsPlain names → resolved names ≡ names
resolved_names [] h = refl
resolved_names (part ∷ names) h = ap (before part) (resolved_names names h.1) ∙ name_before part names h.1

resolved_ups : (ups : ℕ) (names : List (List ℕ)) → AllByRecursion IsPlain names → resolved (replicate ups (codes "..") ++ names) ≡ replicate ups (codes "..") ++ names
resolved_ups zero names h = resolved_names names h
resolved_ups (suc ups) names h = ap (before (codes "..")) (resolved_ups ups names h) ∙ up_before (replicate ups (codes "..") ++ names)

kept_back : (absolute : Bool) (parts : List (List ℕ)) → InOrder absolute parts → kept absolute parts ≡ parts
kept_back true parts h =
    let same = ap resolved h.order ∙ resolved_ups h.ups h.names h.plain in
    ap below_root same ∙ below_ups h.ups h.names h.plain ∙ sym (h.order ∙ ap (λ n. replicate n (codes "..") ++ h.names) (h.at_root refl))
kept_back false parts h = ap resolved h.order ∙ resolved_ups h.ups h.names h.plain ∙ sym h.order

plain_parts : (names : List (List ℕ)) → AllByRecursion IsPlain names → AllByRecursion IsPart names
plain_parts [] h = tt
plain_parts (part ∷ names) h = ((h.0.0, h.0.1), plain_parts names h.1)

ups_parts : (ups : ℕ) (names : List (List ℕ)) → AllByRecursion IsPlain names → AllByRecursion IsPart (replicate ups (codes "..") ++ names)
ups_parts zero names h = plain_parts names h
ups_parts (suc ups) names h = ((refl, (no_slash 46 refl, (no_slash 46 refl, tt))), ups_parts ups names h)

are_parts : (absolute : Bool) (parts : List (List ℕ)) → InOrder absolute parts → AllByRecursion IsPart parts
are_parts absolute parts h = subst (AllByRecursion IsPart) (sym h.order) (ups_parts h.ups h.names h.plain)

split_alone : (part : List ℕ) → Whole part → slice_split is_slash part ≡ part ∷ []
split_alone [] h = refl
split_alone (byte ∷ part) h =
    let parts = slice_split is_slash part in
    ap (λ slash. cond slash ([] ∷ parts) (onto_first byte parts)) (ne_eqb byte 47 h.0) ∙ ap (onto_first byte) (split_alone part h.1)

split_join : (part : List ℕ) (rest : List (List ℕ)) → IsPart part → AllByRecursion IsPart rest → slice_split is_slash (join_with_byte 47 (part ∷ rest)) ≡ part ∷ rest
split_join part [] h more = split_alone part h.1
split_join part (next ∷ rest) h more =
    split-both part (join_with_byte 47 (next ∷ rest)) ∙ ap (λ front. front ++ slice_split is_slash (join_with_byte 47 (next ∷ rest))) (split_alone part h.1)
    ∙ ap (λ back. part ∷ back) (split_join next rest more.0 more.1)

filter_same : (parts : List (List ℕ)) → AllByRecursion IsPart parts → filter is_named parts ≡ parts
filter_same [] h = refl
filter_same (part ∷ parts) h = ap (λ b. if b then part ∷ filter is_named parts else filter is_named parts) h.0.0 ∙ ap (λ rest. part ∷ rest) (filter_same parts h.1)

parts_back : (absolute : Bool) (parts : List (List ℕ)) → AllByRecursion IsPart parts → parts_of (path_of absolute parts) ≡ parts
parts_back true [] h = refl
parts_back true (part ∷ rest) h = ap (filter is_named) (split_join part rest h.0 h.1) ∙ filter_same (part ∷ rest) h
parts_back false [] h = refl
parts_back false (part ∷ rest) h = ap (filter is_named) (split_join part rest h.0 h.1) ∙ filter_same (part ∷ rest) h

relative_by : (part : List ℕ) (rest : List (List ℕ)) → IsPart part → is_absolute (join_with_byte 47 (part ∷ rest)) ≡ false
relative_by [] rest h = absurd (true≢false (sym h.0))
relative_by (byte ∷ part) [] h = ne_eqb byte 47 h.1.0
relative_by (byte ∷ part) (next ∷ rest) h = ne_eqb byte 47 h.1.0

root_back : (absolute : Bool) (parts : List (List ℕ)) → AllByRecursion IsPart parts → is_absolute (path_of absolute parts) ≡ absolute
root_back true parts h = refl
root_back false [] h = refl
root_back false (part ∷ rest) h = relative_by part rest h.0

pub stays_by : (absolute : Bool) (parts : List (List ℕ)) → InOrder absolute parts → tidied (path_of absolute parts) ≡ path_of absolute parts
stays_by absolute parts h =
    let each = are_parts absolute parts h in
    ap (λ b. path_of b (kept b (parts_of (path_of absolute parts)))) (root_back absolute parts each) ∙ ap (λ ps. path_of absolute (kept absolute ps)) (parts_back absolute parts each)
    ∙ ap (path_of absolute) (kept_back absolute parts h)

pub stays : (path : List ℕ) → tidied (tidied path) ≡ tidied path
stays path = stays_by (is_absolute path) (kept (is_absolute path) (parts_of path)) (order_of path)

-- ---- a way up

name_is_up : (name : List ℕ) → IsName name → is_up name ≡ false
name_is_up name h = ⊎_elim (λ yes'. absurd (h.up (up_is name yes'))) (λ no'. no') (cases_Bool (is_up name))

is_here : (name : List ℕ) → IsName name → bytes_eq name (codes ".") ≡ false
is_here name h = ⊎_elim (λ yes'. let decided = bytes_eq-Decides name (codes ".") in absurd (h.here (decided.0 yes'))) (λ no'. no') (cases_Bool (bytes_eq name (codes ".")))

name_is_named : (name : List ℕ) → IsName name → is_named name ≡ true
name_is_named [] h = absurd (h.some refl)
name_is_named (byte ∷ rest) h =
    let some : length (byte ∷ rest) ≢ 0 = λ e. absurd (omega (arith, e)) in
    ap (λ b. not b && not (bytes_eq (byte ∷ rest) (codes "."))) (ne_eqb (length (byte ∷ rest)) 0 some) ∙ ap not (is_here (byte ∷ rest) h)

filter_name : (name : List ℕ) → IsName name → filter is_named (name ∷ codes ".." ∷ []) ≡ name ∷ codes ".." ∷ []
filter_name name h = ap (λ b. if b then name ∷ codes ".." ∷ [] else codes ".." ∷ []) (name_is_named name h)

parts_of-way : (path name : List ℕ) → IsName name → parts_of (path ++ 47 ∷ (name ++ codes "/..")) ≡ (parts_of path ++ name ∷ []) ++ codes ".." ∷ []
parts_of-way path name h =
    ap (filter is_named) (split-both path (name ++ codes "/..") ∙ ap (λ back. slice_split is_slash path ++ back) (split-both name (codes "..") ∙ ap (λ front. front ++ codes ".." ∷ []) (split_alone name h.whole)))
    ∙ filter-append is_named (slice_split is_slash path) (name ∷ codes ".." ∷ []) ∙ ap (λ back. parts_of path ++ back) (filter_name name h)
    ∙ sym (append_assoc (parts_of path) (name ∷ []) (codes ".." ∷ []))

kept_way : (absolute : Bool) (parts : List (List ℕ)) (name : List ℕ) → IsName name → kept absolute ((parts ++ name ∷ []) ++ codes ".." ∷ []) ≡ kept absolute parts
kept_way absolute parts name h =
    kept-up absolute (parts ++ name ∷ []) (codes "..") refl ∙ ap (λ r. with_up_at absolute r (codes "..")) (kept-name absolute parts name (name_is_up name h))
    ∙ with_up_at-name absolute (kept absolute parts) name (codes "..") (name_is_up name h)

root_way : (path back : List ℕ) → path ≢ [] → is_absolute (path ++ back) ≡ is_absolute path
root_way [] back some = absurd (some refl)
root_way (byte ∷ path) back some = refl

pub way_up : (path name : List ℕ) → path ≢ [] → IsName name → tidied (path ++ 47 ∷ (name ++ codes "/..")) ≡ tidied path
way_up path name some h =
    let long = path ++ 47 ∷ (name ++ codes "/..") in
    ap (λ b. path_of b (kept b (parts_of long))) (root_way path (47 ∷ (name ++ codes "/..")) some)
    ∙ ap (path_of (is_absolute path)) (ap (kept (is_absolute path)) (parts_of-way path name h) ∙ kept_way (is_absolute path) (parts_of path) name h)
