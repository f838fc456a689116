-- A path whose parts are all names is tidy as it is.
use Rattle.std.proofs.Common.{◌≡◌, ℕ, ◌<◌, ◌==◌, List, [], ◌∷◌, ◌++◌, Bool, true, false, not, ◌&&◌, cond, if◌then◌else◌, refl, sym, ap, ◌∙◌, length, codes, inl, inr, arith, true≢false}
use Rattle.std.specs.Str.{bytes_eq}
use Rattle.std.proofs.lemmas.Bool.{cases_Bool, and_parts, and_from, eqb-true, ne_eqb}
use Rattle.std.proofs.lemmas.Slice.Eq.{bytes_eq-Decides}
use Rattle.std.proofs.lemmas.List.Splits.{join_with_byte-slice_split, length-slice_split}
use Rattle.std.specs.List.{AllByRecursion, slice_split, onto_first, join_with_byte}
use Rattle.name_text.specs.Paths.{is_slash, is_named, is_up, path_of, tidied}
use Rattle.name_text.specs.PlainPaths.{next_begun, plain_from, is_plain}
use Rattle.name_text.proofs.PartLemmas.{up_is}
use Rattle.name_text.proofs.TidyLemmas.{Whole, IsPlain, split_whole, stays_by}

-- whether a part that has begun so ends as a name
abbrev ends_named : ℕ → List ℕ → Bool
ends_named begun [] = begun == 3
ends_named begun (byte ∷ part) = ends_named (next_begun begun byte) part

-- all parts are names, the first with what it has begun with
abbrev AreNamed : ℕ → List (List ℕ) → Type 0
AreNamed begun [] = ⊥
AreNamed begun (part ∷ parts) = (ends_named begun part ≡ true) × AllByRecursion (λ one. ends_named 0 one ≡ true) parts

all_named : (parts : List (List ℕ)) → AreNamed 0 parts → AllByRecursion (λ one. ends_named 0 one ≡ true) parts
all_named [] are = tt
all_named (part ∷ parts) are = are

put_before : (begun byte : ℕ) (parts : List (List ℕ)) → AreNamed (next_begun begun byte) parts → AreNamed begun (onto_first byte parts)
put_before begun byte [] are = absurd are
put_before begun byte (part ∷ parts) are = are

parts_named_by : (slash : Bool) (begun byte : ℕ) (text : List ℕ) (parts : List (List ℕ))
    → ((next : ℕ) → plain_from next text ≡ true → AreNamed next parts)
    → (if slash then begun == 3 && plain_from 0 text else plain_from (next_begun begun byte) text) ≡ true
    → AreNamed begun (cond slash ([] ∷ parts) (onto_first byte parts))
parts_named_by true begun byte text parts after is =
    let both = and_parts (begun == 3) (plain_from 0 text) is in (both.0, all_named parts (after 0 both.1))
parts_named_by false begun byte text parts after is = put_before begun byte parts (after (next_begun begun byte) is)

parts_named : (begun : ℕ) (text : List ℕ) → plain_from begun text ≡ true → AreNamed begun (slice_split is_slash text)
parts_named begun [] is = (is, tt)
parts_named begun (byte ∷ text) is =
    parts_named_by (is_slash byte) begun byte text (slice_split is_slash text) (λ next more. parts_named next text more) is

-- a name is neither empty nor `.` nor `..`
never_up : (part : List ℕ) → ends_named 0 part ≡ true → is_up part ≡ false
never_up part ends =
    elim (cases_Bool (is_up part)) [
      | inl up ↦ absurd (true≢false (sym ends ∙ ap (ends_named 0) (up_is part up)))
      | inr other ↦ other
    ]

never_here : (part : List ℕ) → ends_named 0 part ≡ true → bytes_eq part (codes ".") ≡ false
never_here part ends =
    elim (cases_Bool (bytes_eq part (codes "."))) [
      | inl here ↦ absurd (true≢false (sym ends ∙ ap (ends_named 0) ((bytes_eq-Decides part (codes ".")).0 here)))
      | inr other ↦ other
    ]

leads_on : (part : List ℕ) → ends_named 0 part ≡ true → is_named part ≡ true
leads_on [] ends = absurd (true≢false (sym ends))
leads_on (byte ∷ part) ends =
    and_from (not (length (byte ∷ part) == 0)) (not (bytes_eq (byte ∷ part) (codes ".")))
    (ap not (ne_eqb (length (byte ∷ part)) 0 (λ none. omega (arith, none)))) (ap not (never_here (byte ∷ part) ends))

all_plain : (parts : List (List ℕ)) → AllByRecursion (λ one. ends_named 0 one ≡ true) parts → AllByRecursion Whole parts → AllByRecursion IsPlain parts
all_plain [] are whole = tt
all_plain (part ∷ parts) are whole =
    ((leads_on part are.0, whole.0, never_up part are.0), all_plain parts are.1 whole.1)

plain_split : (text : List ℕ) → plain_from 0 text ≡ true → AllByRecursion IsPlain (slice_split is_slash text)
plain_split text is = all_plain (slice_split is_slash text) (all_named _ (parts_named 0 text is)) (split_whole text)

relative : (parts : List (List ℕ)) → 0 < length parts → path_of false parts ≡ join_with_byte 47 parts
relative [] some = absurd (omega (arith, some))
relative (part ∷ parts) some = refl

relative_stays : (text : List ℕ) → plain_from 0 text ≡ true → tidied text ≡ text
relative_stays text is =
    let parts = slice_split is_slash text in
    let same : path_of false parts ≡ text =
    relative parts (omega (arith, length-slice_split is_slash text)) ∙ join_with_byte-slice_split 47 text in
    ap tidied (sym same)
    ∙ stays_by false parts record { ups = 0; names = parts; order = refl; plain = plain_split text is; at_root = λ root. refl }
    ∙ same

absolute_stays : (text : List ℕ) → plain_from 0 text ≡ true → tidied (47 ∷ text) ≡ 47 ∷ text
absolute_stays text is =
    let parts = slice_split is_slash text in
    let same : path_of true parts ≡ 47 ∷ text = ap (λ (rest : List ℕ). 47 ∷ rest) (join_with_byte-slice_split 47 text) in
    ap tidied (sym same)
    ∙ stays_by true parts record { ups = 0; names = parts; order = refl; plain = plain_split text is; at_root = λ root. refl }
    ∙ same

stays_by_first : (slash : Bool) (byte : ℕ) (text : List ℕ) → is_slash byte ≡ slash → (if slash then plain_from 0 text else plain_from 0 (byte ∷ text)) ≡ true → tidied (byte ∷ text) ≡ byte ∷ text
stays_by_first true byte text first is =
    let same : byte ∷ text ≡ 47 ∷ text = ap (λ (one : ℕ). one ∷ text) (eqb-true byte 47 first) in
    ap tidied same ∙ absolute_stays text is ∙ sym same
stays_by_first false byte text first is = relative_stays (byte ∷ text) is

-- a path whose parts are all names stays as it is
pub plain_stays : (path : List ℕ) → is_plain path ≡ true → tidied path ≡ path
plain_stays [] is = relative_stays [] is
plain_stays (byte ∷ text) is = stays_by_first (is_slash byte) byte text refl is

plain_both_by : (slash : Bool) (begun byte : ℕ) (front name : List ℕ)
    → ((next : ℕ) → plain_from next front ≡ true → plain_from next (front ++ 47 ∷ name) ≡ true)
    → (if slash then begun == 3 && plain_from 0 front else plain_from (next_begun begun byte) front) ≡ true
    → (if slash then begun == 3 && plain_from 0 (front ++ 47 ∷ name) else plain_from (next_begun begun byte) (front ++ 47 ∷ name)) ≡ true
plain_both_by true begun byte front name after is =
    let both = and_parts (begun == 3) (plain_from 0 front) is in
    and_from (begun == 3) (plain_from 0 (front ++ 47 ∷ name)) both.0 (after 0 both.1)
plain_both_by false begun byte front name after is = after (next_begun begun byte) is

plain_both : (begun : ℕ) (front name : List ℕ) → plain_from begun front ≡ true → plain_from 0 name ≡ true → plain_from begun (front ++ 47 ∷ name) ≡ true
plain_both begun [] name is more = and_from (begun == 3) (plain_from 0 name) is more
plain_both begun (byte ∷ front) name is more =
    plain_both_by (is_slash byte) begun byte front name (λ next whole. plain_both next front name whole more) is

joined_by : (slash : Bool) (byte : ℕ) (front name : List ℕ) → (if slash then plain_from 0 front else plain_from 0 (byte ∷ front)) ≡ true → plain_from 0 name ≡ true → (if slash then plain_from 0 (front ++ 47 ∷ name) else plain_from 0 (byte ∷ front ++ 47 ∷ name)) ≡ true
joined_by true byte front name is more = plain_both 0 front name is more
joined_by false byte front name is more = plain_both 0 (byte ∷ front) name is more

-- the same of a path that is given as the text before a slash and the text after it
pub plain_behind : (front name : List ℕ) → is_plain front ≡ true → plain_from 0 name ≡ true → tidied (front ++ 47 ∷ name) ≡ front ++ 47 ∷ name
plain_behind [] name is more = absurd (true≢false (sym is))
plain_behind (byte ∷ front) name is more = plain_stays (byte ∷ front ++ 47 ∷ name) (joined_by (is_slash byte) byte front name is more)
