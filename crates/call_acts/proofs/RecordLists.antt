-- One more record of a list: what is last, and what each path gives.
use Rattle.std.proofs.Common.{◌≡◌, ℕ, ◌+◌, ◌<◌, ◌≤◌, List, [], ◌∷◌, ◌++◌, length, Option, None, Some, get_or, take, refl, ap, sym, ◌∙◌, append-nil, Bor}
use Rattle.std.specs.Prelude.{option_map}
use Rattle.std.proofs.lemmas.List.{take_more, take_all}
use Rattle.std.proofs.lemmas.Grind.{flat_map-append}
use Rattle.std.specs.Option.{option_or, option_to_list}
use Rattle.std.specs.List.{flat_map, last_or}
use Rattle.audit_record.specs.declared.types.Record.{Record}
use Rattle.audit_record.specs.declared.types.PathItem.{PathItem}
use Rattle.audit_record.specs.declared.types.NameKind.{NameKind}
use Rattle.audit_record.specs.declared.types.NameKind.TheVariants.{Create, Normal, Unknown}
use Rattle.call_acts.specs.Records.{path_in, paths, target}

-- the paths of one more record
pub more_paths : (kind : NameKind) (records : List Record) (i : ℕ) (r : Record) → i < length records → paths kind (take (i + 1) records) ≡ paths kind (take i records) ++ path_in kind (get_or records i r).body
more_paths kind records i r within =
    ap (paths kind) (take_more records i r within)
    ∙ flat_map-append (λ (one : Record). path_in kind one.body) (take i records) (get_or records i r ∷ [])
    ∙ ap (λ (last : List PathItem). paths kind (take i records) ++ last) (append-nil (path_in kind (get_or records i r).body))

-- the last of two lists
last_of_both : {A : Type 0} (o : Option A) (xs ys : List A) → last_or o (xs ++ ys) ≡ last_or (last_or o xs) ys
last_of_both o [] ys = refl
last_of_both o (x ∷ xs) ys = last_of_both (Some x) xs ys

-- a last item stays, whatever stands in for it
last_stays : {A : Type 0} (x : A) (xs : List A) (o : Option A) → option_or (last_or (Some x) xs) o ≡ last_or (Some x) xs
last_stays x [] o = refl
last_stays x (y ∷ xs) o = last_stays y xs o

-- the last item, or else another
last_or_else : {A : Type 0} (o : Option A) (xs : List A) → last_or o xs ≡ option_or (last_or None xs) o
last_or_else o [] = refl
last_or_else o (x ∷ xs) = sym (last_stays x xs o)

-- the last path of one more record
more_last : (kind : NameKind) (records : List Record) (i : ℕ) (r : Record) → i < length records → last_or None (paths kind (take (i + 1) records)) ≡ last_or (last_or None (paths kind (take i records))) (path_in kind (get_or records i r).body)
more_last kind records i r within = ap (last_or None) (more_paths kind records i r within) ∙ last_of_both None (paths kind (take i records)) (path_in kind (get_or records i r).body)

-- the last path, where the one of a further record comes after it
pub last_after : (kind : NameKind) (records : List Record) (i : ℕ) (r : Record) (found before now : Option PathItem) → i < length records → r ≡ get_or records i r → option_to_list found ≡ path_in kind r.body → before ≡ last_or None (paths kind (take i records)) → now ≡ option_or found before → now ≡ last_or None (paths kind (take (i + 1) records))
last_after kind records i r None before now within is gives so_far next =
    next ∙ so_far ∙ ap (last_or (last_or None (paths kind (take i records)))) (gives ∙ ap (λ (one : Record). path_in kind one.body) is) ∙ sym (more_last kind records i r within)
last_after kind records i r (Some item) before now within is gives so_far next =
    next ∙ ap (last_or (last_or None (paths kind (take i records)))) (gives ∙ ap (λ (one : Record). path_in kind one.body) is) ∙ sym (more_last kind records i r within)

-- what stands in a reference to an item, or else in another one
pub now_of_either : (a b : Option (Bor PathItem)) → option_map (λ p. p.now) (option_or a b) ≡ option_or (option_map (λ p. p.now) a) (option_map (λ p. p.now) b)
now_of_either None b = refl
now_of_either (Some item) b = refl

first_of_three : (a b c : Option PathItem) → option_or (option_or a b) c ≡ option_or a (option_or b c)
first_of_three None b c = refl
first_of_three (Some item) b c = refl

-- the last paths of the three kinds of all records give the target
pub target_is : (records : List Record) (i : ℕ) (created normal unknown : Option PathItem) → length records ≤ i → created ≡ last_or None (paths Create (take i records)) → normal ≡ last_or None (paths Normal (take i records)) → unknown ≡ last_or None (paths Unknown (take i records)) → option_or (option_or created normal) unknown ≡ target records
target_is records i created normal unknown end is_created is_normal is_unknown =
    let all : take i records ≡ records = take_all i records end in
    let last : (kind : NameKind) (o : Option PathItem) → o ≡ last_or None (paths kind (take i records)) → o ≡ last_or None (paths kind records) = λ kind o is. is ∙ ap (λ (some : List Record). last_or None (paths kind some)) all in
    first_of_three created normal unknown
    ∙ ap (λ o. option_or o (option_or normal unknown)) (last Create created is_created)
    ∙ sym (last_or_else (option_or normal unknown) (paths Create records))
    ∙ ap (λ o. last_or (option_or o unknown) (paths Create records)) (last Normal normal is_normal)
    ∙ ap (λ o. last_or o (paths Create records)) (sym (last_or_else unknown (paths Normal records)))
    ∙ ap (λ o. last_or (last_or o (paths Normal records)) (paths Create records)) (last Unknown unknown is_unknown)

-- what each path of one more record gives
pub more_each : {A : Type 0} (gives : PathItem → List A) (kind : NameKind) (records : List Record) (i : ℕ) (r : Record) → i < length records → flat_map gives (paths kind (take (i + 1) records)) ≡ flat_map gives (paths kind (take i records)) ++ flat_map gives (path_in kind (get_or records i r).body)
more_each gives kind records i r within = ap (flat_map gives) (more_paths kind records i r within) ∙ flat_map-append gives (paths kind (take i records)) (path_in kind (get_or records i r).body)
