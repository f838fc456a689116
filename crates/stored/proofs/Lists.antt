-- Lists that grow at their end.
use Rattle.std.proofs.Common.{◌≡◌, ◌∙◌, refl, sym, ap, subst, ℕ, zero, suc, Bool, true, false, List, [], ◌∷◌, ◌++◌, map, length, take, drop, Option, Some, None, append_assoc}
use Rattle.std.specs.Prelude.{fold, filter, if◌then◌else◌, nat_eq, nat_le, ◌||◌}
use Rattle.std.proofs.lemmas.List.Elements.{filter-append}
use Rattle.std.specs.List.{list_any}
use Rattle.std.specs.Cmp.Lexicographic.{pointwise}
use Rattle.std.proofs.lemmas.Grind.{fold-append}
use Rattle.std.proofs.lemmas.List.{append-nil, map-append}
use Rattle.flow_base.specs.declared.types.Key.{Key}
use Rattle.flow_base.specs.contracts.types.KeyPartialEq.TheImpl.{ghosts}
use Rattle.acts.specs.declared.act.Act.{Act}
use Rattle.acts.specs.declared.act.Taken.{Taken}
use Rattle.acts.specs.declared.link.Link.{Link}
use Rattle.acts.specs.Flows.{acts_of, objects, with_ends, link_of, flows}
use Rattle.acts.specs.Keys.{all_given, given, names_of, put_new, with_name, MOST_NAMES}
use Rattle.stored.specs.Batch.{names_at}

-- the first list is a prefix of the second
abbrev pub IsFront : {A : Type 0} → List A → List A → Type 0
IsFront {A} xs ys = (more : List A) × (ys ≡ xs ++ more)

pub front_same : {A : Type 0} (xs : List A) → IsFront xs xs
front_same xs = ([], sym (append-nil xs))

pub front_then : {A : Type 0} (xs ys zs : List A) → IsFront xs ys → IsFront ys zs → IsFront xs zs
front_then xs ys zs f g = (f.0 ++ g.0, g.1 ∙ ap (λ l. l ++ g.0) f.1 ∙ append_assoc xs f.0 g.0)

drop_front : {A : Type 0} (xs more : List A) → drop (length xs) (xs ++ more) ≡ more
drop_front [] more = refl
drop_front (x ∷ xs) more = drop_front xs more

-- a list is a prefix and what follows it
pub rejoined : {A : Type 0} (xs ys : List A) → IsFront xs ys → xs ++ drop (length xs) ys ≡ ys
rejoined {A} xs ys f = ap (λ (l : List A). xs ++ drop (length xs) l) f.1 ∙ ap (λ (l : List A). xs ++ l) (drop_front xs f.0) ∙ sym f.1

take_front : {A : Type 0} (n : ℕ) (xs more : List A) → IsFront (take n xs) (take n (xs ++ more))
take_front zero xs more = ([], refl)
take_front (suc n) [] more = (take (suc n) more, refl)
take_front {A} (suc n) (x ∷ xs) more = let f = take_front n xs more in (f.0, ap (λ (l : List A). x ∷ l) f.1)

pub take_fronts : {A : Type 0} (n : ℕ) (xs ys : List A) → IsFront xs ys → IsFront (take n xs) (take n ys)
take_fronts {A} n xs ys f = subst (λ (l : List A). IsFront (take n xs) (take n l)) (sym f.1) (take_front n xs f.0)

-- ---- objects

put_front : (seen : List Key) (k : Key) → (b : Bool) → IsFront seen (if b then seen else seen ++ k ∷ [])
put_front seen k true = front_same seen
put_front seen k false = (k ∷ [], refl)

ends_front : (seen : List Key) (l : Option Link) → IsFront seen (with_ends seen l)
ends_front seen None = front_same seen
ends_front seen (Some l) =
    let one = put_new ghosts.eq seen l.from in
    front_then seen one (put_new ghosts.eq one l.to) (put_front seen l.from (list_any (ghosts.eq l.from) seen)) (put_front one l.to (list_any (ghosts.eq l.to) one))

pub objects_front : (since before : List Act) → IsFront (objects before) (objects (since ++ before))
objects_front [] before = front_same (objects before)
objects_front (act ∷ since) before = front_then (objects before) (objects (since ++ before)) (objects (act ∷ (since ++ before))) (objects_front since before) (ends_front (objects (since ++ before)) (link_of (since ++ before) act))

-- ---- flows

pub flows_front : (since before : List Taken) → IsFront (flows before) (flows (since ++ before))
flows_front [] before = front_same (flows before)
flows_front (t ∷ since) before = front_then (flows before) (flows (since ++ before)) (flows (t ∷ (since ++ before))) (flows_front since before) (_, refl)

-- ---- names

name_front : (names : List (List ℕ)) (text : List ℕ) (b : Bool) → IsFront names (if b then names else names ++ text ∷ [])
name_front names text true = front_same names
name_front names text false = (text ∷ [], refl)

names_grow : (names texts : List (List ℕ)) → IsFront names (fold with_name names texts)
names_grow names [] = front_same names
names_grow names (t ∷ texts) = front_then names (with_name names t) (fold with_name (with_name names t) texts) (name_front names t (list_any (pointwise nat_eq t) names || nat_le MOST_NAMES (length names))) (names_grow (with_name names t) texts)

given_front : (text : List ℕ → List ℕ) (since before : List Act) → IsFront (all_given text before) (all_given text (since ++ before))
given_front text [] before = front_same (all_given text before)
given_front text (act ∷ since) before = front_then (all_given text before) (all_given text (since ++ before)) (all_given text (act ∷ (since ++ before))) (given_front text since before) (given text (since ++ before) act, refl)

abbrev texts_for : Key → List (Key × List ℕ) → List (List ℕ)
texts_for k pairs = map (λ p. p.1) (filter (λ p. ghosts.eq p.0 k) pairs)

pub names_front : (k : Key) (before more : List (Key × List ℕ)) → IsFront (names_of k before) (names_of k (before ++ more))
names_front k before more =
    let all : names_of k (before ++ more) ≡ fold with_name (names_of k before) (texts_for k more) =
    ap (λ (l : List (Key × List ℕ)). fold with_name [] (map (λ p. p.1) l)) (filter-append (λ p. ghosts.eq p.0 k) before more)
    ∙ ap (λ (l : List (List ℕ)). fold with_name [] l) (map-append (λ (p : Key × List ℕ). p.1) (filter (λ p. ghosts.eq p.0 k) before) (filter (λ p. ghosts.eq p.0 k) more))
    ∙ fold-append with_name [] (texts_for k before) (texts_for k more) in
    subst (λ (l : List (List ℕ)). IsFront (names_of k before) l) (sym all) (names_grow (names_of k before) (texts_for k more))

pub acts_joined : (since before now : List Taken) → now ≡ since ++ before → acts_of now ≡ acts_of since ++ acts_of before
acts_joined since before now is = ap acts_of is ∙ map-append (λ (t : Taken). t.act) since before

pub names_at_front : (text : List ℕ → List ℕ) (most : ℕ) (since before now : List Taken) → now ≡ since ++ before → (k : Key) → IsFront (names_at text most before k) (names_at text most now k)
names_at_front text most since before now is k =
    let g = given_front text (acts_of since) (acts_of before) in
    let f : IsFront (names_of k (all_given text (acts_of before))) (names_of k (all_given text (acts_of since ++ acts_of before))) =
    subst (λ (l : List (Key × List ℕ)). IsFront (names_of k (all_given text (acts_of before))) (names_of k l)) (sym g.1) (names_front k (all_given text (acts_of before)) g.0) in
    take_fronts most _ _ (subst (λ (l : List Act). IsFront (names_of k (all_given text (acts_of before))) (names_of k (all_given text l))) (sym (acts_joined since before now is)) f)
