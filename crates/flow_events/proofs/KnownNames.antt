-- A name that its key has already, given once more.
use Rattle.std.proofs.Common.{◌≡◌, ◌∙◌, ◌||◌, ap, sym, subst, refl, ℕ, Bool, true, false, cond, List, [], ◌∷◌, ◌++◌, filter, map, take, drop, length, if◌then◌else◌, append_assoc}
use Rattle.std.specs.Prelude.{fold, nat_le, nat_eq}
use Rattle.std.specs.List.{list_any}
use Rattle.std.specs.Cmp.Lexicographic.{pointwise}
use Rattle.std.proofs.lemmas.List.{append-nil, map-append, take-append-drop}
use Rattle.std.proofs.lemmas.List.Elements.{filter-append}
use Rattle.std.proofs.lemmas.List.Folds.{list_any-append}
use Rattle.std.proofs.lemmas.List.Sums.{fold-append}
use Rattle.flow_base.specs.declared.types.Key.{Key}
use Rattle.flow_base.specs.contracts.types.KeyPartialEq.TheImpl.{ghosts}
use Rattle.acts.specs.Keys.{MOST_NAMES, names_of, with_name}
use Rattle.entity_names.specs.Known.{Known, NamesAs, names_at}
use Rattle.flow_events.specs.Entering.{NameAlike, SameNames}

abbrev Pairs : Type 0
Pairs = List (Key × List ℕ)

abbrev texts_for : Key → Pairs → List (List ℕ)
texts_for key pairs = map (λ p. p.1) (filter (λ p. ghosts.eq p.0 key) pairs)

abbrev has : List ℕ → List (List ℕ) → Bool
has text names = list_any (pointwise nat_eq text) names

-- what is given later comes after the names that were there
later : (key : Key) (before more : Pairs) → names_of key (before ++ more) ≡ fold with_name (names_of key before) (texts_for key more)
later key before more =
    ap (λ pairs. fold with_name [] (map (λ p. p.1) pairs)) (filter-append (λ p. ghosts.eq p.0 key) before more)
    ∙ ap (fold with_name []) (map-append (λ p. p.1) (filter (λ p. ghosts.eq p.0 key) before) (filter (λ p. ghosts.eq p.0 key) more))
    ∙ fold-append with_name [] (texts_for key before) (texts_for key more)

stays_by : (known : Bool) (text one : List ℕ) (names : List (List ℕ)) → has text names ≡ true → has text (if known then names else names ++ one ∷ []) ≡ true
stays_by true text one names there = there
stays_by false text one names there = list_any-append (pointwise nat_eq text) names (one ∷ []) ∙ ap (λ b. b || has text (one ∷ [])) there

-- a name that is there stays
stays : (text : List ℕ) (names texts : List (List ℕ)) → has text names ≡ true → has text (fold with_name names texts) ≡ true
stays text names [] there = there
stays text names (one ∷ texts) there = stays text (with_name names one) texts (stays_by (has one names || nat_le MOST_NAMES (length names)) text one names there)

-- what is among the first is among all
among_all : (most : ℕ) (text : List ℕ) (names : List (List ℕ)) → has text (take most names) ≡ true → has text names ≡ true
among_all most text names there =
    ap (has text) (sym (take-append-drop most names))
    ∙ list_any-append (pointwise nat_eq text) (take most names) (drop most names)
    ∙ ap (λ b. b || has text (drop most names)) there

-- a name that is there changes nothing
again : (text : List ℕ) (names : List (List ℕ)) → has text names ≡ true → with_name names text ≡ names
again text names there = ap (λ b. if b || nat_le MOST_NAMES (length names) then names else names ++ text ∷ []) there

one_more : (its : Bool) (names : List (List ℕ)) (p : Key × List ℕ) → (its ≡ true → with_name names p.1 ≡ names) → fold with_name names (map (λ p. p.1) (cond its (p ∷ []) [])) ≡ names
one_more true names p same = same refl
one_more false names p same = refl

-- a key's name that is given again changes the names of no key
pub known_alike : (table : Known) (key : Key) (text : List ℕ) → ((a b : Key) → ghosts.eq a b ≡ true → a ≡ b) → list_any (pointwise nat_eq text) (names_at table key) ≡ true → NameAlike table ((key, text) ∷ []) []
known_alike table key text exact there = record {
  each = λ before since stands k.
      let first : has text (names_of key before) ≡ true = among_all table.most_names text (names_of key before) (subst (λ names. has text names ≡ true) (stands.each key) there) in
      let now : has text (names_of key (before ++ since)) ≡ true = ap (has text) (later key before since) ∙ stays text (names_of key before) (texts_for key since) first in
      later k (before ++ since) ((key, text) ∷ [])
      ∙ one_more (ghosts.eq key k) (names_of k (before ++ since)) (key, text)
      (λ its. again text (names_of k (before ++ since)) (subst (λ q. has text (names_of q (before ++ since)) ≡ true) (exact key k its) now))
      ∙ ap (names_of k) (sym (append-nil (before ++ since)));
}

-- the names with those of one more act
pub named_after : (table : Known) (all before given act_names named now_given : Pairs) → NamesAs table before → SameNames all (before ++ given) → NameAlike table act_names named → now_given ≡ given ++ named
    → SameNames (all ++ act_names) (before ++ now_given)
named_after table all before given act_names named now_given stands so_far alike is = λ k.
    later k all act_names
    ∙ ap (λ names. fold with_name names (texts_for k act_names)) (so_far k)
    ∙ sym (later k (before ++ given) act_names)
    ∙ alike.each before given stands k
    ∙ ap (names_of k) (append_assoc before given named ∙ ap (λ names. before ++ names) (sym is))
