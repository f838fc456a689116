-- What is collected by keys ascends, and says of each key what was put.
use Rattle.std.proofs.Common.{◌≡◌, ◌∙◌, refl, sym, ap, Bool, true, false, List, [], ◌∷◌, Option, Some, None}
use Rattle.std.specs.Prelude.{◌||◌, if◌then◌else◌, fold}
use Rattle.std.specs.List.{AllByRecursion, Contains}
use Rattle.std.specs.List.Sorted.{IsStrictlySortedBy}
use Rattle.std.specs.Map.{lookup, keys_of}
use Rattle.std.specs.declared.cmp.Ordering.{Ordering}
use Rattle.std.specs.declared.cmp.Ordering.TheVariants.{Less}
use Rattle.std.specs.Ordering.{is_eq}
use Rattle.std.proofs.lemmas.List.Elements.{All-contains, All-from_recursion}
use Rattle.store_check.specs.Store.{newer}
use Rattle.stored.specs.Batch.{Ascends, said}
use Rattle.stored.proofs.Numbers.{each_said}
use Rattle.flow_events.specs.Rows.{Say, Puts, found}

true-false : {A : Type 0} → true ≡ false → A
true-false e = absurd cc

-- of the keys that are done, each has its value
pub record Collects {K V : Type 0} (cmp : K → K → Ordering) (pairs : List (K × V)) (done : K → Bool) (value : K → Option V) : Type 0 where
  pub found_is : (k : K) → found cmp pairs k ≡ (if done k then value k else None)
  pub sorted : IsStrictlySortedBy cmp (keys_of pairs)

newer_same : {V : Type 0} (d : Bool) (v : Option V) → newer (if d then v else None) v ≡ v
newer_same true None = refl
newer_same true (Some x) = refl
newer_same false None = refl
newer_same false (Some x) = refl

put_by : {V : Type 0} (d e : Bool) (now value : Option V) → (e ≡ true → now ≡ value) → newer (if d then value else None) (if e then now else None) ≡ (if d || e then value else None)
put_by true true now value is = ap (newer value) (is refl) ∙ newer_same true value
put_by false true now value is = ap (newer None) (is refl) ∙ newer_same false value
put_by true false now value is = refl
put_by false false now value is = refl

pub collects_next : {K V : Type 0} (cmp : K → K → Ordering) (old new : List (K × V)) (done next : K → Bool) (value : K → Option V) (key : K) → ((k : K) → is_eq (cmp key k) ≡ true → key ≡ k) → ((k : K) → next k ≡ (done k || is_eq (cmp key k)))
    → Collects cmp old done value → Puts cmp old new key (value key) → Collects cmp new next value
collects_next cmp old new done next value key exact more has puts = record {
  found_is = λ k.
      puts.found_is k
      ∙ ap (λ o. newer o (if is_eq (cmp key k) then value key else None)) (has.found_is k)
      ∙ put_by (done k) (is_eq (cmp key k)) (value key) (value k) (λ e. ap value (exact k e))
      ∙ ap (λ (b : Bool). if b then value k else None) (sym (more k));
  sorted = puts.sorted has.sorted;
}

all_before : {K V : Type 0} (cmp : K → K → Ordering) (Before : K → K → Type 0) → ((a b : K) → cmp a b ≡ Less → Before a b) → (k : K) (pairs : List (K × V)) → AllByRecursion (λ q. cmp k q ≡ Less) (keys_of pairs) → AllByRecursion (λ e. Before k e.0) pairs
all_before cmp Before less k [] all = tt
all_before cmp Before less k (e ∷ pairs) all = (less k e.0 all.0, all_before cmp Before less k pairs all.1)

ascend_by : {K V : Type 0} (cmp : K → K → Ordering) (Before : K → K → Type 0) → ((a b : K) → cmp a b ≡ Less → Before a b) → (pairs : List (K × V)) → IsStrictlySortedBy cmp (keys_of pairs) → Ascends (λ x y. Before x.0 y.0) pairs
unfolding IsStrictlySortedBy
ascend_by cmp Before less [] sorted = tt
ascend_by cmp Before less (e ∷ pairs) sorted = (all_before cmp Before less e.0 pairs sorted.0, ascend_by cmp Before less pairs sorted.1)

module _ {K V : Type 0} (test finds : K → Bool) (same : (q : K) → finds q ≡ test q) where
  abbrev step : Option V → K × V → Option V
  step o e = newer o (if test e.0 then Some e.1 else None)

  none_said : (o : Option V) (pairs : List (K × V)) → AllByRecursion (λ e. test e.0 ≡ false) pairs → fold step o pairs ≡ o
  none_said o [] none = refl
  none_said o (e ∷ pairs) none = ap (λ (p : Option V). fold step p pairs) (off (test e.0) o e.1 none.0) ∙ none_said o pairs none.1
    where
      off : (b : Bool) (p : Option V) (v : V) → b ≡ false → newer p (if b then Some v else None) ≡ p
      off true p v is = true-false is
      off false p v is = refl

  module _ (Before : K → K → Type 0) (apart : (a b : K) → Before a b → test a ≡ true → test b ≡ false) where
    all_apart : (k : K) (pairs : List (K × V)) → test k ≡ true → AllByRecursion (λ e. Before k e.0) pairs → AllByRecursion (λ e. test e.0 ≡ false) pairs
    all_apart k [] here all = tt
    all_apart k (e ∷ pairs) here all = (apart k e.0 all.0 here, all_apart k pairs here all.1)

    -- the last value for a key is its only one
    said_found : (pairs : List (K × V)) → Ascends (λ x y. Before x.0 y.0) pairs → said test pairs ≡ lookup finds pairs
    said_found [] up = refl
    said_found (e ∷ pairs) up = by (test e.0) (finds e.0) refl (same e.0) (said_found pairs up.1)
      where
        by : (t f : Bool) → test e.0 ≡ t → f ≡ test e.0 → said test pairs ≡ lookup finds pairs → fold step (newer None (if test e.0 then Some e.1 else None)) pairs ≡ (if f then Some e.1 else lookup finds pairs)
        by true true here eq rest = ap (λ (b : Bool). fold step (newer None (if b then Some e.1 else None)) pairs) here ∙ none_said (Some e.1) pairs (all_apart e.0 pairs here up.0)
        by true false here eq rest = true-false (sym here ∙ sym eq)
        by false true here eq rest = true-false (eq ∙ here)
        by false false here eq rest = ap (λ (b : Bool). fold step (newer None (if b then Some e.1 else None)) pairs) here ∙ rest

all_at : {X : Type 0} (P : X → Type 0) (xs : List X) (x : X) → AllByRecursion P xs → Contains xs x → P x
all_at P xs x all there = All-contains P xs x (All-from_recursion P xs all) there

module _ {K V : Type 0} (cmp : K → K → Ordering) (Before : K → K → Type 0) (test : K → K → Bool) (less : (a b : K) → cmp a b ≡ Less → Before a b) (eq : (k q : K) → is_eq (cmp k q) ≡ test k q) (same : (a : K) → test a a ≡ true) (apart : (a b : K) → Before a b → test b a ≡ false) (other : (a b : K) → Before a b → test a b ≡ false) (exact : (k q : K) → test k q ≡ true → k ≡ q) where
  -- what is collected says what it has
  pub collected_say : (pairs : List (K × V)) (word : K → Option V) → IsStrictlySortedBy cmp (keys_of pairs) → ((k : K) → found cmp pairs k ≡ word k) → Say Before test word pairs
  collected_say pairs word sorted is =
      let up : Ascends (λ (x y : K × V). Before x.0 y.0) pairs = ascend_by cmp Before less pairs sorted in
      let says : (k : K) → said (test k) pairs ≡ word k =
      (λ k. said_found (test k) (λ q. is_eq (cmp k q)) (eq k) Before (λ a b before here. ap (λ (x : K). test x b) (exact k a here) ∙ other a b before) pairs up ∙ is k) in
      record {
        ascend = up;
        said_is = says;
        each = λ k v there. sym (says k) ∙ all_at (λ (e : K × V). said (test e.0) pairs ≡ Some e.1) pairs (k, v) (each_said test Before same apart other pairs up) there;
      }
