-- Keys that are entered one after the other.
use Rattle.std.proofs.Common.{◌≡◌, ◌≢◌, ◌<◌, ◌≤◌, ◌+◌, ◌++◌, ◌∙◌, ◌⊎◌, inl, inr, ap, not, nat_lt, Some, None, ◌==◌, ◌||◌, ◌&&◌, cond, suc, ℕ, List, [], ◌∷◌, length, length-append, Bool, true, false, refl, sym, if◌then◌else◌, get_or, arith}
use Rattle.std.proofs.lemmas.Grind.{common_steps}
use Rattle.std.specs.List.{list_any, position, position_or_len}
use Rattle.std.proofs.lemmas.List.Folds.{list_any-append}
use Rattle.std.proofs.lemmas.List.Sums.{passes_at_first}
use Rattle.flow_base.specs.declared.types.Key.{Key}
use Rattle.flow_base.specs.contracts.types.KeyPartialEq.TheImpl.{ghosts}
use Rattle.acts.specs.Keys.{put_new}
use Rattle.acts.specs.Flows.{number_in}
use Rattle.acts.specs.LookBack.{as_number}

-- equal keys are one key, and a key is equal to itself
pub record AreOne : Type 0 where
  pub exact : (a b : Key) → ghosts.eq a b ≡ true → a ≡ b
  pub same : (a : Key) → ghosts.eq a a ≡ true

module _ {X : Type 0} (p : X → Bool) where
  within_step : (b any : Bool) (n m : ℕ) → (any ≡ true → n < m) → (b || any) ≡ true → cond (not b) (1 + n) 0 < suc m
  within_step true any n m rest found = omega arith
  within_step false any n m rest found = let below : n < m = rest found in omega arith

  -- a place that is found is within the list
  pub found_within : (xs : List X) → list_any p xs ≡ true → position_or_len p xs < length xs
  found_within [] found = let wrong : false ≡ true = found in cc
  found_within (x ∷ xs) found = within_step (p x) (list_any p xs) (position_or_len p xs) (length xs) (found_within xs) found

  none_step : (b any : Bool) (n m : ℕ) → (any ≡ false → n ≡ m) → (b || any) ≡ false → cond (not b) (1 + n) 0 ≡ suc m
  none_step true any n m rest none = let wrong : true ≡ false = none in cc
  none_step false any n m rest none = let same : n ≡ m = rest none in omega arith

  -- where none is found the place is the end
  pub none_found : (xs : List X) → list_any p xs ≡ false → position_or_len p xs ≡ length xs
  none_found [] none = refl
  none_found (x ∷ xs) none = none_step (p x) (list_any p xs) (position_or_len p xs) (length xs) (none_found xs) none

  -- an item that comes last and passes is the first that does, where none did
  pub last_place : (xs : List X) (x : X) → list_any p xs ≡ false → p x ≡ true → position_or_len p (xs ++ x ∷ []) ≡ length xs
  last_place [] x none passes = rw passes refl
  last_place (y ∷ xs) x none passes = last_step (p y) (list_any p xs) (position_or_len p (xs ++ x ∷ [])) (length xs) (λ none_later. last_place xs x none_later passes) none
    where
      last_step : (b any : Bool) (n m : ℕ) → (any ≡ false → n ≡ m) → (b || any) ≡ false → cond (not b) (1 + n) 0 ≡ suc m
      last_step = none_step

  by_any : (b : Bool) (xs : List X) → list_any p xs ≡ b → (position_or_len p xs == length xs) ≡ not b
  by_any true xs any = let below = found_within xs any in grind (arith, common_steps, below)
  by_any false xs any = let here = none_found xs any in grind (arith, common_steps, here)

  -- the place is the end exactly where none is found
  pub at_end : (xs : List X) → (position_or_len p xs == length xs) ≡ not (list_any p xs)
  at_end xs = by_any (list_any p xs) xs refl

  some_by : (b : Bool) (n place : ℕ) → cond b (Some n) None ≡ Some place → place ≡ n
  some_by true n place is = cc
  some_by false n place is = absurd (none_is_not place is)
    where
      none_is_not : (s : ℕ) → None ≡ Some s → ⊥
      none_is_not s is = cc

  -- a place that is found is the first one
  pub some_place : (xs : List X) (place : ℕ) → position p xs ≡ Some place → place ≡ position_or_len p xs
  some_place xs place is = some_by (nat_lt (position_or_len p xs) (length xs)) (position_or_len p xs) place is

  none_by : (b : Bool) (xs : List X) → list_any p xs ≡ b → position p xs ≡ None → length xs ≡ position_or_len p xs
  none_by true xs any is = let below = found_within xs any in grind (arith, common_steps, below)
  none_by false xs any is = sym (none_found xs any)

  -- where no place is found it is the end
  pub none_place : (xs : List X) → position p xs ≡ None → length xs ≡ position_or_len p xs
  none_place xs is = none_by (list_any p xs) xs refl is

  within_by : (b : Bool) (xs : List X) → list_any p xs ≡ b → position_or_len p xs ≤ length xs
  within_by true xs any = let below = found_within xs any in omega (arith, below)
  within_by false xs any = let here = none_found xs any in omega (arith, here)

  pub within : (xs : List X) → position_or_len p xs ≤ length xs
  within xs = within_by (list_any p xs) xs refl

-- how a key is entered: it was there, or it is the next one
pub record WasThere (seen now : List Key) (n : ℕ) : Type 0 where
  pub same : now ≡ seen
  pub within : n < length seen

pub record IsNext (seen now : List Key) (n : ℕ) : Type 0 where
  pub longer : length now ≡ suc (length seen)
  pub last : n ≡ length seen

entered_by : AreOne → (b : Bool) (seen : List Key) (key : Key) → list_any (ghosts.eq key) seen ≡ b
    → WasThere seen (if b then seen else seen ++ key ∷ []) (number_in (if b then seen else seen ++ key ∷ []) key)
    ⊎ IsNext seen (if b then seen else seen ++ key ∷ []) (number_in (if b then seen else seen ++ key ∷ []) key)
entered_by one true seen key there = inl (record { same = refl; within = found_within (ghosts.eq key) seen there })
entered_by one false seen key new =
    inr (record {
      longer = length-append seen (key ∷ []) ∙ (let e : length seen + 1 ≡ suc (length seen) = omega arith in e);
      last = last_place (ghosts.eq key) seen key new (one.same key);
    })

pub entered : AreOne → (seen : List Key) (key : Key)
    → WasThere seen (put_new ghosts.eq seen key) (number_in (put_new ghosts.eq seen key) key) ⊎ IsNext seen (put_new ghosts.eq seen key) (number_in (put_new ghosts.eq seen key) key)
entered one seen key = entered_by one (list_any (ghosts.eq key) seen) seen key refl

or_true : (b : Bool) → (b || (true || false)) ≡ true
or_true true = refl
or_true false = refl

there_by : AreOne → (b : Bool) (seen : List Key) (key : Key) → list_any (ghosts.eq key) seen ≡ b → list_any (ghosts.eq key) (if b then seen else seen ++ key ∷ []) ≡ true
there_by one true seen key there = there
there_by one false seen key new = rw (list_any-append (ghosts.eq key) seen (key ∷ []), one.same key) (or_true (list_any (ghosts.eq key) seen))

-- a key that was entered is there
pub there_now : AreOne → (seen : List Key) (key : Key) → list_any (ghosts.eq key) (put_new ghosts.eq seen key) ≡ true
there_now one seen key = there_by one (list_any (ghosts.eq key) seen) seen key refl

end_by : (b : Bool) (seen : List Key) (key : Key) (place : ℕ) → (place == length seen) ≡ not b → place ≡ length seen → (if b then seen else seen ++ key ∷ []) ≡ seen ++ key ∷ []
end_by true seen key place at here = absurd (grind (arith, common_steps, at, here))
end_by false seen key place at here = refl

-- a key whose place is the end goes last
pub put_at_end : (seen : List Key) (key : Key) (place : ℕ) → place ≡ number_in seen key → place ≡ length seen → put_new ghosts.eq seen key ≡ seen ++ key ∷ []
put_at_end seen key place is here = end_by (list_any (ghosts.eq key) seen) seen key place (rw is (at_end (ghosts.eq key) seen)) here

inside_by : (b : Bool) (seen : List Key) (key : Key) (place : ℕ) → (place == length seen) ≡ not b → (place ≡ length seen → ⊥) → (if b then seen else seen ++ key ∷ []) ≡ seen
inside_by true seen key place at elsewhere = refl
inside_by false seen key place at elsewhere = absurd (elsewhere (grind (arith, common_steps, at)))

-- a key that has another place is there
pub put_inside : (seen : List Key) (key : Key) (place : ℕ) → place ≡ number_in seen key → (place ≡ length seen → ⊥) → put_new ghosts.eq seen key ≡ seen
put_inside seen key place is elsewhere = inside_by (list_any (ghosts.eq key) seen) seen key place (rw is (at_end (ghosts.eq key) seen)) elsewhere

-- two keys that are there have two numbers
pub numbers_differ : AreOne → (keys : List Key) (from to : Key) → from ≢ to → number_in keys from < length keys → number_in keys to < length keys
    → number_in keys from ≢ number_in keys to
numbers_differ one keys from to apart left right same =
    let d = from in
    let here = one.exact from _ (passes_at_first (ghosts.eq from) keys d left) in
    let there = one.exact to _ (passes_at_first (ghosts.eq to) keys d right) in
    apart (here ∙ ap (λ n. get_or keys n d) same ∙ sym there)

number_by : AreOne → (b : Bool) (seen : List Key) (key : Key) → list_any (ghosts.eq key) seen ≡ b → number_in (if b then seen else seen ++ key ∷ []) key ≡ number_in seen key
number_by one true seen key there = refl
number_by one false seen key new = last_place (ghosts.eq key) seen key new (one.same key) ∙ sym (none_found (ghosts.eq key) seen new)

-- a key that is entered has the number of its place, or the next one
pub number_entered : AreOne → (seen : List Key) (key : Key) → number_in (put_new ghosts.eq seen key) key ≡ number_in seen key
number_entered one seen key = number_by one (list_any (ghosts.eq key) seen) seen key refl

longer_by : (b : Bool) (seen : List Key) (key : Key) → list_any (ghosts.eq key) seen ≡ b → length (if b then seen else seen ++ key ∷ []) ≡ length seen + as_number (not b)
longer_by true seen key there = omega arith
longer_by false seen key new = length-append seen (key ∷ [])

-- a list of keys is longer by one where the key is new
longer : (seen : List Key) (key : Key) → length (put_new ghosts.eq seen key) ≡ length seen + as_number (not (list_any (ghosts.eq key) seen))
longer seen key = longer_by (list_any (ghosts.eq key) seen) seen key refl

or_false : (b : Bool) → (b || false) ≡ b
or_false true = refl
or_false false = refl

-- the second end is new where it was not there and is not the first one
second_by : AreOne → (b same : Bool) (seen : List Key) (from to : Key) → list_any (ghosts.eq from) seen ≡ b → ghosts.eq to from ≡ same
    → not (list_any (ghosts.eq to) (if b then seen else seen ++ from ∷ [])) ≡ (not (list_any (ghosts.eq to) seen) && not same)
second_by one true true seen from to there same =
    let e : to ≡ from = one.exact to from same in
    let known : list_any (ghosts.eq to) seen ≡ true = ap (λ k. list_any (ghosts.eq k) seen) e ∙ there in
    rw known refl
second_by one true false seen from to there differ = sym (and_true (not (list_any (ghosts.eq to) seen)))
  where
    and_true : (b : Bool) → (b && true) ≡ b
    and_true true = refl
    and_true false = refl
second_by one false same seen from to new is = rw (list_any-append (ghosts.eq to) seen (from ∷ []), is) (not_or (list_any (ghosts.eq to) seen) same)
  where
    not_or : (a b : Bool) → not (a || (b || false)) ≡ (not a && not b)
    not_or true b = refl
    not_or false true = refl
    not_or false false = refl

-- how many ends of a link are new
pub new_ends : AreOne → (seen : List Key) (from to : Key)
    → length (put_new ghosts.eq (put_new ghosts.eq seen from) to)
    ≡ length seen + (as_number (not (list_any (ghosts.eq from) seen)) + as_number (not (list_any (ghosts.eq to) seen) && not (ghosts.eq to from)))
new_ends one seen from to =
    let mid = put_new ghosts.eq seen from in
    let first = longer seen from in
    let second = longer mid to in
    let new = second_by one (list_any (ghosts.eq from) seen) (ghosts.eq to from) seen from to refl refl in
    second ∙ (λ i. first i + as_number (new i)) ∙ sums (length seen) _ _
  where
    sums : (a b c : ℕ) → (a + b) + c ≡ a + (b + c)
    sums a b c = omega arith
