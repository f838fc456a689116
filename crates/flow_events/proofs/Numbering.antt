-- The numbers of keys among those that are known and those that are new.
use Rattle.std.proofs.Common.{◌≡◌, ◌<◌, ◌≤◌, ◌+◌, ◌++◌, ◌∙◌, ◌||◌, sym, ap, refl, not, cond, suc, ℕ, Bool, true, false, List, [], ◌∷◌, length, subst, if◌then◌else◌, append_assoc, arith, Some, None}
use Rattle.std.proofs.lemmas.Grind.{common_steps}
use Rattle.std.specs.List.{list_any, position, position_or_len}
use Rattle.std.proofs.lemmas.List.Folds.{list_any-append}
use Rattle.flow_base.specs.declared.types.Key.{Key}
use Rattle.flow_base.specs.contracts.types.KeyPartialEq.TheImpl.{ghosts}
use Rattle.acts.specs.Keys.{put_new}
use Rattle.acts.specs.Flows.{number_in}
use Rattle.acts.proofs.Entering.{found_within, none_found as no_place}
use Rattle.std.proofs.lemmas.List.{reverse-append}
use Rattle.flow_events.specs.Entering.{entered}
use Rattle.flow_events.specs.Added.{AreNew}

module _ {X : Type 0} (p : X → Bool) where
  before_step : (b any : Bool) (n m : ℕ) → (any ≡ true → n ≡ m) → (b || any) ≡ true → cond (not b) (1 + n) 0 ≡ cond (not b) (1 + m) 0
  before_step true any n m same there = refl
  before_step false any n m same there = ap (λ k. 1 + k) (same there)

  place_before : (xs ys : List X) → list_any p xs ≡ true → position_or_len p (xs ++ ys) ≡ position_or_len p xs
  place_before [] ys there = let wrong : false ≡ true = there in cc
  place_before (x ∷ xs) ys there = before_step (p x) (list_any p xs) (position_or_len p (xs ++ ys)) (position_or_len p xs) (place_before xs ys) there

  after_step : (b any : Bool) (n m : ℕ) → (any ≡ false → n ≡ m) → (b || any) ≡ false → cond (not b) (1 + n) 0 ≡ 1 + m
  after_step true any n m same none = let wrong : true ≡ false = none in cc
  after_step false any n m same none = ap (λ k. 1 + k) (same none)

  place_after : (xs ys : List X) → list_any p xs ≡ false → position_or_len p (xs ++ ys) ≡ length xs + position_or_len p ys
  place_after [] ys none = let e : position_or_len p ys ≡ 0 + position_or_len p ys = omega arith in e
  place_after (x ∷ xs) ys none =
      after_step (p x) (list_any p xs) (position_or_len p (xs ++ ys)) (length xs + position_or_len p ys) (place_after xs ys) none
      ∙ (let e : 1 + (length xs + position_or_len p ys) ≡ suc (length xs) + position_or_len p ys = omega arith in e)

module _ {X : Type 0} (p : X → Bool) where
  found_by : (b : Bool) (xs : List X) (place : ℕ) → list_any p xs ≡ b → position p xs ≡ Some place → b ≡ true
  found_by true xs place any is = refl
  found_by false xs place any is = let here = no_place p xs any in grind (arith, common_steps, here, is)

  -- where a place is found, one passes
  pub there_if : (xs : List X) (place : ℕ) → position p xs ≡ Some place → list_any p xs ≡ true
  there_if xs place is = found_by (list_any p xs) xs place refl is

  missed_by : (b : Bool) (xs : List X) → list_any p xs ≡ b → position p xs ≡ None → b ≡ false
  missed_by true xs any is = let below = found_within p xs any in grind (arith, common_steps, below, is)
  missed_by false xs any is = refl

  -- where no place is found, none passes
  pub none_if : (xs : List X) → position p xs ≡ None → list_any p xs ≡ false
  none_if xs is = missed_by (list_any p xs) xs refl is

-- a key that is there isn't put again
pub put_there : (keys : List Key) (key : Key) → list_any (ghosts.eq key) keys ≡ true → put_new ghosts.eq keys key ≡ keys
put_there keys key there = rw there refl

-- another key is put after them
pub put_last : (keys : List Key) (key : Key) → list_any (ghosts.eq key) keys ≡ false → put_new ghosts.eq keys key ≡ keys ++ key ∷ []
put_last keys key none = rw none refl

-- a key that is known has its number
pub known_number : (known keys : List Key) (key : Key) → list_any (ghosts.eq key) known ≡ true → number_in (known ++ keys) key ≡ number_in known key
known_number known keys key there = place_before (ghosts.eq key) known keys there

-- another key has its place among the new ones
pub new_number : (known keys : List Key) (key : Key) → list_any (ghosts.eq key) known ≡ false → number_in (known ++ keys) key ≡ length known + position_or_len (ghosts.eq key) keys
new_number known keys key none = place_after (ghosts.eq key) known keys none

stays_by : (b c : Bool) (all : List Key) (key : Key) → (b || c) ≡ true → (if b || c then all else all ++ key ∷ []) ≡ all
stays_by b c all key there = rw there refl

-- a key that is known changes nothing
pub known_stays : (known keys : List Key) (key : Key) → list_any (ghosts.eq key) known ≡ true → put_new ghosts.eq (known ++ keys) key ≡ known ++ keys
known_stays known keys key there =
    rw (list_any-append (ghosts.eq key) known keys, there) refl

comes_by : (c : Bool) (known keys : List Key) (key : Key) → (if false || c then known ++ keys else (known ++ keys) ++ key ∷ []) ≡ known ++ (if c then keys else keys ++ key ∷ [])
comes_by true known keys key = refl
comes_by false known keys key = append_assoc known keys (key ∷ [])

-- another key is put among the new ones
pub new_comes : (known keys : List Key) (key : Key) → list_any (ghosts.eq key) known ≡ false → put_new ghosts.eq (known ++ keys) key ≡ known ++ put_new ghosts.eq keys key
new_comes known keys key none =
    rw (list_any-append (ghosts.eq key) known keys, none) (comes_by (list_any (ghosts.eq key) keys) known keys key)

none_step : (b any : Bool) (n m : ℕ) → (any ≡ false → n ≡ m) → (b || any) ≡ false → cond (not b) (1 + n) 0 ≡ suc m
none_step true any n m same none = let wrong : true ≡ false = none in cc
none_step false any n m same none = let e : n ≡ m = same none in omega (arith, e)

none_found : {X : Type 0} (p : X → Bool) (xs : List X) → list_any p xs ≡ false → position_or_len p xs ≡ length xs
none_found p [] none = refl
none_found p (x ∷ xs) none = none_step (p x) (list_any p xs) (position_or_len p xs) (length xs) (none_found p xs) none

fits_by : (b : Bool) (known keys : List Key) (key : Key) (most : ℕ) → list_any (ghosts.eq key) keys ≡ b → length (known ++ keys) ≤ most → length known + position_or_len (ghosts.eq key) keys < most
    → length (known ++ (if b then keys else keys ++ key ∷ [])) ≤ most
fits_by true known keys key most is so_far below = so_far
fits_by false known keys key most is so_far below =
    let here : length known + length keys < most = subst (λ n. length known + n < most) (none_found (ghosts.eq key) keys is) below in
    grind (arith, common_steps, here)

-- a key whose place is within the limit fits
pub still_fits : (known keys : List Key) (key : Key) (most : ℕ) → length (known ++ keys) ≤ most → length known + position_or_len (ghosts.eq key) keys < most → length (known ++ put_new ghosts.eq keys key) ≤ most
still_fits known keys key most so_far below = fits_by (list_any (ghosts.eq key) keys) known keys key most refl so_far below

kept_by : (b : Bool) (seen : List Key) (key other : Key) → list_any (ghosts.eq other) seen ≡ true → number_in (if b then seen else seen ++ key ∷ []) other ≡ number_in seen other
kept_by true seen key other there = refl
kept_by false seen key other there = place_before (ghosts.eq other) seen (key ∷ []) there

-- a key that has a number keeps it
pub number_kept : (seen : List Key) (key other : Key) → list_any (ghosts.eq other) seen ≡ true → number_in (put_new ghosts.eq seen key) other ≡ number_in seen other
number_kept seen key other there = kept_by (list_any (ghosts.eq key) seen) seen key other there

last_passes : (b : Bool) → (b || (true || false)) ≡ true
last_passes true = refl
last_passes false = refl

module _ (same : (k : Key) → ghosts.eq k k ≡ true) where
  there_by : (b : Bool) (seen : List Key) (key : Key) → list_any (ghosts.eq key) seen ≡ b → list_any (ghosts.eq key) (if b then seen else seen ++ key ∷ []) ≡ true
  there_by true seen key there = there
  there_by false seen key none = rw (list_any-append (ghosts.eq key) seen (key ∷ []), same key) (last_passes (list_any (ghosts.eq key) seen))

  -- a key that was put is there
  pub put_is_there : (seen : List Key) (key : Key) → list_any (ghosts.eq key) (put_new ghosts.eq seen key) ≡ true
  put_is_there seen key = there_by (list_any (ghosts.eq key) seen) seen key refl

  number_by : (b : Bool) (seen : List Key) (key : Key) → list_any (ghosts.eq key) seen ≡ b → number_in (if b then seen else seen ++ key ∷ []) key ≡ number_in seen key
  number_by true seen key there = refl
  number_by false seen key none =
      place_after (ghosts.eq key) seen (key ∷ []) none
      ∙ ap (λ b. length seen + cond (not b) 1 0) (same key)
      ∙ (let e : length seen + 0 ≡ length seen = omega arith in e)
      ∙ sym (none_found (ghosts.eq key) seen none)

  -- and its number is the one that it had, or the next one
  pub put_number : (seen : List Key) (key : Key) → number_in (put_new ghosts.eq seen key) key ≡ number_in seen key
  put_number seen key = number_by (list_any (ghosts.eq key) seen) seen key refl

  -- once both ends were put, each has the number that it was given
  pub from_number : (before mid after : List Key) (from to : Key) (n : ℕ) → mid ≡ put_new ghosts.eq before from → after ≡ put_new ghosts.eq mid to → n ≡ number_in before from → n ≡ number_in after from
  from_number before mid after from to n is_mid is_after number =
      number ∙ sym (put_number before from) ∙ ap (λ seen. number_in seen from) (sym is_mid)
      ∙ sym (number_kept mid to from (ap (list_any (ghosts.eq from)) is_mid ∙ put_is_there before from)) ∙ ap (λ seen. number_in seen from) (sym is_after)

  pub to_number : (mid after : List Key) (to : Key) (n : ℕ) → after ≡ put_new ghosts.eq mid to → n ≡ number_in mid to → n ≡ number_in after to
  to_number mid after to n is_after number = number ∙ sym (put_number mid to) ∙ ap (λ seen. number_in seen to) (sym is_after)

new_by : (b : Bool) (known keys : List Key) (key : Key) → list_any (ghosts.eq key) keys ≡ b → list_any (ghosts.eq key) known ≡ false → AreNew known keys → AreNew known (if b then keys else keys ++ key ∷ [])
new_by true known keys key is none new = new
new_by false known keys key is none new = record {
  enter =
      ap (entered known) (reverse-append keys (key ∷ []))
      ∙ ap (λ seen. put_new ghosts.eq seen key) new.enter
      ∙ new_comes known keys key none
      ∙ ap (λ b. known ++ (if b then keys else keys ++ key ∷ [])) is;
}

-- keys that were new, and one more that is put, were each new when they came
pub still_new : (known keys : List Key) (key : Key) → list_any (ghosts.eq key) known ≡ false → AreNew known keys → AreNew known (put_new ghosts.eq keys key)
still_new known keys key none new = new_by (list_any (ghosts.eq key) keys) known keys key refl none new
