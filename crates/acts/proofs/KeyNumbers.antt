-- The numbers of keys, with one more key.
use Rattle.std.proofs.Common.{◌≡◌, ◌+◌, ◌++◌, ap, not, length, ◌||◌, List, [], ◌∷◌, Bool, true, false, refl, if◌then◌else◌, sym, ◌∙◌, cond}
use Rattle.std.specs.List.{list_any, position_or_len}
use Rattle.flow_base.specs.declared.types.Key.{Key}
use Rattle.flow_base.specs.contracts.types.KeyPartialEq.TheImpl.{ghosts}
use Rattle.flow_base.specs.declared.types.Flow.{Flow}
use Rattle.flow_base.specs.declared.types.EntityId.{EntityId}
use Rattle.acts.specs.declared.act.Taken.{Taken}
use Rattle.acts.specs.declared.link.Link.{Link}
use Rattle.acts.specs.Keys.{put_new}
use Rattle.acts.specs.Flows.{number_in, flow_at}

-- a place that is found stays where one more item comes last
module _ {X : Type 0} (p : X → Bool) where
  found_in_rest : (b : Bool) (xs : List X) (y : X) → (list_any p xs ≡ true → position_or_len p (xs ++ y ∷ []) ≡ position_or_len p xs)
      → (b || list_any p xs) ≡ true → cond (not b) (1 + position_or_len p (xs ++ y ∷ [])) 0 ≡ cond (not b) (1 + position_or_len p xs) 0
  found_in_rest true xs y rest found = refl
  found_in_rest false xs y rest found = ap (λ n. 1 + n) (rest found)

  pub place_kept : (xs : List X) (y : X) → list_any p xs ≡ true → position_or_len p (xs ++ y ∷ []) ≡ position_or_len p xs
  place_kept [] y found = let wrong : false ≡ true = found in cc
  place_kept (x ∷ xs) y found = found_in_rest (p x) xs y (place_kept xs y) found

after_test : (b : Bool) (seen : List Key) (from to : Key) → list_any (ghosts.eq from) seen ≡ true
    → number_in (if b then seen else seen ++ to ∷ []) from ≡ number_in seen from
after_test true seen from to there = refl
after_test false seen from to there = place_kept (ghosts.eq from) seen to there

-- a key that is there keeps its number
pub number_kept : (seen : List Key) (from to : Key) → list_any (ghosts.eq from) seen ≡ true → number_in (put_new ghosts.eq seen to) from ≡ number_in seen from
number_kept seen from to there = after_test (list_any (ghosts.eq to) seen) seen from to there

-- a flow between two keys that were entered one after the other
pub flow_added : (flows new : List Flow) (first second : List Key) (link : Link) (taken : Taken) (a b : EntityId)
    → list_any (ghosts.eq link.from) first ≡ true → second ≡ put_new ghosts.eq first link.to → a.0 ≡ number_in first link.from → b.0 ≡ number_in second link.to
    → new ≡ flows ++ record { from = a; to = b; how = link.how; at = record { ms = taken.ms; place = length flows }; serial = taken.serial } ∷ []
    → new ≡ flows ++ flow_at second taken (length flows) link ∷ []
flow_added flows new first second link taken a b there later from_is to_is put =
    let left : a.0 ≡ number_in second link.from = from_is ∙ sym (number_kept first link.from link.to there) ∙ ap (λ keys. number_in keys link.from) (sym later) in
    put ∙ (λ i. flows ++ record { from = record { 0 = left i }; to = record { 0 = to_is i }; how = link.how; at = record { ms = taken.ms; place = length flows }; serial = taken.serial } ∷ [])
