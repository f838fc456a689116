-- Flows that go on with the numbering of the objects.
use Rattle.std.proofs.Common.{◌≡◌, ◌≢◌, ◌≤◌, ◌<◌, ◌+◌, ◌++◌, ◌^◌, ◌∙◌, ◌⊎◌, inl, inr, ap, sym, subst, max, suc, ℕ, List, [], ◌∷◌, length, Some, refl, arith, append-nil}
use Rattle.flow_base.specs.declared.types.Key.{Key}
use Rattle.flow_base.specs.declared.types.Flow.{Flow}
use Rattle.flow_base.specs.contracts.types.KeyPartialEq.TheImpl.{ghosts}
use Rattle.reach_model.specs.Numbers.{beyond}
use Rattle.reach_rows.specs.Kept.{GoesOn, GoOn, known_after}
use Rattle.acts.specs.declared.link.Link.{Link}
use Rattle.acts.specs.Keys.{put_new}
use Rattle.acts.specs.Flows.{number_in, with_ends}
use Rattle.acts.proofs.Entering.{AreOne, WasThere, IsNext, entered, there_now, numbers_differ}
use Rattle.acts.proofs.KeyNumbers.{number_kept}
use Rattle.flow_events.specs.Added.{Additions, AreNumbered, StandFrom, flow_of}

-- one more flow
go_on_more : (n : ℕ) (F : List Flow) (f : Flow) → GoOn n F → GoesOn (known_after n F) f → GoOn n (F ++ f ∷ [])
go_on_more n [] f far next = (next, tt)
go_on_more n (g ∷ F) f far next = (far.0, go_on_more (max n (beyond g)) F f far.1 next)

known_more : (n : ℕ) (F : List Flow) (f : Flow) → known_after n (F ++ f ∷ []) ≡ max (known_after n F) (beyond f)
known_more n [] f = refl
known_more n (g ∷ F) f = known_more (max n (beyond g)) F f

stand_more : (ms place : ℕ) (F : List Flow) (f : Flow) → StandFrom ms place F → f.at ≡ record { ms = ms; place = place + length F } → StandFrom ms place (F ++ f ∷ [])
stand_more ms place [] f stand next = (next ∙ ap (λ (n : ℕ). record { ms = ms; place = n }) (let e : place + 0 ≡ place = omega arith in e), tt)
stand_more ms place (g ∷ F) f stand next =
    (stand.0, stand_more ms (place + 1) F f stand.1 (next ∙ ap (λ (n : ℕ). record { ms = ms; place = n }) (let e : place + suc (length F) ≡ (place + 1) + length F = omega arith in e)))

-- the numbers of two ends among s objects, which are t then
record Ends (s t a b : ℕ) : Type 0 where
  first : a ≤ s
  second : b ≤ max s (suc a)
  all : max s (max (suc a) (suc b)) ≡ t
  first_below : a < t
  second_below : b < t

ends_of : (s m t a b : ℕ) → ((m ≡ s) × (a < s)) ⊎ ((m ≡ suc s) × (a ≡ s)) → ((t ≡ m) × (b < m)) ⊎ ((t ≡ suc m) × (b ≡ m)) → Ends s t a b
ends_of s m t a b (inl one) (inl two) = record { first = omega arith; second = omega arith; all = omega arith; first_below = omega arith; second_below = omega arith }
ends_of s m t a b (inl one) (inr two) = record { first = omega arith; second = omega arith; all = omega arith; first_below = omega arith; second_below = omega arith }
ends_of s m t a b (inr one) (inl two) = record { first = omega arith; second = omega arith; all = omega arith; first_below = omega arith; second_below = omega arith }
ends_of s m t a b (inr one) (inr two) = record { first = omega arith; second = omega arith; all = omega arith; first_below = omega arith; second_below = omega arith }

lengths : (seen now : List Key) (n : ℕ) → WasThere seen now n ⊎ IsNext seen now n → ((length now ≡ length seen) × (n < length seen)) ⊎ ((length now ≡ suc (length seen)) × (n ≡ length seen))
lengths seen now n (inl was) = inl (ap length was.same, was.within)
lengths seen now n (inr next) = inr (next.longer, next.last)

-- the ends of a link, by the numbers that they get
ends_entered : AreOne → (seen : List Key) (from to : Key)
    → Ends (length seen) (length (put_new ghosts.eq (put_new ghosts.eq seen from) to)) (number_in (put_new ghosts.eq (put_new ghosts.eq seen from) to) from) (number_in (put_new ghosts.eq (put_new ghosts.eq seen from) to) to)
ends_entered one seen from to =
    let mid = put_new ghosts.eq seen from in
    let kept : number_in (put_new ghosts.eq mid to) from ≡ number_in mid from = number_kept mid from to (there_now one seen from) in
    rw kept (ends_of (length seen) (length mid) (length (put_new ghosts.eq mid to)) (number_in mid from) (number_in (put_new ghosts.eq mid to) to)
    (lengths seen mid (number_in mid from) (entered one seen from))
    (lengths mid (put_new ghosts.eq mid to) (number_in (put_new ghosts.eq mid to) to) (entered one mid to)))

-- nothing is numbered yet
pub none_numbered : (known : List Key) (ms place : ℕ) (added : Additions) → added ≡ record { keys = []; flows = [] } → AreNumbered known ms place added
none_numbered known ms place added is = subst (AreNumbered known ms place) (sym is) (record { go_on = tt; known_are = ap length (sym (append-nil known)); stand = tt })

-- with the flow of one more link
pub link_numbered : AreOne → (known : List Key) (ms place serial most : ℕ) (old new : Additions) (link : Link) → link.from ≢ link.to
    → known ++ new.keys ≡ with_ends (known ++ old.keys) (Some link)
    → new.flows ≡ old.flows ++ flow_of (known ++ new.keys) ms serial (place + length old.flows) link ∷ []
    → length (known ++ new.keys) ≤ most → most < 2 ^ 32
    → AreNumbered known ms place old → AreNumbered known ms place new
link_numbered one known ms place serial most old new link apart keys flows fits narrow so_far =
    let seen = known ++ old.keys in
    let all = known ++ new.keys in
    let f = flow_of all ms serial (place + length old.flows) link in
    let ends : Ends (length seen) (length all) (number_in all link.from) (number_in all link.to) =
    subst (λ (ks : List Key). Ends (length seen) (length ks) (number_in ks link.from) (number_in ks link.to)) (sym keys) (ends_entered one seen link.from link.to) in
    let count = so_far.known_are in
    let next : GoesOn (length seen) f = record {
      ends_differ = numbers_differ one all link.from link.to apart ends.first_below ends.second_below;
      source_known_or_next = ends.first;
      target_known_or_next = ends.second;
      few = (let a = ends.first_below in let b = ends.second_below in omega (arith, a, b, fits, narrow));
    } in
    record {
      go_on = subst (GoOn (length known)) (sym flows) (go_on_more (length known) old.flows f so_far.go_on (subst (λ (n : ℕ). GoesOn n f) (sym count) next));
      known_are = ap (known_after (length known)) flows ∙ known_more (length known) old.flows f ∙ ap (λ (n : ℕ). max n (beyond f)) count ∙ ends.all;
      stand = subst (StandFrom ms place) (sym flows) (stand_more ms place old.flows f so_far.stand refl);
    }
