-- What a link says of a list of flows.
use Rattle.std.proofs.Common.{◌≡◌, ℕ, ◌+◌, ◌<◌, ◌≤◌, List, length, get_or, take, drop, Option, Some, None, Bool, true, false, sym, subst, ◌∙◌, arith, refl, nat_lt}
use Rattle.std.specs.List.{count_by}
use Rattle.std.specs.Option.{IfSome}
use Rattle.std.proofs.lemmas.List.{get_or-take, length-take-le}
use Rattle.std.proofs.lemmas.List.Elements.{Contains-get_or}
use Rattle.std.proofs.lemmas.Bool.{cond_both, lt-ltb, ltb-true, eq-eqb, ne_eqb}
use Rattle.flow_base.specs.declared.types.Flow.{Flow}
use Rattle.reach_model.specs.Flows.{source, target}
use Rattle.reach_rows.specs.Kept.{IsLastOf, IsLastAt, Enters, Leaves}
use Rattle.query_walk.specs.Links.{link_below, link_end, enters, leaves}
use Rattle.query_walk.proofs.Counts.{no_flow, count_here, count_skipped}

-- a link that isn't too high is followed
pub link_low : (i n : ℕ) → i < n → link_below (Some i) n ≡ Some i
link_low i n h = rw (lt-ltb i n h) refl

pub link_is_below : (o : Option ℕ) (n : ℕ) → IfSome (link_below o n) (λ i. i < n)
link_is_below None n = tt
link_is_below (Some i) n = cond_both (nat_lt i n) (Some i) None (λ o. IfSome o (λ i. i < n)) (λ t. ltb-true i n t) (λ _. tt)

pub below_weaker : (o : Option ℕ) (m n : ℕ) → m ≤ n → IfSome o (λ i. i < m) → IfSome o (λ i. i < n)
below_weaker None m n h l = tt
below_weaker (Some i) m n h l = omega arith

pub end_is_below : (o : Option ℕ) (n : ℕ) → IfSome o (λ i. i < n) → link_end o ≤ n
end_is_below None n h = omega arith
end_is_below (Some i) n h = omega arith

-- flows that meet P, which p tests
module _ (P : Flow → Type 0) (p : Flow → Bool) (yes : (f : Flow) → P f → p f ≡ true) (no : (f : Flow) → ¬ P f → p f ≡ false) (K : List Flow) where
  -- the last one before n is followed
  pub link_right : (n : ℕ) (o : Option ℕ) → n ≤ length K → IsLastOf (take n K) P o → link_below o n ≡ o
  link_right n None h l = refl
  link_right n (Some i) h l = let w : i < n = let k = l.within in omega (arith, k, length-take-le n K h) in link_low i n w

  pub last_low : (n i : ℕ) → n ≤ length K → IsLastAt (take n K) P i → i < n
  last_low n i h l = let k = l.within in omega (arith, k, length-take-le n K h)

  pub last_meets : (n i : ℕ) (d : Flow) → n ≤ length K → IsLastAt (take n K) P i → P (get_or K i d)
  last_meets n i d h l = subst P (get_or-take n K i d (last_low n i h l)) (l.meets d)

  -- between it and n there are none
  pub none_after : (n i : ℕ) → n ≤ length K → IsLastAt (take n K) P i → (j : ℕ) (d : Flow) → i < j → j < n → ¬ P (get_or K j d)
  none_after n i h l j d low high = subst (λ f. ¬ P f) (get_or-take n K j d high) (l.no_later j d low (omega (arith, length-take-le n K h)))

  pub none_before : (n : ℕ) → n ≤ length K → IsLastOf (take n K) P None → (j : ℕ) (d : Flow) → j < n → ¬ P (get_or K j d)
  none_before n h l j d low = subst (λ f. ¬ P f) (get_or-take n K j d low) (l (get_or (take n K) j d) (Contains-get_or (take n K) j d (omega (arith, length-take-le n K h))))

  -- if the last one before n is before m, it is the last one before m
  pub last_before : (m n : ℕ) (o : Option ℕ) → m ≤ n → n ≤ length K → IfSome o (λ i. i < m) → IsLastOf (take n K) P o → IsLastOf (take m K) P o
  last_before m n None le h low l = λ g c. l g (
    c.0,
    omega (arith, c.1, length-take-le n K h, length-take-le m K (omega arith)),
    (let k : c.0 < m = omega (arith, c.1, length-take-le m K (omega arith)) in get_or-take n K c.0 g (omega arith) ∙ sym (get_or-take m K c.0 g k) ∙ c.2),
  )
  last_before m n (Some i) le h low l = record {
    within = omega (arith, low, length-take-le m K (omega arith));
    meets = λ d. subst P (sym (get_or-take m K i d low)) (last_meets n i d h l);
    no_later = λ j d after in'. let k : j < m = omega (arith, in', length-take-le m K (omega arith)) in subst (λ f. ¬ P f) (sym (get_or-take m K j d k)) (none_after n i h l j d after (omega arith));
  }

  -- as many from the last one before n on as from n on, and one
  pub count_last : (n i : ℕ) → n ≤ length K → IsLastAt (take n K) P i → count_by p (drop i K) ≡ count_by p (drop n K) + 1
  count_last n i h l =
      let low = last_low n i h l in
      let here = count_here p K i (omega arith) (yes (get_or K i no_flow) (last_meets n i no_flow h l)) in
      let rest = count_skipped p K (i + 1) n (omega arith) h (λ j a b. no (get_or K j no_flow) (none_after n i h l j no_flow (omega arith) b)) in
      omega (arith, here, rest)

  -- and as many from m on, if the last one before n is before m
  pub count_none : (m n : ℕ) (o : Option ℕ) → m ≤ n → n ≤ length K → IfSome o (λ i. i < m) → IsLastOf (take n K) P o → count_by p (drop m K) ≡ count_by p (drop n K)
  count_none m n None le h low l = count_skipped p K m n le h (λ j a b. no (get_or K j no_flow) (none_before n h l j no_flow b))
  count_none m n (Some i) le h low l = count_skipped p K m n le h (λ j a b. no (get_or K j no_flow) (none_after n i h l j no_flow (omega arith) b))

pub enters_yes : (x : ℕ) (f : Flow) → Enters x f → enters x f ≡ true
enters_yes x f e = eq-eqb (target f) x e

pub enters_no : (x : ℕ) (f : Flow) → ¬ Enters x f → enters x f ≡ false
enters_no x f n = ne_eqb (target f) x n

pub leaves_yes : (x : ℕ) (f : Flow) → Leaves x f → leaves x f ≡ true
leaves_yes x f e = eq-eqb (source f) x e

pub leaves_no : (x : ℕ) (f : Flow) → ¬ Leaves x f → leaves x f ≡ false
leaves_no x f n = ne_eqb (source f) x n

-- a link to the last flow into x before n is followed below n
pub link_kept : (x : ℕ) (K : List Flow) (n : ℕ) (link low : Option ℕ) → n ≤ length K → low ≡ link_below link n → IsLastOf (take n K) (Enters x) link → IsLastOf (take n K) (Enters x) low
link_kept x K n link low h is last = subst (IsLastOf (take n K) (Enters x)) (sym (is ∙ link_right (Enters x) (enters x) (enters_yes x) (enters_no x) K n link h last)) last
