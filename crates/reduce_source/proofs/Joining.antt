-- The tables after one more kept flow.
use Rattle.std.proofs.Common.{◌≡◌, ◌≢◌, ℕ, ◌+◌, ◌<◌, ◌≤◌, ◌^◌, ◌↔◌, ◌⊎◌, List, length, [], ◌∷◌, ◌++◌, Option, Some, None, Bool, true, false, cond, ◌==◌, refl, sym, ap, subst, ◌∙◌, arith, inl, inr}
use Rattle.std.specs.Option.{option_or}
use Rattle.std.proofs.lemmas.Bool.{cases_eq, eq-eqb, ne_eqb}
use Rattle.flow_base.specs.declared.types.Flow.{Flow}
use Rattle.reach_model.specs.Flows.{source, target}
use Rattle.reach_model.specs.Sources.{first_at, touches, IsSource}
use Rattle.reach_model.specs.SourceSets.{HasSource, HasSourceAfter, MakesSource, IsLater}
use Rattle.reach_model.proofs.FirstFlows.{first_push, first_apart, first_new, first_stays, source_stays, touched, touches_source, touches_target}
use Rattle.reach_model.proofs.SourceSets.{sources_after}
use Rattle.reduce_source.specs.Shelves.{HasNumber}
use Rattle.reduce_source.specs.Sets.{StandsFor, IsStanding, IsNumber, standing_of, first_given, count_after}
use Rattle.reduce_source.specs.declared.standing.Standing.{Standing}
use Rattle.reduce_source.specs.declared.standing.Standing.TheVariants.{Unknown, Entered, Source}
use Rattle.reduce_source.specs.declared.sets.SourceSets.{SourceSets}
use Rattle.reduce_source.proofs.SetLemmas.{no_source}

-- a number stays
pub kept_number : (b : Bool) (o e : Standing) (n : ℕ) → o ≡ Source n → cond b (first_given o e) o ≡ Source n
kept_number true o e n is = ap (λ s. first_given s e) is
kept_number false o e n is = is

entered_number : (b : Bool) (o : Standing) (n : ℕ) → cond b (first_given o Entered) o ≡ Source n → o ≡ Source n
entered_number false o n is = is
entered_number true Unknown n is = absurd (cc)
entered_number true Entered n is = is
entered_number true (Source m) n is = is

new_number : (o : Standing) (k n : ℕ) → first_given o (Source k) ≡ Source n → (o ≡ Source n) ⊎ ((o ≡ Unknown) × (n ≡ k))
new_number Unknown k n is = inr (refl, cc)
new_number Entered k n is = inl is
new_number (Source m) k n is = inl is

pub seen_here : (u x : ℕ) (o e : Standing) → u ≡ x → cond (u == x) (first_given o e) o ≡ first_given o e
seen_here u x o e same = ap (λ b. cond b (first_given o e) o) (eq-eqb u x same)

pub seen_there : (u x : ℕ) (o e : Standing) → u ≢ x → cond (u == x) (first_given o e) o ≡ o
seen_there u x o e n = ap (λ b. cond b (first_given o e) o) (ne_eqb u x n)

or_nothing : (o : Option Flow) → option_or o None ≡ o
or_nothing None = refl
or_nothing (Some f) = refl

-- the count does not fall
count_grows : (o : Standing) (n : ℕ) → n ≤ count_after o n
count_grows Unknown n = omega arith
count_grows Entered n = omega arith
count_grows (Source m) n = omega arith

-- What the steps of a union do: the object u that f leaves becomes a source if it has no flow yet, the object v that f enters
-- has a flow, and takes the numbers of u.
pub record Joins (u v : ℕ) (old new : SourceSets) (standing : ℕ → Standing) (has : ℕ → ℕ → Type 0) : Type 0 where
  pub begun : (x : ℕ) → standing x ≡ cond (u == x) (first_given (standing_of old x) (Source old.count)) (standing_of old x)
  pub entered : (x : ℕ) → standing_of new x ≡ cond (v == x) (first_given (standing x) Entered) (standing x)
  pub marked : (w n : ℕ) → has w n ↔ (HasNumber old.shared w n ⊎ ((standing_of old u ≡ Unknown) × (w ≡ u) × (n ≡ old.count)))
  pub joined : (w n : ℕ) → HasNumber new.shared w n ↔ (has w n ⊎ ((w ≡ v) × has u n))
  pub count : new.count ≡ count_after (standing_of old u) old.count
  pub places : length new.standings.items ≡ length old.standings.items

module _ (u v : ℕ) (old new : SourceSets) (standing : ℕ → Standing) (has : ℕ → ℕ → Type 0) (j : Joins u v old new standing has) where
  number_stays : (x n : ℕ) → IsNumber old x n → IsNumber new x n
  number_stays x n is =
      let middle : standing x ≡ Source n = j.begun x ∙ kept_number (u == x) (standing_of old x) (Source old.count) n is in
      j.entered x ∙ kept_number (v == x) (standing x) Entered n middle

  number_new : standing_of old u ≡ Unknown → (n : ℕ) → n ≡ old.count → IsNumber new u n
  number_new unknown n e =
      let middle : standing u ≡ Source n = j.begun u ∙ seen_here u u (standing_of old u) (Source old.count) refl ∙ ap (λ o. first_given o (Source old.count)) unknown ∙ ap Source (sym e) in
      j.entered u ∙ kept_number (v == u) (standing u) Entered n middle

  number_cases : (x n : ℕ) → IsNumber new x n → IsNumber old x n ⊎ ((standing_of old u ≡ Unknown) × (x ≡ u) × (n ≡ old.count))
  number_cases x n is =
      let middle : standing x ≡ Source n = entered_number (v == x) (standing x) n (sym (j.entered x) ∙ is) in
      elim (cases_eq u x) [
        | inl e ↦ elim (new_number (standing_of old x) old.count n (sym (seen_here u x (standing_of old x) (Source old.count) e) ∙ sym (j.begun x) ∙ middle)) [
          | inl o ↦ inl o
          | inr p ↦ inr (ap (standing_of old) e ∙ p.0, sym e, p.1)
        ]
        | inr n ↦ inl (sym (seen_there u x (standing_of old x) (Source old.count) n) ∙ sym (j.begun x) ∙ middle)
      ]

  module _ (K : List Flow) (f : Flow) (eu : source f ≡ u) (ev : target f ≡ v) (apart : u ≢ v) (later : IsLater K f) (s : StandsFor old K) where
    differ : source f ≢ target f
    differ e = apart (sym eu ∙ e ∙ ev)

    -- what is known of an object that has a flow stays
    stays : (x : ℕ) (o : Standing) → o ≢ Unknown → IsStanding K x o → IsStanding (K ++ f ∷ []) x o
    stays x Unknown n is = absurd (n refl)
    stays x Entered n (g, at, off) = (g, first_stays K f x (g, at) ∙ at, off)
    stays x (Source m) n is = source_stays K f x is

    -- u after f
    begun_standing : (o : Standing) → IsStanding K u o → IsStanding (K ++ f ∷ []) u (first_given o (Source old.count))
    begun_standing Unknown is = (f, first_new K f u is (touches_source f u eu), eu)
    begun_standing Entered is = stays u Entered (λ e. cc) is
    begun_standing (Source m) is = stays u (Source m) (λ e. cc) is

    -- v after f
    entered_standing : (o : Standing) → IsStanding K v o → IsStanding (K ++ f ∷ []) v (first_given o Entered)
    entered_standing Unknown is = (f, first_new K f v is (touches_target f v ev), λ e. apart (sym eu ∙ e))
    entered_standing Entered is = stays v Entered (λ e. cc) is
    entered_standing (Source m) is = stays v (Source m) (λ e. cc) is

    elsewhere : (x : ℕ) → u ≢ x → v ≢ x → first_at (K ++ f ∷ []) x ≡ first_at K x
    elsewhere x nu nv = first_push K f x ∙ ap (option_or (first_at K x)) (first_apart f x (untouched (touches f x) refl)) ∙ or_nothing (first_at K x)
      where
        untouched : (b : Bool) → touches f x ≡ b → touches f x ≡ false
        untouched false e = e
        untouched true e = elim (touched f x e) [ inl t ↦ absurd (nu (sym eu ∙ t)) | inr t ↦ absurd (nv (sym ev ∙ t)) ]

    other_standing : (x : ℕ) (o : Standing) → first_at (K ++ f ∷ []) x ≡ first_at K x → IsStanding K x o → IsStanding (K ++ f ∷ []) x o
    other_standing x Unknown e is = e ∙ is
    other_standing x Entered e (g, at, off) = (g, e ∙ at, off)
    other_standing x (Source m) e (g, at, out) = (g, e ∙ at, out)

    standings_next : (x : ℕ) → IsStanding (K ++ f ∷ []) x (standing_of new x)
    standings_next x = elim (cases_eq u x) [
      | inl e ↦
          let middle : standing u ≡ first_given (standing_of old u) (Source old.count) = j.begun u ∙ seen_here u u (standing_of old u) (Source old.count) refl in
          let last : standing_of new u ≡ standing u = j.entered u ∙ seen_there v u (standing u) Entered (λ o. apart (sym o)) in
          subst (λ y. IsStanding (K ++ f ∷ []) y (standing_of new y)) e
          (subst (IsStanding (K ++ f ∷ []) u) (sym (last ∙ middle)) (begun_standing (standing_of old u) (s.standings u)))
      | inr nu ↦
          let middle : standing x ≡ standing_of old x = j.begun x ∙ seen_there u x (standing_of old x) (Source old.count) nu in
          elim (cases_eq v x) [
            | inl e ↦
                let there : standing v ≡ standing_of old v = subst (λ y. standing y ≡ standing_of old y) (sym e) middle in
                let last : standing_of new v ≡ first_given (standing_of old v) Entered = j.entered v ∙ seen_here v v (standing v) Entered refl ∙ ap (λ o. first_given o Entered) there in
                subst (λ y. IsStanding (K ++ f ∷ []) y (standing_of new y)) e
                (subst (IsStanding (K ++ f ∷ []) v) (sym last) (entered_standing (standing_of old v) (s.standings v)))
            | inr nv ↦
                let last : standing_of new x ≡ standing_of old x = j.entered x ∙ seen_there v x (standing x) Entered nv ∙ middle in
                subst (IsStanding (K ++ f ∷ []) x) (sym last) (other_standing x (standing_of old x) (elsewhere x nu nv) (s.standings x))
          ]
    ]

    below_next : (x n : ℕ) → IsNumber new x n → n < new.count
    below_next x n is = elim (number_cases x n is) [
      | inl o ↦ let low = s.below x n o in let up = count_grows (standing_of old u) old.count in let c = j.count in omega arith
      | inr p ↦ let c : new.count ≡ old.count + 1 = j.count ∙ ap (λ o. count_after o old.count) p.0 in let e : n ≡ old.count = p.2 in omega arith
    ]

    apart_next : (x y n : ℕ) → IsNumber new x n → IsNumber new y n → x ≡ y
    apart_next x y n a b = elim (number_cases x n a) [
      | inl ox ↦ elim (number_cases y n b) [
        | inl oy ↦ s.apart x y n ox oy
        | inr py ↦ let low = s.below x n ox in let e : n ≡ old.count = py.2 in absurd (omega arith)
      ]
      | inr px ↦ elim (number_cases y n b) [
        | inl oy ↦ let low = s.below y n oy in let e : n ≡ old.count = px.2 in absurd (omega arith)
        | inr py ↦ px.1 ∙ sym py.1
      ]
    ]

    none_at : standing_of old u ≡ Unknown → first_at K u ≡ None
    none_at unknown = subst (IsStanding K u) unknown (s.standings u)

    makes : standing_of old u ≡ Unknown → MakesSource K f u
    makes unknown = (none_at unknown, eu)

    after : (w x : ℕ) → HasSource (K ++ f ∷ []) w x ↔ HasSourceAfter K f w x
    after w x = sources_after K f later differ w x

    abbrev Named : ℕ → ℕ → Type 0
    Named w n = (x : ℕ) × IsNumber new x n × HasSource (K ++ f ∷ []) w x

    old_named : (w n : ℕ) → HasNumber old.shared w n → Named w n
    old_named w n h = let r = (s.sets w n).0 h in (r.0, number_stays r.0 n r.1, (after w r.0).1 (inl r.2))

    taken_named : (w n : ℕ) → w ≡ v → HasNumber old.shared u n → Named w n
    taken_named w n e h = let r = (s.sets u n).0 h in
        (r.0, number_stays r.0 n r.1, (after w r.0).1 (inr (inr (e ∙ sym ev, subst (λ y. HasSource K y r.0) (sym eu) r.2))))

    new_named : (w n : ℕ) → standing_of old u ≡ Unknown → n ≡ old.count → (w ≡ source f) ⊎ (w ≡ target f) → Named w n
    new_named w n unknown e at = (u, number_new unknown n e, (after w u).1 (inr (inl (makes unknown, at))))

    named : (w n : ℕ) → HasNumber new.shared w n → Named w n
    named w n h = elim ((j.joined w n).0 h) [
      | inl m ↦ elim ((j.marked w n).0 m) [
        | inl o ↦ old_named w n o
        | inr p ↦ new_named w n p.0 p.2 (inl (p.1 ∙ sym eu))
      ]
      | inr m ↦ elim ((j.marked u n).0 m.1) [
        | inl o ↦ taken_named w n m.0 o
        | inr p ↦ new_named w n p.0 p.2 (inr (m.0 ∙ sym ev))
      ]
    ]

    -- a source before f kept its number
    was_number : (x n : ℕ) → IsSource K x → IsNumber new x n → IsNumber old x n
    was_number x n is num = elim (number_cases x n num) [
      | inl o ↦ o
      | inr p ↦ absurd (no_source K x (subst (λ y. first_at K y ≡ None) (sym p.1) (none_at p.0)) is)
    ]

    -- the new source has the new number
    is_new : (x n : ℕ) → MakesSource K f x → IsNumber new x n → (standing_of old u ≡ Unknown) × (n ≡ old.count)
    is_new x n m num = elim (number_cases x n num) [
      | inl o ↦ absurd (no_source K x m.0 (subst (IsStanding K x) o (s.standings x)))
      | inr p ↦ (p.0, p.2)
    ]

    has_number : (w n : ℕ) → Named w n → HasNumber new.shared w n
    has_number w n (x, num, h) = elim ((after w x).0 h) [
      | inl o ↦ (j.joined w n).1 (inl ((j.marked w n).1 (inl ((s.sets w n).1 (x, was_number x n o.0 num, o)))))
      | inr other ↦ elim other [
        | inl m ↦ let new = is_new x n m.0 num in elim m.1 [
          | inl e ↦ (j.joined w n).1 (inl ((j.marked w n).1 (inr (new.0, e ∙ eu, new.1))))
          | inr e ↦ (j.joined w n).1 (inr (e ∙ ev, (j.marked u n).1 (inr (new.0, refl, new.1))))
        ]
        | inr o ↦ (j.joined w n).1 (inr (o.0 ∙ ev, (j.marked u n).1 (inl ((s.sets u n).1 (x, was_number x n o.1.0 num, subst (λ y. HasSource K y x) eu o.1)))))
      ]
    ]

    pub stands_next : StandsFor new (K ++ f ∷ [])
    stands_next = record {
      standings = standings_next;
      below = below_next;
      apart = apart_next;
      sets = λ w n. (named w n, has_number w n);
      places = subst (λ n. n ≤ 2 ^ 32) (sym j.places) s.places;
    }
