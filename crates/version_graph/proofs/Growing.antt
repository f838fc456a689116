-- What the tables say after one more flow.
use Rattle.std.proofs.Common.{◌≡◌, ◌≢◌, ℕ, ◌+◌, ◌<◌, ◌≤◌, List, [], ◌∷◌, ◌++◌, length, reverse, Option, Some, None, true, false, cond, refl, sym, ap, ◌∙◌, arith, inl, inr, ◌==◌, ◌&&◌}
use Rattle.std.proofs.lemmas.List.{reverse-append, get_or_append_left, get_or_push, length-append}
use Rattle.std.proofs.lemmas.Bool.{cases_Bool, cases_lt, cases_eq, eq-eqb, ne_eqb, and_from, and_left, and_right, both_ways}
use Rattle.flow_base.specs.declared.types.Flow.{Flow}
use Rattle.reach_model.specs.Flows.{source, target}
use Rattle.reach_model.specs.Sources.{touches, first_at}
use Rattle.reach_model.specs.Versions.{leaves, is_sealed, opened, version}
use Rattle.reach_model.proofs.VersionFacts.{opened_push}
use Rattle.version_graph.specs.Links.{HasLink}
use Rattle.version_graph.specs.Tables.{IsLeft, IsLeftOf}

-- a version is no greater than the number of flows
few_opened : (done K : List Flow) (x : ℕ) → opened done K x ≤ length K
few_opened done [] x = omega arith
few_opened done (f ∷ K) x = let i = few_opened (done ++ f ∷ []) K x in elim (cases_Bool ((target f == x) && is_sealed done x)) [
  | inl t ↦ let one = ap {B = ℕ} (λ b. cond b 1 0) t in omega arith
  | inr n ↦ let none = ap {B = ℕ} (λ b. cond b 1 0) n in omega arith
]

pub few_versions : (K : List Flow) (x : ℕ) → version K x ≤ length K
few_versions K x = few_opened [] K x

module _ (K : List Flow) (f : Flow) where
  -- the version after one more flow
  pub version_next : (x : ℕ) → version (K ++ f ∷ []) x ≡ version K x + cond ((target f == x) && is_sealed K x) 1 0
  version_next x = opened_push [] K f x

  -- and the seal
  pub seal_next : (x : ℕ) → is_sealed (K ++ f ∷ []) x ≡ cond (source f == x) true (cond (target f == x) false (is_sealed K x))
  seal_next x = ap (λ o. leaves o x) (ap (λ L. first_at L x) (reverse-append K (f ∷ []))) ∙ by_ends x
    where
      by_ends : (x : ℕ) → leaves (cond (touches f x) (Some f) (first_at (reverse K) x)) x ≡ cond (source f == x) true (cond (target f == x) false (is_sealed K x))
      by_ends x = elim (cases_Bool (source f == x)) [
        | inl s ↦ rw s s
        | inr a ↦ elim (cases_Bool (target f == x)) [ inl t ↦ rw (a, t) a | inr b ↦ rw (a, b) refl ]
      ]

  -- the pair of f is linked
  pub linked_here : HasLink (K ++ f ∷ []) (source f) (target f)
  linked_here = record {
    index = length K;
    within = simp length-append (omega arith);
    from = λ d. ap source (get_or_push K f d (length K) refl);
    to = λ d. ap target (get_or_push K f d (length K) refl);
    no_inflow_since = λ k d low h e. let end = simp length-append at h in absurd (omega arith);
  }

  -- another pair stays linked where f does not enter its source
  pub linked_still : (u v : ℕ) → target f ≢ u → HasLink K u v → HasLink (K ++ f ∷ []) u v
  linked_still u v n l =
      let same = λ (d : Flow). get_or_append_left K (f ∷ []) d l.index l.within in
      record {
        index = l.index;
        within = let w = l.within in simp length-append (omega arith);
        from = λ d. ap source (same d) ∙ l.from d;
        to = λ d. ap target (same d) ∙ l.to d;
        no_inflow_since = λ k d low h e. elim (cases_lt k (length K)) [
          | inl old ↦ l.no_inflow_since k d low old (ap target (sym (get_or_append_left K (f ∷ []) d k old)) ∙ e)
          | inr new ↦ let end : length K ≡ k = omega (arith, h, length-append K (f ∷ [])) in n (ap target (sym (get_or_push K f d k end)) ∙ e)
        ];
      }

  -- and was linked before
  pub linked_before : (u v : ℕ) → ¬ ((source f ≡ u) × (target f ≡ v)) → HasLink (K ++ f ∷ []) u v → (target f ≢ u) × HasLink K u v
  linked_before u v apart l = elim (cases_lt l.index (length K)) [
    | inl old ↦ (
      λ e. l.no_inflow_since (length K) f old (simp length-append (omega arith)) (ap target (get_or_push K f f (length K) refl) ∙ e),
      let same = λ (d : Flow). get_or_append_left K (f ∷ []) d l.index old in
          record {
            index = l.index;
            within = old;
            from = λ d. ap source (sym (same d)) ∙ l.from d;
            to = λ d. ap target (sym (same d)) ∙ l.to d;
            no_inflow_since = λ k d low h e. l.no_inflow_since k d low (simp length-append (omega arith)) (ap target (get_or_append_left K (f ∷ []) d k h) ∙ e);
          },
    )
    | inr new ↦
        let end : length K ≡ l.index = omega (arith, l.within, length-append K (f ∷ [])) in
        let is = get_or_push K f f l.index end in
        absurd (apart (ap source (sym is) ∙ l.from f, ap target (sym is) ∙ l.to f))
  ]

  pub left_here : IsLeft (K ++ f ∷ []) (source f) (target f) (version (K ++ f ∷ []) (source f))
  left_here = record {
    begun = omega arith;
    seal = λ _. seal_next (source f) ∙ ap (λ b. cond b true (cond (target f == source f) false (is_sealed K (source f)))) (eq-eqb (source f) (source f) refl);
    linked = (λ _. linked_here, λ _. refl);
  }

  -- f opens a version of its target where that is sealed
  opens : (u : ℕ) → target f ≡ u → is_sealed K u ≡ true → version (K ++ f ∷ []) u ≡ version K u + 1
  opens u e s = version_next u ∙ ap (λ b. version K u + cond b 1 0) (and_from _ _ (eq-eqb (target f) u e) s)

  -- and else none
  opens_none : (u : ℕ) → target f ≡ u → is_sealed K u ≡ false → version (K ++ f ∷ []) u ≡ version K u
  opens_none u e s = let z = ap {B = ℕ} (λ b. cond b 1 0) (and_right (target f == u) (is_sealed K u) s) in omega (arith, version_next u)

  elsewhere : (u : ℕ) → target f ≢ u → version (K ++ f ∷ []) u ≡ version K u
  elsewhere u n = let z = ap {B = ℕ} (λ b. cond b 1 0) (and_left (target f == u) (is_sealed K u) (ne_eqb (target f) u n)) in omega (arith, version_next u)

  still_sealed : (u : ℕ) → target f ≢ u → is_sealed K u ≡ true → is_sealed (K ++ f ∷ []) u ≡ true
  still_sealed u n s = seal_next u ∙ by (source f == u)
    where
      by : (b : _) → cond b true (cond (target f == u) false (is_sealed K u)) ≡ true
      by true = refl
      by false = rw (ne_eqb (target f) u n) s

  -- a version that another pair left
  left_there : (u v : ℕ) → ¬ ((source f ≡ u) × (target f ≡ v)) → (n : ℕ) → IsLeft K u v n → IsLeft (K ++ f ∷ []) u v n
  left_there u v apart n l = elim (cases_eq (target f) u) [
    | inl e ↦
        -- f enters u: no version that was left before is the current one
        let past : n < version (K ++ f ∷ []) u = elim (cases_Bool (is_sealed K u)) [
          | inl s ↦ omega (arith, opens u e s, l.begun)
          | inr s ↦ elim (cases_eq n (version K u)) [ inl at ↦ absurd (both_ways (is_sealed K u) s (l.seal at)) | inr off ↦ omega (arith, opens_none u e s, l.begun) ]
        ] in
        record {
          begun = omega arith;
          seal = λ at. absurd (omega arith);
          linked = (λ at. absurd (omega arith), λ k. absurd ((linked_before u v apart k).0 e));
        }
    | inr off ↦
        let same = elsewhere u off in
        record {
          begun = omega (arith, l.begun);
          seal = λ at. still_sealed u off (l.seal (at ∙ same));
          linked = (λ at. linked_still u v off (l.linked.0 (at ∙ same)), λ k. l.linked.1 (linked_before u v apart k).1 ∙ sym same);
        }
  ]

  pub left_of_there : (u v : ℕ) → ¬ ((source f ≡ u) × (target f ≡ v)) → (o : Option ℕ) → IsLeftOf K u v o → IsLeftOf (K ++ f ∷ []) u v o
  left_of_there u v apart None l = λ k. l (linked_before u v apart k).1
  left_of_there u v apart (Some n) l = left_there u v apart n l
