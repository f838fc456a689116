-- Nothing redundant stays.
use Rattle.std.proofs.Common.{◌≡◌, ℕ, ◌<◌, ◌≤◌, List, [], ◌∷◌, ◌++◌, length, get_or, set, refl, sym, ap, subst, ◌∙◌, arith, ◌⊎◌, inl, inr}
use Rattle.std.specs.List.{Contains}
use Rattle.std.proofs.lemmas.List.{get_or_default, map-append, length-append, get_or_append_left, get_or_push, length-set, get_or-set_same, get_or-set_other}
use Rattle.std.proofs.lemmas.List.Elements.{All-contains, Contains-push_cases, Contains-append_left, Contains-get_or}
use Rattle.std.proofs.lemmas.Bool.{cases_eq, cases_lt}
use Rattle.std.proofs.Math.Seq.{map-set_same}
use Rattle.flow_base.specs.declared.types.Flow.{Flow}
use Rattle.reach_model.specs.declared.modes.Mode.{Mode}
use Rattle.reach_model.specs.declared.modes.Mode.TheVariants.{Continuous, Full, Source}
use Rattle.reach_model.specs.declared.modes.Verdict.TheVariants.{Drop, Add, Extend}
use Rattle.reach_model.specs.Flows.{source, target, place, IsLawful}
use Rattle.reach_model.specs.Paths.{Reaches}
use Rattle.reach_model.specs.Sources.{IsSource}
use Rattle.reach_model.specs.Rows.{Row, SamePair, row_of, firsts, Keeps, none, more}
use Rattle.reach_model.specs.Laws.{IsParted, PartsRows, PartsFlows, BringsSources}
use Rattle.reach_model.proofs.Lawful.{ends_differ, same_place, lawful_front, before_last}
use Rattle.reach_model.proofs.PathLemmas.{path_weaker}
use Rattle.reach_model.proofs.RowFacts.{IsRowOf, rows_of}
use Rattle.reach_model.proofs.Twins.{first_there}
use Rattle.reach_model.proofs.Search.{both, either, lower, same_pair, some_or_none, last_or_none}
use Rattle.reach_model.proofs.FirstFlows.{source_stays}

-- a member of the kept flows with one more
kept_cases : (R : List Row) (f h : Flow) → Contains (firsts (R ++ row_of f ∷ [])) h → Contains (firsts R) h ⊎ (f ≡ h)
kept_cases R f h c = Contains-push_cases (firsts R) f h (rw map-append at c)

kept_wider : (R : List Row) (f h : Flow) → Contains (firsts R) h → Contains (firsts (R ++ row_of f ∷ [])) h
kept_wider R f h c = rw map-append (Contains-append_left (firsts R) (f ∷ []) h c)

pub full_parts : {F : List Flow} {R : List Row} → IsLawful F → Keeps Full F R → PartsFlows R
full_parts l none g f cg cf pair low = absurd (omega (arith, cg.1))
full_parts l (more {F} {R} e Drop k v) g f cg cf pair low = full_parts (lawful_front F e l) k g f cg cf pair low
full_parts l (more {F} {R} e Add k v) g f cg cf pair low =
    let all = rows_of (lawful_front F e l) k in
    elim (kept_cases R e f cf) [
      | inl old ↦ elim (kept_cases R e g cg) [
        | inl old_g ↦ let r = full_parts (lawful_front F e l) k g f old_g old pair low in (r.0, kept_wider R e r.0 r.1, r.2, r.3, r.4)
        | inr new_g ↦ let b = before_last F e f l (first_there R f all old) in absurd (omega (arith, ap place new_g))
      ]
      | inr new ↦ elim (kept_cases R e g cg) [
        | inl old_g ↦ elim (some_or_none (λ h. (target h ≡ source f) × (place g < place h)) (λ h. both (target h ≡ source f) (place g < place h) (cases_eq (target h) (source f)) (lower (place g) (place h))) (firsts R)) [
          | inl s ↦ (s.0, kept_wider R e s.0 s.1, s.2.0, s.2.1, let b = before_last F e s.0 l (first_there R s.0 all s.1) in omega (arith, ap place new))
          | inr nothing ↦ absurd (v (record {
            by = g;
            kept = old_g;
            pair = (pair.0 ∙ sym (ap source new), pair.1 ∙ sym (ap target new));
            no_inflow_since = λ h c into. elim (cases_lt (place h) (place g)) [
              | inl before ↦ before
              | inr after ↦ elim (cases_eq (place h) (place g)) [
                | inl same ↦ let at_g = same_place (lawful_front F e l) h g (first_there R h all c) (first_there R g all old_g) same in
                    absurd (ends_differ (lawful_front F e l) g (first_there R g all old_g) (pair.0 ∙ sym (ap source new) ∙ sym into ∙ ap target at_g))
                | inr differ ↦ absurd (nothing h c (into ∙ ap source new, omega arith))
              ]
            ];
          }))
        ]
        | inr new_g ↦ absurd (omega (arith, ap place new, ap place new_g))
      ]
    ]
full_parts l (more e (Extend i) k v) g f cg cf pair low = absurd v

-- members of the rows after a write
pub set_cases : {X : Type 0} (xs : List X) (i : ℕ) (y x : X) → Contains (set xs i y) x → Contains xs x ⊎ (y ≡ x)
set_cases [] i y x c = absurd (omega (arith, c.1))
set_cases (z ∷ xs) i y x c = elim (cases_eq c.0 i) [
  | inl e ↦ inr (sym (get_or-set_same (z ∷ xs) i y x (subst (λ k. k < length (z ∷ xs)) e (simp length-set at c.1))) ∙ subst (λ k. get_or (set (z ∷ xs) i y) k x ≡ x) e c.2)
  | inr n ↦ inl (c.0, simp length-set at c.1, sym (get_or-set_other (z ∷ xs) i c.0 y x n) ∙ c.2)
]

parted_grows : (F : List Flow) (f : Flow) (r s : Row) → IsParted F r s → IsParted (F ++ f ∷ []) r s
parted_grows F f r s p = record { before = p.before; by = p.by; there = Contains-append_left F (f ∷ []) p.by p.there; after = p.after; ahead = p.ahead; apart = p.apart }

pub continuous_parts : {F : List Flow} {R : List Row} → IsLawful F → Keeps Continuous F R → PartsRows F R
continuous_parts l none r s cr cs pair low = absurd (omega (arith, cr.1))
continuous_parts l (more e Drop k v) r s cr cs pair low = absurd v
continuous_parts l (more {F} {R} e Add k v) r s cr cs pair low =
    let l' = lawful_front F e l in
    let all = rows_of l' k in
    elim (Contains-push_cases R (row_of e) s cs) [
      | inl old ↦ elim (Contains-push_cases R (row_of e) r cr) [
        | inl old_r ↦ parted_grows F e r s (continuous_parts l' k r s old_r old pair low)
        | inr new_r ↦ let b = before_last F e s.first l ((All-contains (IsRowOf F) R s all old).first_there) in absurd (omega (arith, ap (λ (x : Row). place x.first) new_r))
      ]
      | inr new ↦ elim (Contains-push_cases R (row_of e) r cr) [
        | inl old_r ↦
            let w = All-contains (IsRowOf F) R r all old_r in
            let is : e ≡ s.first = ap (λ (x : Row). x.first) new in
            let last : place r.last < place e = before_last F e r.last l w.last_there in
            let Apart : Flow → Type 0 = λ h. (place r.last < place h) × ((target h ≡ source e) ⊎ (source h ≡ target e)) in
            elim (some_or_none Apart (λ h. both (place r.last < place h) ((target h ≡ source e) ⊎ (source h ≡ target e)) (lower (place r.last) (place h))
            (either (target h ≡ source e) (source h ≡ target e) (cases_eq (target h) (source e)) (cases_eq (source h) (target e)))) F) [
              | inl h ↦ record {
                before = omega (arith, ap place is);
                by = h.0;
                there = Contains-append_left F (e ∷ []) h.0 h.1;
                after = h.2.0;
                ahead = let b = before_last F e h.0 l h.1 in omega (arith, ap place is);
                apart = subst (λ x. (target h.0 ≡ source x) ⊎ (source h.0 ≡ target x)) is h.2.1;
              }
              | inr nothing ↦ absurd (elim (last_or_none (λ h. SamePair h e) (λ h. same_pair h e) F l') [
                | inl g ↦ v g.0 (record {
                  there = g.1;
                  pair = g.2;
                  no_later = g.3;
                  nothing_between = λ h c after.
                      let late : place r.last ≤ place g.0 = elim (cases_lt (place g.0) (place r.last)) [
                        | inl early ↦ absurd (g.3 r.last w.last_there early (w.pair.0 ∙ pair.0 ∙ sym (ap source is), w.pair.1 ∙ pair.1 ∙ sym (ap target is)))
                        | inr ok ↦ ok
                      ] in
                      (λ into. nothing h c (omega arith, inl into), λ out. nothing h c (omega arith, inr out));
                })
                | inr never ↦ never r.last w.last_there (w.pair.0 ∙ pair.0 ∙ sym (ap source is), w.pair.1 ∙ pair.1 ∙ sym (ap target is))
              ])
            ]
        | inr new_r ↦ absurd (omega (arith, ap (λ (x : Row). place x.first) new, ap (λ (x : Row). place x.first) new_r))
      ]
    ]
continuous_parts l (more {F} {R} e (Extend i) k v) r s cr cs pair low =
    let l' = lawful_front F e l in
    let all = rows_of l' k in
    let o = get_or R i (row_of e) in
    let there : Contains R o = (i, v.0, get_or_default R i o (row_of e) v.0) in
    let n : Row = record o { last = e } in
    let w = All-contains (IsRowOf F) R o all there in
    let on = v.1 (row_of e) in
    elim (set_cases R i n r cr) [
      | inl old_r ↦ elim (set_cases R i n s cs) [
        | inl old ↦ parted_grows F e r s (continuous_parts l' k r s old_r old pair low)
        | inr new ↦ let is : o.first ≡ s.first = ap (λ (x : Row). x.first) new in
            let p = continuous_parts l' k r o old_r there (pair.0 ∙ sym (ap source is), pair.1 ∙ sym (ap target is)) (omega (arith, ap place is)) in
            let b : place r.last < place o.first = p.before in
            let a : place p.by < place o.first = p.ahead in
            record {
              before = omega (arith, ap place is);
              by = p.by;
              there = Contains-append_left F (e ∷ []) p.by p.there;
              after = p.after;
              ahead = omega (arith, ap place is);
              apart = subst (λ x. (target p.by ≡ source x) ⊎ (source p.by ≡ target x)) is p.apart;
            }
      ]
      | inr new_r ↦ let is_r : o.first ≡ r.first = ap (λ (x : Row). x.first) new_r in
          elim (set_cases R i n s cs) [
            | inl old ↦ let p = continuous_parts l' k o s there old (ap source is_r ∙ pair.0, ap target is_r ∙ pair.1) (omega (arith, ap place is_r)) in
                absurd (on.no_later s.first ((All-contains (IsRowOf F) R s all old).first_there) p.before
                (sym pair.0 ∙ sym (ap source is_r) ∙ sym w.pair.0 ∙ on.pair.0, sym pair.1 ∙ sym (ap target is_r) ∙ sym w.pair.1 ∙ on.pair.1))
            | inr new ↦ absurd (omega (arith, ap (λ (x : Row). place x.first) new, ap place is_r))
          ]
    ]

-- the first flows ascend
abbrev Ascends : List Flow → Type 0
Ascends K = (i j : ℕ) (d : Flow) → i < j → j < length K → place (get_or K i d) < place (get_or K j d)

ascends_push : (K : List Flow) (e : Flow) → ((g : Flow) → Contains K g → place g < place e) → Ascends K → Ascends (K ++ e ∷ [])
ascends_push K e before a i j d low h = elim (cases_lt j (length K)) [
  | inl old ↦ let hi : i < length K = omega arith in
      rw (get_or_append_left K (e ∷ []) d i hi, get_or_append_left K (e ∷ []) d j old) (a i j d low old)
  | inr new ↦ let end : length K ≡ j = omega (arith, length-append K (e ∷ [])) in let hi : i < length K = omega arith in
      rw (get_or_append_left K (e ∷ []) d i hi, get_or_push K e d j end) (before (get_or K i d) (Contains-get_or K i d hi))
]

pub ascends : {mode : Mode} {F : List Flow} {R : List Row} → IsLawful F → Keeps mode F R → Ascends (firsts R)
ascends l none = λ i j d low h. absurd (omega arith)
ascends l (more {F} {R} e Drop k v) = ascends (lawful_front F e l) k
ascends l (more {F} {R} e Add k v) = subst Ascends (sym (map-append (λ (r : Row). r.first) R (row_of e ∷ [])))
    (ascends_push (firsts R) e (λ g c. before_last F e g l (first_there R g (rows_of (lawful_front F e l) k) c)) (ascends (lawful_front F e l) k))
ascends l (more {F} {R} e (Extend i) k v) = subst Ascends
    (sym (map-set_same (λ (r : Row). r.first) R i (record (get_or R i (row_of e)) { last = e }) (row_of e) refl)) (ascends (lawful_front F e l) k)

-- a flow of F and then e that is before f is one of F
narrow : (F : List Flow) (e f : Flow) → place f ≤ place e → (g : Flow) → Contains (F ++ e ∷ []) g → place g < place f → Contains F g
narrow F e f low g c before = elim (Contains-push_cases F e g c) [ inl old ↦ old | inr new ↦ absurd (omega (arith, ap place new)) ]

abbrev Brought : List Flow → Flow → Type 0
Brought F f = (x : ℕ) × IsSource F x × Reaches (λ g. Contains F g × (place g < place f)) 0 x (source f) × ¬ Reaches (λ g. Contains F g × (place g < place f)) 0 x (target f)

source_old : (F : List Flow) (e f : Flow) → IsLawful (F ++ e ∷ []) → Contains F f → Brought F f → Brought (F ++ e ∷ []) f
source_old F e f l c (x, is, r, no_way) =
    let low : place f < place e = before_last F e f l c in (
      x,
      source_stays F e x is,
      (r.0, path_weaker (λ g. Contains F g × (place g < place f)) (λ g. Contains (F ++ e ∷ []) g × (place g < place f)) (λ g s. (Contains-append_left F (e ∷ []) g s.0, s.1)) 0 0 x (source f) r.0 (omega arith) r.1),
      λ q. no_way (q.0, path_weaker (λ g. Contains (F ++ e ∷ []) g × (place g < place f)) (λ g. Contains F g × (place g < place f)) (λ g s. (narrow F e f (omega arith) g s.0 s.1, s.1)) 0 0 x (target f) q.0 (omega arith) q.1),
    )

-- each kept flow in source mode gave its target a source
pub source_brings : {F : List Flow} {R : List Row} → IsLawful F → Keeps Source F R → BringsSources F R
source_brings l none f c = absurd (omega (arith, c.1))
source_brings l (more {F} {R} e Drop k v) f c = source_old F e f l (first_there R f (rows_of (lawful_front F e l) k) c) (source_brings (lawful_front F e l) k f c)
source_brings l (more {F} {R} e Add k v) f c = elim (kept_cases R e f c) [
  | inl old ↦ source_old F e f l (first_there R f (rows_of (lawful_front F e l) k) old) (source_brings (lawful_front F e l) k f old)
  | inr new ↦ (
    v.0,
    v.1.0,
    subst (λ x. Reaches (λ g. Contains (F ++ e ∷ []) g × (place g < place x)) 0 v.0 (source x)) new
        (v.1.1.0, path_weaker (Contains F) (λ g. Contains (F ++ e ∷ []) g × (place g < place e)) (λ g s. (Contains-append_left F (e ∷ []) g s, before_last F e g l s)) 0 0 v.0 (source e) v.1.1.0 (omega arith) v.1.1.1),
    λ r. v.2 (
      v.1.0,
      subst (λ x. Reaches (Contains F) 0 v.0 (target x)) (sym new)
          (r.0, path_weaker (λ g. Contains (F ++ e ∷ []) g × (place g < place f)) (Contains F) (λ g s. narrow F e f (omega (arith, ap place new)) g s.0 s.1) 0 0 v.0 (target f) r.0 (omega arith) r.1),
    ),
  )
]
source_brings l (more e (Extend i) k v) f c = absurd v
