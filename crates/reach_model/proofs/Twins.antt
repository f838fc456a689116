-- Which kept flow stands in for a flow, in each mode.
use Rattle.std.proofs.Common.{◌≡◌, ◌<◌, ◌≤◌, List, [], ◌∷◌, ◌++◌, get_or, refl, sym, ap, subst, ◌∙◌, arith, inl, inr}
use Rattle.std.specs.List.{Contains, All}
use Rattle.std.proofs.lemmas.List.{get_or_default, map-append}
use Rattle.std.proofs.lemmas.List.Elements.{All-contains, Contains-push, Contains-push_cases, Contains-append_left}
use Rattle.std.proofs.lemmas.Bool.{cases_lt, cases_eq}
use Rattle.flow_base.specs.declared.types.Flow.{Flow}
use Rattle.reach_model.specs.declared.modes.Mode.TheVariants.{Continuous, Full}
use Rattle.reach_model.specs.declared.modes.Verdict.TheVariants.{Drop, Add, Extend}
use Rattle.reach_model.specs.Flows.{source, target, place, IsLawful}
use Rattle.reach_model.specs.Rows.{Row, SamePair, row_of, firsts, lasts, Keeps, none, more}
use Rattle.reach_model.proofs.Lawful.{ends_differ, same_place, lawful_front, before_last}
use Rattle.reach_model.proofs.Members.{Contains-map, from_map, Contains-set, Contains-set_same}
use Rattle.reach_model.proofs.Shadow.{EarlierTwin, LaterTwin}
use Rattle.reach_model.proofs.RowFacts.{IsRowOf, LiesIn, rows_of}

abbrev RowWith : List Row → Flow → Type 0
RowWith R e = (r : Row) × Contains R r × LiesIn e r

-- each flow lies in a row
pub continuous_row : {F : List Flow} {R : List Row} → IsLawful F → Keeps Continuous F R → (e : Flow) → Contains F e → RowWith R e
continuous_row l none e c = absurd (omega (arith, c.1))
continuous_row l (more f Drop k v) e c = absurd v
continuous_row l (more {F} {R} f Add k v) e c = elim (Contains-push_cases F f e c) [
  | inl old ↦ let i = continuous_row (lawful_front F f l) k e old in (i.0, Contains-append_left R (row_of f ∷ []) i.0 i.1, i.2)
  | inr new ↦ (row_of f, Contains-push R (row_of f), record { pair = (ap source new, ap target new); from = omega (arith, ap place new); to = omega (arith, ap place new) })
]
continuous_row l (more {F} {R} f (Extend i) k v) e c =
    let r = get_or R i (row_of f) in
    let r' : Row = record r { last = f } in
    let w = All-contains (IsRowOf F) R r (rows_of (lawful_front F f l) k) (i, v.0, get_or_default R i r (row_of f) v.0) in
    let last_before : place r.last < place f = before_last F f r.last l w.last_there in
    let on = v.1 (row_of f) in
    elim (Contains-push_cases F f e c) [
      | inl old ↦ let ih = continuous_row (lawful_front F f l) k e old in
          elim (Contains-set R i r' ih.0 ih.1) [
            | inl still ↦ (ih.0, still, ih.2)
            | inr at ↦ let same : ih.0 ≡ r = sym at.1 ∙ get_or_default R i ih.0 (row_of f) at.0 in
                let in_r = subst (λ x. LiesIn e x) same ih.2 in
                let low : place e ≤ place r.last = in_r.to in
                (r', Contains-set_same R i r' v.0, record { pair = in_r.pair; from = in_r.from; to = omega arith })
          ]
      | inr new ↦ let o : place r.first ≤ place r.last = w.ordered in (
        r',
        Contains-set_same R i r' v.0,
        record {
          pair = (sym w.pair.0 ∙ on.pair.0 ∙ ap source new, sym w.pair.1 ∙ on.pair.1 ∙ ap target new);
          from = omega (arith, ap place new);
          to = omega (arith, ap place new);
        },
      )
    ]

-- the first flows of the rows are flows of F
pub first_there : {F : List Flow} (R : List Row) (g : Flow) → All (IsRowOf F) R → Contains (firsts R) g → Contains F g
first_there {F} R g w c = let m = from_map (λ (r : Row). r.first) R g c in
    subst (Contains F) m.2 ((All-contains (IsRowOf F) R m.0 w m.1).first_there)

pub last_there : {F : List Flow} (R : List Row) (g : Flow) → All (IsRowOf F) R → Contains (lasts R) g → Contains F g
last_there {F} R g w c = let m = from_map (λ (r : Row). r.last) R g c in
    subst (Contains F) m.2 ((All-contains (IsRowOf F) R m.0 w m.1).last_there)

pub continuous_earlier : {F : List Flow} {R : List Row} → IsLawful F → Keeps Continuous F R → (e : Flow) → Contains F e → EarlierTwin (Contains (firsts R)) e
continuous_earlier {F} {R} l k e c =
    let all = rows_of l k in
    let at = continuous_row l k e c in
    let r = at.0 in
    let w = All-contains (IsRowOf F) R r all at.1 in
    let pair : SamePair r.first e = at.2.pair in
    record {
      by = r.first;
      kept = Contains-map (λ (r : Row). r.first) R r at.1;
      pair = pair;
      earlier = at.2.from;
      after_inflows = λ h g into before. let there = first_there R h all g in
          elim (cases_lt (place h) (place r.first)) [
            | inl low ↦ low
            | inr high ↦ elim (cases_eq (place h) (place r.first)) [
              | inl same ↦ let is_first = same_place l h r.first there w.first_there same in
                  absurd (ends_differ l r.first w.first_there (pair.0 ∙ sym into ∙ ap target is_first))
              | inr differ ↦ let end : place e ≤ place r.last = at.2.to in
                  absurd ((w.closed h there (omega arith) (omega arith)).0 (into ∙ sym pair.0))
            ]
          ];
    }

pub continuous_later : {F : List Flow} {R : List Row} → IsLawful F → Keeps Continuous F R → (e : Flow) → Contains F e → LaterTwin (Contains (lasts R)) e
continuous_later {F} {R} l k e c =
    let all = rows_of l k in
    let at = continuous_row l k e c in
    let r = at.0 in
    let w = All-contains (IsRowOf F) R r all at.1 in
    let pair : SamePair r.first e = at.2.pair in
    record {
      by = r.last;
      kept = Contains-map (λ (r : Row). r.last) R r at.1;
      pair = (w.pair.0 ∙ pair.0, w.pair.1 ∙ pair.1);
      later = at.2.to;
      before_outflows = λ h g out after. let there = last_there R h all g in
          elim (cases_lt (place r.last) (place h)) [
            | inl low ↦ low
            | inr high ↦ elim (cases_eq (place h) (place r.last)) [
              | inl same ↦ let is_last = same_place l h r.last there w.last_there same in
                  absurd (ends_differ l r.last w.last_there (ap source (sym is_last) ∙ out ∙ sym pair.1 ∙ sym w.pair.1))
              | inr differ ↦ let begin : place r.first ≤ place e = at.2.from in
                  absurd ((w.closed h there (omega arith) (omega arith)).1 (out ∙ sym pair.1))
            ]
          ];
    }

-- a twin among the kept flows stays one where a later flow is kept
grows_twin : (F : List Flow) (R : List Row) (f e : Flow) → IsLawful (F ++ f ∷ []) → Contains F e → EarlierTwin (Contains (firsts R)) e → EarlierTwin (Contains (firsts (R ++ row_of f ∷ []))) e
grows_twin F R f e l c t = record {
  by = t.by;
  kept = rw map-append (Contains-append_left (firsts R) (f ∷ []) t.by t.kept);
  pair = t.pair;
  earlier = t.earlier;
  after_inflows = λ h g into before. elim (Contains-push_cases (firsts R) f h (rw map-append at g)) [
    | inl old ↦ t.after_inflows h old into before
    | inr new ↦ let late : place e < place f = before_last F f e l c in absurd (omega (arith, ap place new))
  ];
}

-- a kept flow is its own twin
own_twin : (R : List Row) (f e : Flow) → f ≡ e → EarlierTwin (Contains (firsts (R ++ row_of f ∷ []))) e
own_twin R f e same = subst (λ x. EarlierTwin (Contains (firsts (R ++ row_of f ∷ []))) x) same (record {
  by = f;
  kept = rw map-append (Contains-push (firsts R) f);
  pair = (refl, refl);
  earlier = omega arith;
  after_inflows = λ h g into before. before;
})

pub full_earlier : {F : List Flow} {R : List Row} → IsLawful F → Keeps Full F R → (e : Flow) → Contains F e → EarlierTwin (Contains (firsts R)) e
full_earlier l none e c = absurd (omega (arith, c.1))
full_earlier l (more {F} {R} f Drop k v) e c = elim (Contains-push_cases F f e c) [
  | inl old ↦ full_earlier (lawful_front F f l) k e old
  | inr new ↦ subst (λ x. EarlierTwin (Contains (firsts R)) x) new (record {
    by = v.by;
    kept = v.kept;
    pair = v.pair;
    earlier = let b : place v.by < place f = before_last F f v.by l (first_there R v.by (rows_of (lawful_front F f l) k) v.kept) in omega arith;
    after_inflows = λ h g into before. v.no_inflow_since h g into;
  })
]
full_earlier l (more {F} {R} f Add k v) e c = elim (Contains-push_cases F f e c) [
  | inl old ↦ grows_twin F R f e l old (full_earlier (lawful_front F f l) k e old)
  | inr new ↦ own_twin R f e new
]
full_earlier l (more f (Extend i) k v) e c = absurd v
