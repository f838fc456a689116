-- What a row says of the flows from its first to its last, and which row a flow lies in.
use Rattle.std.proofs.Common.{◌≡◌, ◌≢◌, ℕ, ◌<◌, ◌≤◌, List, [], ◌∷◌, ◌++◌, length, get_or, refl, sym, ap, ◌∙◌, arith, inl, inr}
use Rattle.std.specs.List.{Contains, All}
use Rattle.std.proofs.lemmas.List.Elements.{All-nil, All-weaker, All-push, All-set, All-get_or, Contains-push, Contains-push_cases, Contains-append_left}
use Rattle.std.proofs.lemmas.Bool.{cases_lt, cases_eq}
use Rattle.flow_base.specs.declared.types.Flow.{Flow}
use Rattle.reach_model.specs.declared.modes.Mode.{Mode}
use Rattle.reach_model.specs.declared.modes.Mode.TheVariants.{Plain, Continuous, Full, Source}
use Rattle.reach_model.specs.declared.modes.Verdict.TheVariants.{Drop, Add, Extend}
use Rattle.reach_model.specs.Flows.{source, target, place, IsLawful}
use Rattle.reach_model.specs.Rows.{Row, SamePair, CarriesOn, IsVerdict, row_of, Keeps, none, more}
use Rattle.reach_model.proofs.Lawful.{ends_differ, same_place, lawful_front, before_last}

-- a row of F: its ends are flows of F of one pair, and no flow of F between them enters the source or leaves the target
pub record IsRowOf (F : List Flow) (r : Row) : Type 0 where
  pub first_there : Contains F r.first
  pub last_there : Contains F r.last
  pub pair : SamePair r.last r.first
  pub ordered : place r.first ≤ place r.last
  pub closed : (h : Flow) → Contains F h → place r.first < place h → place h < place r.last → (target h ≢ source r.first) × (source h ≢ target r.first)

-- a flow lies in a row
pub record LiesIn (e : Flow) (r : Row) : Type 0 where
  pub pair : SamePair r.first e
  pub from : place r.first ≤ place e
  pub to : place e ≤ place r.last

pub carries : (mode : Mode) (F : List Flow) (R : List Row) (f : Flow) (i : ℕ) → IsVerdict mode F R f (Extend i) → (i < length R) × ((d : Row) → CarriesOn F (get_or R i d).last f)
carries Plain F R f i v = absurd v
carries Continuous F R f i v = v
carries Full F R f i v = absurd v
carries Source F R f i v = absurd v

row_grows : (F : List Flow) (f : Flow) (r : Row) → IsLawful (F ++ f ∷ []) → IsRowOf F r → IsRowOf (F ++ f ∷ []) r
row_grows F f r l w = record {
  first_there = Contains-append_left F (f ∷ []) r.first w.first_there;
  last_there = Contains-append_left F (f ∷ []) r.last w.last_there;
  pair = w.pair;
  ordered = w.ordered;
  closed = λ h c low high. elim (Contains-push_cases F f h c) [
    | inl old ↦ w.closed h old low high
    | inr new ↦ let late : place r.last < place f = before_last F f r.last l w.last_there in absurd (omega (arith, ap place new))
  ];
}

-- a row that is carried on
row_extends : (F : List Flow) (f : Flow) (r : Row) → IsLawful (F ++ f ∷ []) → IsRowOf F r → CarriesOn F r.last f → IsRowOf (F ++ f ∷ []) (record r { last = f })
row_extends F f r l w c = record {
  first_there = Contains-append_left F (f ∷ []) r.first w.first_there;
  last_there = Contains-push F f;
  pair = (sym c.pair.0 ∙ w.pair.0, sym c.pair.1 ∙ w.pair.1);
  ordered = let late : place r.last < place f = before_last F f r.last l w.last_there in let o : place r.first ≤ place r.last = w.ordered in omega arith;
  closed = λ h there low high. elim (Contains-push_cases F f h there) [
    | inl old ↦ inside h old low
    | inr new ↦ absurd (omega (arith, ap place new))
  ];
}
  where
    s : source r.last ≡ source r.first
    s = w.pair.0

    t : target r.last ≡ target r.first
    t = w.pair.1

    inside : (h : Flow) → Contains F h → place r.first < place h → (target h ≢ source r.first) × (source h ≢ target r.first)
    inside h old low = elim (cases_lt (place h) (place r.last)) [
      | inl before ↦ w.closed h old low before
      | inr after ↦ elim (cases_eq (place h) (place r.last)) [
        | inl e ↦ let same = same_place (lawful_front F f l) h r.last old w.last_there e in
            let d = ends_differ (lawful_front F f l) r.last w.last_there in
            (λ x. d (s ∙ sym (ap target (sym same) ∙ x)), λ x. d (ap source (sym same) ∙ x ∙ sym t))
        | inr n ↦ let later : place r.last < place h = omega arith in let b = c.nothing_between h old later in
            (λ x. b.0 (x ∙ sym s ∙ c.pair.0), λ x. b.1 (x ∙ sym t ∙ c.pair.1))
      ]
    ]

pub rows_of : {mode : Mode} {F : List Flow} {R : List Row} → IsLawful F → Keeps mode F R → All (IsRowOf F) R
rows_of l none = All-nil (IsRowOf [])
rows_of l (more {F} {R} f Drop k v) = All-weaker (IsRowOf F) (IsRowOf (F ++ f ∷ [])) (λ r w. row_grows F f r l w) R (rows_of (lawful_front F f l) k)
rows_of l (more {F} {R} f Add k v) =
    let old = All-weaker (IsRowOf F) (IsRowOf (F ++ f ∷ [])) (λ r w. row_grows F f r l w) R (rows_of (lawful_front F f l) k) in
    let new : IsRowOf (F ++ f ∷ []) (row_of f) = record {
      first_there = Contains-push F f;
      last_there = Contains-push F f;
      pair = (refl, refl);
      ordered = omega arith;
      closed = λ h c low high. absurd (omega arith);
    } in
    All-push (IsRowOf (F ++ f ∷ [])) R (row_of f) old new
rows_of {mode} l (more {F} {R} f (Extend i) k v) =
    let ih = rows_of (lawful_front F f l) k in
    let c = carries mode F R f i v in
    let old = All-weaker (IsRowOf F) (IsRowOf (F ++ f ∷ [])) (λ r w. row_grows F f r l w) R ih in
    let r = get_or R i (row_of f) in
    All-set (IsRowOf (F ++ f ∷ [])) R i (record r { last = f }) (row_extends F f r l (All-get_or (IsRowOf F) R i (row_of f) c.0 ih) (c.1 (row_of f))) old
