-- Lists of rows, after one more row and after a row goes on.
use Rattle.std.proofs.Common.{◌≡◌, ◌≢◌, ℕ, ◌^◌, ◌<◌, ◌≤◌, List, [], ◌∷◌, ◌++◌, length, get_or, set, take, map, refl, sym, ap, subst, ◌∙◌, arith, inl, inr}
use Rattle.std.specs.List.{Contains}
use Rattle.std.proofs.lemmas.List.{get_or_append_left, get_or_push, length-append, length-set, length-map, get_or-set_same, get_or-set_other, map-append, map-set, get_or-map, take-append-le}
use Rattle.std.proofs.lemmas.List.Elements.{Contains-push_cases, Contains-get_or}
use Rattle.std.proofs.lemmas.Bool.{cases_eq, cases_lt}
use Rattle.std.proofs.Math.Seq.{map-set_same, take-length}
use Rattle.flow_base.specs.declared.types.Flow.{Flow}
use Rattle.reach_model.specs.declared.modes.Verdict.TheVariants.{Extend}
use Rattle.reach_model.specs.Flows.{source, target, time, place}
use Rattle.reach_model.specs.Numbers.{known, IsNumbered}
use Rattle.reach_model.specs.Rows.{Row, SamePair, firsts, lasts, row_of, rows_after}
use Rattle.reach_model.proofs.Members.{Contains-map, from_map}
use Rattle.reach_model.proofs.Numbering.{ends_known, numbered_push}
use Rattle.reach_model.proofs.Redundant.{set_cases}
use Rattle.reach_rows.specs.Kept.{AreRows, ComesAfter, GoesOn, row_of_kept, IsRowAt}
use Rattle.reach_rows.specs.InMemory.{AreKept, HasLinks}
use Rattle.reach_rows.specs.Objects.{AreObjects}
use Rattle.reach_rows.specs.declared.objects.Object.{Object}
use Rattle.reach_rows.specs.declared.rows.Mark.{Mark}
use Rattle.reach_rows.specs.declared.rows.Row.{Row as KeptRow}

-- a row's ends are known
pub row_ends : (R : List Row) (r : Row) → Contains R r → (source r.first < known (firsts R)) × (target r.first < known (firsts R))
row_ends R r c = ends_known (firsts R) r.first (Contains-map (λ (x : Row). x.first) R r c)

module _ {R : List Row} {f : Flow} (a : AreRows R) (after : ComesAfter R f) where
  -- each flow of a list is before f: then the list and f ascend
  first_before : (g : Flow) → Contains (firsts R) g → place g < place f
  first_before g c = let m = from_map (λ (x : Row). x.first) R g c in subst (λ x. place x < place f) m.2 (after.firsts m.0 m.1)

  first_earlier : (g : Flow) → Contains (firsts R) g → time g ≤ time f
  first_earlier g c = let m = from_map (λ (x : Row). x.first) R g c in subst (λ x. time x ≤ time f) m.2 (after.first_times m.0 m.1)

  last_before : (g : Flow) → Contains (lasts R) g → place g < place f
  last_before g c = let m = from_map (λ (x : Row). x.last) R g c in subst (λ x. place x < place f) m.2 (after.lasts m.0 m.1)

  pub firsts_push : firsts (R ++ row_of f ∷ []) ≡ firsts R ++ f ∷ []
  firsts_push = map-append (λ (x : Row). x.first) R (row_of f ∷ [])

  lasts_push : lasts (R ++ row_of f ∷ []) ≡ lasts R ++ f ∷ []
  lasts_push = map-append (λ (x : Row). x.last) R (row_of f ∷ [])

  pub rows_push : GoesOn (known (firsts R)) f → AreRows (R ++ row_of f ∷ [])
  rows_push n = record {
    pairs = λ r c. elim (Contains-push_cases R (row_of f) r c) [ inl old ↦ a.pairs r old | inr e ↦ subst (λ (x : Row). SamePair x.last x.first) e (refl, refl) ];
    ends_differ = λ r c. elim (Contains-push_cases R (row_of f) r c) [ inl old ↦ a.ends_differ r old | inr e ↦ subst (λ (x : Row). source x.first ≢ target x.first) e n.ends_differ ];
    ordered = λ r c. elim (Contains-push_cases R (row_of f) r c) [ inl old ↦ a.ordered r old | inr e ↦ subst (λ (x : Row). place x.first ≤ place x.last) e (omega arith) ];
    ascend = subst (λ K. (i j : ℕ) (d : Flow) → i < j → j < length K → place (get_or K i d) < place (get_or K j d)) (sym firsts_push)
        (each_push (firsts R) (λ g h. place g < place h) first_before a.ascend);
    times = subst (λ K. (i j : ℕ) (d : Flow) → i ≤ j → j < length K → time (get_or K i d) ≤ time (get_or K j d)) (sym firsts_push)
        (λ i j d low h. elim (cases_eq i j) [
          | inl e ↦ subst (λ k. time (get_or (firsts R ++ f ∷ []) i d) ≤ time (get_or (firsts R ++ f ∷ []) k d)) e (omega arith)
          | inr differ ↦ each_push (firsts R) (λ g h. time g ≤ time h) first_earlier (λ i j d low h. a.times i j d (omega arith) h) i j d (omega arith) h
        ]);
    numbered = subst IsNumbered (sym firsts_push) (numbered_push (firsts R) f a.numbered n.source_known_or_next n.target_known_or_next);
    lasts_apart = subst (λ K. (i j : ℕ) (d : Flow) → i < j → j < length K → place (get_or K i d) ≢ place (get_or K j d)) (sym lasts_push)
        (each_push (lasts R) (λ g h. place g ≢ place h) (λ g c e. let b = last_before g c in absurd (omega arith)) a.lasts_apart);
  }
    where
      each_push : (K : List Flow) (B : Flow → Flow → Type 0) → ((g : Flow) → Contains K g → B g f) → ((i j : ℕ) (d : Flow) → i < j → j < length K → B (get_or K i d) (get_or K j d))
          → (i j : ℕ) (d : Flow) → i < j → j < length (K ++ f ∷ []) → B (get_or (K ++ f ∷ []) i d) (get_or (K ++ f ∷ []) j d)
      each_push K B new old i j d low h = elim (cases_lt j (length K)) [
        | inl before ↦ let hi : i < length K = omega arith in
            rw (get_or_append_left K (f ∷ []) d i hi, get_or_append_left K (f ∷ []) d j before) (old i j d low before)
        | inr last ↦ let end : length K ≡ j = omega (arith, length-append K (f ∷ [])) in let hi : i < length K = omega arith in
            rw (get_or_append_left K (f ∷ []) d i hi, get_or_push K f d j end) (new (get_or K i d) (Contains-get_or K i d hi))
      ]

-- a row goes on with f
module _ {R : List Row} {f : Flow} (a : AreRows R) (after : ComesAfter R f) (i : ℕ) (h : i < length R) (pair : (d : Row) → SamePair (get_or R i d).last f) where
  abbrev old_row : Row
  old_row = get_or R i (row_of f)

  old_there : Contains R old_row
  old_there = Contains-get_or R i (row_of f) h

  abbrev new_row : Row
  new_row = record old_row { last = f }

  pub firsts_extended : firsts (rows_after R f (Extend i)) ≡ firsts R
  firsts_extended = map-set_same (λ (x : Row). x.first) R i new_row (row_of f) refl

  lasts_extended : lasts (rows_after R f (Extend i)) ≡ set (lasts R) i f
  lasts_extended = map-set (λ (x : Row). x.last) R i new_row

  each_row : (P : Row → Type 0) → ((r : Row) → Contains R r → P r) → P new_row → (r : Row) → Contains (rows_after R f (Extend i)) r → P r
  each_row P old new r c = elim (set_cases R i new_row r c) [ inl o ↦ old r o | inr e ↦ subst P e new ]

  apart : (j k : ℕ) (d : Flow) → j < k → k < length (set (lasts R) i f) → place (get_or (set (lasts R) i f) j d) ≢ place (get_or (set (lasts R) i f) k d)
  apart j k d low hk =
      let hk' : k < length (lasts R) = simp length-set at hk in
      let hi : i < length (lasts R) = simp length-map h in
      elim (cases_eq j i) [
        | inl e ↦ let differ : k ≢ i = omega arith in let hi' : j < length (lasts R) = omega arith in
            let same : get_or (set (lasts R) i f) j d ≡ f = subst (λ x. get_or (set (lasts R) i f) x d ≡ f) (sym e) (get_or-set_same (lasts R) i f d hi) in
            rw (same, get_or-set_other (lasts R) i k f d differ) (λ q. let b = last_before a after (get_or (lasts R) k d) (Contains-get_or (lasts R) k d hk') in omega (arith, b, q))
        | inr n ↦ elim (cases_eq k i) [
          | inl e ↦ let hj : j < length (lasts R) = omega arith in
              let same : get_or (set (lasts R) i f) k d ≡ f = subst (λ x. get_or (set (lasts R) i f) x d ≡ f) (sym e) (get_or-set_same (lasts R) i f d hi) in
              rw (get_or-set_other (lasts R) i j f d n, same) (λ q. let b = last_before a after (get_or (lasts R) j d) (Contains-get_or (lasts R) j d hj) in omega (arith, b, q))
          | inr m ↦ rw (get_or-set_other (lasts R) i j f d n, get_or-set_other (lasts R) i k f d m) (a.lasts_apart j k d low hk')
        ]
      ]

  pub rows_extended : AreRows (rows_after R f (Extend i))
  rows_extended =
      let p = pair (row_of f) in
      let was = a.pairs old_row old_there in
      record {
        pairs = each_row (λ r. SamePair r.last r.first) a.pairs (sym p.0 ∙ was.0, sym p.1 ∙ was.1);
        ends_differ = each_row (λ r. source r.first ≢ target r.first) a.ends_differ (a.ends_differ old_row old_there);
        ordered = each_row (λ r. place r.first ≤ place r.last) a.ordered (let b = after.firsts old_row old_there in omega arith);
        ascend = subst (λ K. (i j : ℕ) (d : Flow) → i < j → j < length K → place (get_or K i d) < place (get_or K j d)) (sym firsts_extended) a.ascend;
        times = subst (λ K. (i j : ℕ) (d : Flow) → i ≤ j → j < length K → time (get_or K i d) ≤ time (get_or K j d)) (sym firsts_extended) a.times;
        numbered = subst IsNumbered (sym firsts_extended) a.numbered;
        lasts_apart = subst (λ K. (i j : ℕ) (d : Flow) → i < j → j < length K → place (get_or K i d) ≢ place (get_or K j d)) (sym lasts_extended) apart;
      }

-- rows in memory, one more of them
module _ (rows : List KeptRow) (objects : List Object) (kept : AreKept rows objects) where
  abbrev pub R : List Row
  R = map row_of_kept rows

  abbrev pub K : List Flow
  K = firsts R

  pub counted : length K ≡ length rows
  counted = simp (length-map, length-map) refl

  pub kept_push : (f : Flow) (row : KeptRow) (next : List Object) → ComesAfter R f → GoesOn (known K) f → row_of_kept row ≡ row_of f → HasLinks K row
      → AreObjects (K ++ f ∷ []) next → length next < 2 ^ 32 → AreKept (rows ++ row ∷ []) next
  kept_push f row next after n is links o few =
      let same : map row_of_kept (rows ++ row ∷ []) ≡ R ++ row_of f ∷ [] = map-append row_of_kept rows (row ∷ []) ∙ ap (λ x. R ++ x ∷ []) is in
      let same_firsts : firsts (map row_of_kept (rows ++ row ∷ [])) ≡ K ++ f ∷ [] = ap firsts same ∙ firsts_push kept.lawful after in
      record {
        lawful = subst AreRows (sym same) (rows_push kept.lawful after n);
        links = λ i d h. subst (λ L. HasLinks (take i L) (get_or (rows ++ row ∷ []) i d)) (sym same_firsts) (elim (cases_lt i (length rows)) [
          | inl old ↦ let low : i ≤ length K = omega (arith, counted) in
              rw (take-append-le i K (f ∷ []) low, get_or_append_left rows (row ∷ []) d i old) (kept.links i d old)
          | inr new ↦ let e : length rows ≡ i = omega (arith, length-append rows (row ∷ [])) in
              let whole : take i (K ++ f ∷ []) ≡ K = subst (λ k. take k (K ++ f ∷ []) ≡ K) (counted ∙ e) (take-append-le (length K) K (f ∷ []) (omega arith) ∙ take-length K) in
              rw (whole, get_or_push rows row d i e) links
        ]);
        known = subst (λ L. AreObjects L next) (sym same_firsts) o;
        few = few;
      }

  pub all_rows : length R ≡ length rows
  all_rows = simp length-map refl

  -- a row takes the mark of a later flow between its objects
  module _ (f : Flow) (i : ℕ) (before : KeptRow) (mark : Mark) (after : ComesAfter R f) (h : i < length rows) (pair : (d : Row) → SamePair (get_or R i d).last f)
      (was : before ≡ get_or rows i before) (marks : mark ≡ record { at = f.at; how = f.how; serial = f.serial }) where
    abbrev row : KeptRow
    row = record before { last = mark }

    within : i < length R
    within = simp length-map h

    old : (d : Row) → get_or R i d ≡ row_of_kept before
    old d = get_or-map row_of_kept rows i before d h ∙ ap row_of_kept (sym was)

    last_is : (row_of_kept row).last ≡ f
    last_is =
        let p : SamePair (row_of_kept before).last f = subst (λ (x : Row). SamePair x.last f) (old (row_of f)) (pair (row_of f)) in
        ap (λ (m : Mark). record { from = before.from; to = before.to; how = m.how; at = m.at; serial = m.serial }) marks
        ∙ ap (λ (n : ℕ). record f { from = record { 0 = n }; to = before.to }) p.0 ∙ ap (λ (n : ℕ). record f { to = record { 0 = n } }) p.1

    pub same_rows : map row_of_kept (set rows i row) ≡ rows_after R f (Extend i)
    same_rows = map-set row_of_kept rows i row ∙ ap (λ (x : Flow). set R i (record { first = (row_of_kept before).first; last = x })) last_is
        ∙ ap (λ (x : Row). set R i (record x { last = f })) (sym (old (row_of f)))

    pub same_firsts : firsts (map row_of_kept (set rows i row)) ≡ K
    same_firsts = ap firsts same_rows ∙ firsts_extended kept.lawful after i within pair

    pub kept_extended : AreKept (set rows i row) objects
    kept_extended = record {
      lawful = subst AreRows (sym same_rows) (rows_extended kept.lawful after i within pair);
      links = λ j d hj. let hj' : j < length rows = simp length-set at hj in subst (λ L. HasLinks (take j L) (get_or (set rows i row) j d)) (sym same_firsts) (elim (cases_eq j i) [
        | inl e ↦ subst (λ k. HasLinks (take k K) (get_or (set rows i row) k d)) (sym e) (rw (get_or-set_same rows i row d h)
            (let l = subst (HasLinks (take i K)) (sym was) (kept.links i before h) in record { before_to = l.before_to; before_from = l.before_from }))
        | inr n ↦ rw (get_or-set_other rows i j row d n) (kept.links j d hj')
      ]);
      known = subst (λ L. AreObjects L objects) (sym same_firsts) kept.known;
      few = kept.few;
    }

  -- what a row of the code is
  pub kept_row : (i : ℕ) (row : KeptRow) → i < length rows → row ≡ get_or rows i row → IsRowAt R i row
  kept_row i row h is =
      let l = subst (HasLinks (take i K)) (sym is) (kept.links i row h) in
      record { is = λ d. get_or-map row_of_kept rows i row d h ∙ ap row_of_kept (sym is); before_to = l.before_to; before_from = l.before_from }

  pub kept_ends : (i : ℕ) (row : KeptRow) → i < length rows → row ≡ get_or rows i row → (row.from.0 < known K) × (row.to.0 < known K)
  kept_ends i row h is = row_ends R (row_of_kept row) (i, simp length-map h, get_or-map row_of_kept rows i row (row_of_kept row) h ∙ ap row_of_kept (sym is))
