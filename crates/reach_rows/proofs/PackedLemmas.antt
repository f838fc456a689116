-- Packed rows, after another row or after a row takes another last mark.
use Rattle.std.proofs.Common.{◌≡◌, ◌≢◌, ℕ, ◌<◌, List, [], ◌∷◌, ◌++◌, length, get_or, set, true, false, if◌then◌else◌, refl, sym, ap, subst, ◌⊎◌, ◌∙◌, arith, inl, inr}
use Rattle.std.proofs.lemmas.List.{get_or_append_left, get_or_push, get_or_default, same_lists, length-append, length-map, map-append, length-set, get_or-set_same, get_or-set_other, get_or-map}
use Rattle.std.proofs.lemmas.Bool.{cases_eq, cases_Bool}
use Rattle.reach_rows.specs.Indexes.{index_in}
use Rattle.reach_rows.specs.Packed.{NONE, HasExtension, HaveExtensions, own_of, row_with, extension_of, row_of_packed, rows_of_packed, with_last}
use Rattle.reach_rows.specs.declared.index48.Index48.{Index48}
use Rattle.reach_rows.specs.declared.packed.Extension.{Extension}
use Rattle.reach_rows.specs.declared.packed.PackedRow.{PackedRow}
use Rattle.reach_rows.specs.declared.rows.Mark.{Mark}
use Rattle.reach_rows.specs.declared.rows.Row.{Row as KeptRow}

single : (E : List Extension) (p : PackedRow) → p.extended ≡ false → extension_of E p ≡ own_of p
single E p off = ap (λ b. if b then get_or E (index_in p.place_or_extension) (own_of p) else own_of p) off

extended : (E : List Extension) (p : PackedRow) → p.extended ≡ true → extension_of E p ≡ get_or E (index_in p.place_or_extension) (own_of p)
extended E p on = ap (λ b. if b then get_or E (index_in p.place_or_extension) (own_of p) else own_of p) on

extended_by : (E : List Extension) (p : PackedRow) (e : Extension) → p.extended ≡ true → (index_in p.place_or_extension) < length E → e ≡ get_or E (index_in p.place_or_extension) e → extension_of E p ≡ e
extended_by E p e on h is = extended E p on ∙ get_or_default E (index_in p.place_or_extension) (own_of p) e h ∙ sym is

-- two lists that have the same extension for a row
same_packed : (E F : List Extension) (q : PackedRow) → (q.extended ≡ true → (d : Extension) → get_or F (index_in q.place_or_extension) d ≡ get_or E (index_in q.place_or_extension) d) → row_of_packed F q ≡ row_of_packed E q
same_packed E F q h = ap (row_with q) (elim (cases_Bool q.extended) [
  | inl on ↦ extended F q on ∙ h on (own_of q) ∙ sym (extended E q on)
  | inr off ↦ single F q off ∙ sym (single E q off)
])

module _ (E : List Extension) (P : List PackedRow) (own : HaveExtensions E P) (i : ℕ) (p : PackedRow) (last : Mark) (h : i < length P) (is : p ≡ get_or P i p) where
  row_is : (d : KeptRow) → get_or (rows_of_packed E P) i d ≡ row_of_packed E p
  row_is d = get_or-map (row_of_packed E) P i p d h ∙ ap (row_of_packed E) (sym is)

  -- rows of which this one has the last mark, and the others are as before
  is_with_last : (F : List Extension) (Q : List PackedRow) → length Q ≡ length P → ((d : KeptRow) → get_or (rows_of_packed F Q) i d ≡ record (row_of_packed E p) { last = last })
      → ((k : ℕ) (d : KeptRow) → k < length P → k ≢ i → get_or (rows_of_packed F Q) k d ≡ get_or (rows_of_packed E P) k d)
      → (d : KeptRow) → rows_of_packed F Q ≡ with_last (rows_of_packed E P) i last d
  is_with_last F Q len here others d =
      let R = rows_of_packed E P in
      let new : KeptRow = record (get_or R i d) { last = last } in
      same_lists (rows_of_packed F Q) (set R i new) (length-map Q (row_of_packed F) ∙ len ∙ sym (length-set R i new ∙ length-map P (row_of_packed E)))
      (λ k e low. let low' : k < length P = omega (arith, low, length-map Q (row_of_packed F), len) in elim (cases_eq k i) [
        | inl same ↦ subst (λ j. get_or (rows_of_packed F Q) j e ≡ get_or (set R i new) j e) (sym same)
            (here e ∙ ap (λ (r : KeptRow). record r { last = last }) (sym (row_is d)) ∙ sym (get_or-set_same R i new e (omega (arith, h, length-map P (row_of_packed E)))))
        | inr n ↦ others k e low' n ∙ sym (get_or-set_other R i k new e n)
      ])

  -- the row has an extension already
  pub extended_again : p.extended ≡ true → (e : Extension) → e ≡ get_or E (index_in p.place_or_extension) e → (d : KeptRow)
      → rows_of_packed (set E (index_in p.place_or_extension) (record e { last = last })) P ≡ with_last (rows_of_packed E P) i last d
  extended_again on e at =
      let x = index_in p.place_or_extension in
      let new : Extension = record e { last = last } in
      let F = set E x new in
      let within : x < length E = subst (HasExtension E) (sym is) (own.each i p h) on in
      let within' : x < length F = omega (arith, within, length-set E x new) in
      let now : extension_of F p ≡ new = extended_by F p new on within' (sym (get_or-set_same E x new new within)) in
      let was : extension_of E p ≡ e = extended_by E p e on within at in
      is_with_last F P refl
      (λ d. get_or-map (row_of_packed F) P i p d h ∙ ap (row_of_packed F) (sym is) ∙ ap (row_with p) now ∙ ap (λ (y : Extension). row_with p (record y { last = last })) (sym was))
      (λ k d low n.
      let q = get_or P k p in
      let apart : q.extended ≡ true → (index_in q.place_or_extension) ≢ x = λ on'. subst (λ (r : PackedRow). (index_in q.place_or_extension) ≢ (index_in r.place_or_extension)) (sym is)
      (own.apart k i p low h n on' (subst (λ (r : PackedRow). r.extended ≡ true) is on)) in
      get_or-map (row_of_packed F) P k p d low ∙ same_packed E F q (λ on' y. get_or-set_other E x (index_in q.place_or_extension) new y (apart on')) ∙ sym (get_or-map (row_of_packed E) P k p d low))

  -- the row takes the next extension
  pub extended_first : p.extended ≡ false → (x : Index48) → index_in x ≡ length E → (d : KeptRow)
      → rows_of_packed (E ++ record { place = index_in p.place_or_extension; last = last } ∷ []) (set P i (record p { place_or_extension = x; extended = true })) ≡ with_last (rows_of_packed E P) i last d
  extended_first off x len =
      let new : Extension = record { place = index_in p.place_or_extension; last = last } in
      let F = E ++ new ∷ [] in
      let r : PackedRow = record p { place_or_extension = x; extended = true } in
      let Q = set P i r in
      let same = length-set P i r in
      let now : extension_of F r ≡ new = extended_by F r new refl (omega (arith, len, length-append E (new ∷ []))) (sym (get_or_push E new new (index_in x) (sym len))) in
      is_with_last F Q same
      (λ d. get_or-map (row_of_packed F) Q i p d (omega (arith, h, same)) ∙ ap (row_of_packed F) (get_or-set_same P i r p h) ∙ ap (row_with r) now
      ∙ ap (λ (y : Extension). row_with p (record y { last = last })) (sym (single E p off)))
      (λ k d low n.
      let q = get_or P k p in
      get_or-map (row_of_packed F) Q k p d (omega (arith, low, same)) ∙ ap (row_of_packed F) (get_or-set_other P i k r p n)
      ∙ same_packed E F q (λ on y. get_or_append_left E (new ∷ []) y (index_in q.place_or_extension) (own.each k p low on)) ∙ sym (get_or-map (row_of_packed E) P k p d low))

-- one more row, which takes the next extension
module _ (E : List Extension) (P : List PackedRow) (own : HaveExtensions E P) (e : Extension) (p : PackedRow) (on : p.extended ≡ true)
    (at : index_in p.place_or_extension ≡ length E) where
  abbrev F : List Extension
  F = E ++ e ∷ []

  abbrev Q : List PackedRow
  Q = P ++ p ∷ []

  is_at : (k : ℕ) (d : PackedRow) → k < length Q → ((k < length P) × (get_or Q k d ≡ get_or P k d)) ⊎ ((k ≡ length P) × (get_or Q k d ≡ p))
  is_at k d h = elim (cases_eq k (length P)) [
    | inl same ↦ inr (same, get_or_push P p d k (sym same))
    | inr n ↦ let low : k < length P = omega (arith, h, n, length-append P (p ∷ [])) in inl (low, get_or_append_left P (p ∷ []) d k low)
  ]

  -- a row that was there
  there : (k : ℕ) (d : PackedRow) → k < length P → get_or Q k d ≡ get_or P k d → (get_or Q k d).extended ≡ true → index_in (get_or Q k d).place_or_extension < length E
  there k d low is on' = subst (HasExtension E) (sym is) (own.each k d low) on'

  each : (k : ℕ) (d : PackedRow) → k < length Q → HasExtension F (get_or Q k d)
  each k d h = λ on'. elim (is_at k d h) [
    | inl t ↦ omega (arith, there k d t.0 t.1 on', length-append E (e ∷ []))
    | inr t ↦ omega (arith, ap (λ (r : PackedRow). index_in r.place_or_extension) t.1, at, length-append E (e ∷ []))
  ]

  apart : (i j : ℕ) (d : PackedRow) → i < length Q → j < length Q → i ≢ j → (get_or Q i d).extended ≡ true → (get_or Q j d).extended ≡ true
      → index_in (get_or Q i d).place_or_extension ≢ index_in (get_or Q j d).place_or_extension
  apart i j d hi hj n on_i on_j = λ same. elim (is_at i d hi) [
    | inl s ↦ elim (is_at j d hj) [
      | inl t ↦ own.apart i j d s.0 t.0 n (ap (λ (r : PackedRow). r.extended) (sym s.1) ∙ on_i) (ap (λ (r : PackedRow). r.extended) (sym t.1) ∙ on_j)
          (ap (λ (r : PackedRow). index_in r.place_or_extension) (sym s.1) ∙ same ∙ ap (λ (r : PackedRow). index_in r.place_or_extension) t.1)
      | inr t ↦ omega (arith, there i d s.0 s.1 on_i, same, ap (λ (r : PackedRow). index_in r.place_or_extension) t.1, at)
    ]
    | inr s ↦ elim (is_at j d hj) [
      | inl t ↦ omega (arith, there j d t.0 t.1 on_j, same, ap (λ (r : PackedRow). index_in r.place_or_extension) s.1, at)
      | inr t ↦ n (s.0 ∙ sym t.0)
    ]
  ]

  pub have_pushed : length P < NONE → length E < NONE → HaveExtensions F Q
  have_pushed rows extensions = record {
    each = each;
    apart = apart;
    few_rows = omega (arith, rows, length-append P (p ∷ []));
    few_extensions = omega (arith, extensions, length-append E (e ∷ []));
  }

  pub rows_pushed : rows_of_packed F Q ≡ rows_of_packed E P ++ row_with p e ∷ []
  rows_pushed =
      let now : extension_of F p ≡ e = extended_by F p e on (omega (arith, at, length-append E (e ∷ []))) (sym (get_or_push E e e (index_in p.place_or_extension) (sym at))) in
      let before : rows_of_packed F P ≡ rows_of_packed E P = same_lists (rows_of_packed F P) (rows_of_packed E P) (length-map P (row_of_packed F) ∙ sym (length-map P (row_of_packed E)))
      (λ k d low.
      let low' : k < length P = omega (arith, low, length-map P (row_of_packed F)) in
      let q = get_or P k p in
      get_or-map (row_of_packed F) P k p d low'
      ∙ same_packed E F q (λ on' y. get_or_append_left E (e ∷ []) y (index_in q.place_or_extension) (own.each k p low' on'))
      ∙ sym (get_or-map (row_of_packed E) P k p d low')) in
      map-append (row_of_packed F) P (p ∷ [])
      ∙ ap (λ R. R ++ row_of_packed F p ∷ []) before
      ∙ ap (λ x. rows_of_packed E P ++ row_with p x ∷ []) now
