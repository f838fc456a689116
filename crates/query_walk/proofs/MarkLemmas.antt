-- Marks that are kept as bits.
use Rattle.std.proofs.Common.{◌≡◌, ℕ, ◌<◌, ◌≤◌, ◌↔◌, ◌⊎◌, List, length, get_or, set, Bool, true, false, sym, ap, ◌∙◌, arith, refl, inl, inr}
use Rattle.std.specs.List.{Contains}
use Rattle.std.proofs.lemmas.Bool.{cases_eq, cases_lt, eqb-true, eq-eqb, false≢true}
use Rattle.std.proofs.lemmas.List.{ext_get_or, get_or_past, get_or-set_same, get_or-set_other, length-set}
use Rattle.std.proofs.lemmas.List.FromFn.{length-map-range_with_len, get_or-map-range_with_len}
use Rattle.flow_base.specs.declared.types.EntityId.{EntityId}
use Rattle.reach_model.specs.Ids.{numbers}
use Rattle.reach_model.specs.Marks.{IsMarked}
use Rattle.reach_model.proofs.Ascending.{IsListedBelow}
use Rattle.query_walk.specs.Bits.{IsSet}
use Rattle.query_walk.specs.Marks.{is_set, marks_of}

-- there are as many marks as objects
pub marks_len : (words : List ℕ) (count : ℕ) → length (marks_of words count) ≡ count
marks_len words count = length-map-range_with_len (is_set words) 0 count

-- so what is below the number of marks is below that of objects
pub below_count : (words : List ℕ) (count : ℕ) (marks : List Bool) → marks_of words count ≡ marks → (p : ℕ) → p < length marks → p < count
below_count words count marks is p h = let len : length (marks_of words count) ≡ length marks = ap length is in omega (arith, h, len, marks_len words count)

-- the mark of an object is its bit
pub mark_at : (words : List ℕ) (count p : ℕ) → p < count → get_or (marks_of words count) p false ≡ is_set words p
mark_at words count p h = get_or-map-range_with_len (is_set words) 0 count p p false h (omega arith)

-- the test of a bit
pub set_is : (words : List ℕ) (p : ℕ) → is_set words p ≡ true ↔ IsSet words p
set_is words p = (λ s. eqb-true _ 1 s, λ s. eq-eqb _ 1 s)

-- two tests of the same are one
pub same_test : (a b : Bool) (P : Type 0) → (a ≡ true ↔ P) → (b ≡ true ↔ P) → a ≡ b
same_test true b P h k = sym (k.1 (h.0 refl))
same_test false true P h k = h.1 (k.0 refl)
same_test false false P h k = refl

-- if no bit is set past the objects, the marked ones are those whose bits are set
module _ (words : List ℕ) (count : ℕ) (low : (p : ℕ) → IsSet words p → p < count) where
  pub marked_is : (p : ℕ) → IsMarked (marks_of words count) p ↔ IsSet words p
  marked_is p = (
    λ m. elim (cases_lt p count) [
      | inl inside ↦ (set_is words p).0 (sym (mark_at words count p inside) ∙ m)
      | inr past ↦ absurd (false≢true (sym (get_or_past (marks_of words count) p false (omega (arith, marks_len words count, past))) ∙ m))
    ],
    λ s. mark_at words count p (low p s) ∙ (set_is words p).1 s,
  )

-- with one bit more an object more is marked
pub mark_more : (old new : List ℕ) (count x : ℕ) → x < count → ((p : ℕ) → IsSet new p ↔ (IsSet old p ⊎ (p ≡ x))) → marks_of new count ≡ set (marks_of old count) x true
mark_more old new count x h more =
    let len : length (marks_of new count) ≡ length (set (marks_of old count) x true) = marks_len new count ∙ sym (length-set (marks_of old count) x true ∙ marks_len old count) in
    ext_get_or false (marks_of new count) (set (marks_of old count) x true) len (λ p inside.
    let low : p < count = omega (arith, inside, marks_len new count) in
    let now = mark_at new count p low in
    elim (cases_eq p x) [
      | inl e ↦
          let one : is_set new p ≡ true = (set_is new p).1 ((more p).1 (inr e)) in
          let there : get_or (set (marks_of old count) x true) x false ≡ true = get_or-set_same (marks_of old count) x true false (omega (arith, h, marks_len old count)) in
          now ∙ one ∙ sym (ap (λ i. get_or (set (marks_of old count) x true) i false) e ∙ there)
      | inr apart ↦
          let same : is_set new p ≡ is_set old p = same_test _ _ (IsSet old p) (
            λ s. elim ((more p).0 ((set_is new p).0 s)) [ inl was ↦ was | inr e ↦ absurd (apart e) ],
            λ s. (set_is new p).1 ((more p).1 (inl s)),
          ) (set_is old p) in
          now ∙ same ∙ sym (get_or-set_other (marks_of old count) x p true false apart ∙ mark_at old count p low)
    ])

-- the marked objects below j are listed too, if none from i on is marked before j
pub listed_to : (marks : List Bool) (i j : ℕ) (ids : List EntityId) → i ≤ j → ((u : ℕ) → i ≤ u → u < j → ¬ IsMarked marks u) → IsListedBelow marks i ids → IsListedBelow marks j ids
listed_to marks i j ids h none l = record {
  ascending = l.ascending;
  exact = λ u. (
    λ c. let o = (l.exact u).0 c in (omega (arith, o.0, h), o.1),
    λ p. elim (cases_lt u i) [ inl low ↦ (l.exact u).1 (low, p.1) | inr high ↦ absurd (none u high p.0 p.1) ],
  );
}

-- if none from i on is marked, all are listed
pub listed_none : (marks : List Bool) (i : ℕ) (ids : List EntityId) → ((u : ℕ) → i ≤ u → ¬ IsMarked marks u) → IsListedBelow marks i ids → (u : ℕ) → Contains (numbers ids) u ↔ IsMarked marks u
listed_none marks i ids none l u = (
  λ c. ((l.exact u).0 c).1,
  λ m. (l.exact u).1 (elim (cases_lt u i) [ inl low ↦ low | inr high ↦ absurd (none u high m) ], m),
)
