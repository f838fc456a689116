-- Counting one line after the other gives the counts of the whole list.
use Rattle.std.proofs.Common.{◌≡◌, ◌+◌, ◌∙◌, sym, refl, ap, ℕ, Bool, cond, List, [], ◌∷◌, ◌++◌, length, take, nat_lt, inl, inr, arith, append_assoc, append-nil, length-append, count_by, flat_map, fold}
use Rattle.std.proofs.lemmas.Bool.{cases_lt, cond-true, cond-false, lt-ltb, le-ltb}
use Rattle.std.proofs.lemmas.List.{take_all, take-append-le, length-take-le}
use Rattle.std.proofs.lemmas.List.Sums.{sum_by-append}
use Rattle.std.proofs.lemmas.Grind.{flat_map-append}
use Rattle.flow_base.specs.declared.types.Bad.{Bad}
use Rattle.audit_lex.specs.LineClass.{Class, Used, Other, Blank, Malformed}
use Rattle.audit_lex.specs.Tally.{Classed, fault_number, nothing_counted, listed, class_counted, one_counted, is_used, is_other, is_blank, is_malformed, bad_of, tally_of}
use Rattle.audit_lex.specs.declared.tally.Tally.{Tally}

-- ---- one more line

abbrev made : ℕ → ℕ → ℕ → ℕ → List Bad → Tally
made used other blank malformed bad = record { used = used; other = other; blank = blank; malformed = malformed; bad = bad }

same_tally : (a b : Tally) → a.used ≡ b.used → a.other ≡ b.other → a.blank ≡ b.blank → a.malformed ≡ b.malformed → a.bad ≡ b.bad → a ≡ b
same_tally a b used other blank malformed bad =
    let same : made a.used a.other a.blank a.malformed a.bad ≡ made b.used b.other b.blank b.malformed b.bad = cc in same

one_counts : (test : Classed → Bool) (done : List Classed) (line : Classed) → count_by test (done ++ line ∷ []) ≡ count_by test done + cond (test line) 1 0
one_counts test done line = sum_by-append (λ x. cond (test x) 1 0) done (line ∷ []) ∙ omega arith

abbrev listed_of : List Classed → List Bad
listed_of lines = flat_map (λ line. bad_of line.number line.class) lines

one_lists : (done : List Classed) (line : Classed) → listed_of (done ++ line ∷ []) ≡ listed_of done ++ bad_of line.number line.class
one_lists done line = flat_map-append (λ line. bad_of line.number line.class) done (line ∷ []) ∙ ap (λ later. listed_of done ++ later) (append-nil (bad_of line.number line.class))

nothing_listed : (shown : ℕ) (done : List Classed) (line : Classed) → bad_of line.number line.class ≡ [] → take shown (listed_of done) ≡ take shown (listed_of (done ++ line ∷ []))
nothing_listed shown done line none =
    ap (take shown) (sym (one_lists done line ∙ ap (λ later. listed_of done ++ later) none ∙ append-nil (listed_of done)))

listed_more : (shown : ℕ) (bad : List Bad) (line : Bad) → listed shown (take shown bad) line ≡ take shown (bad ++ line ∷ [])
listed_more shown bad line =
    elim (cases_lt (length bad) shown) [
      | inl room ↦
          let whole : take shown bad ≡ bad = take_all shown bad (omega (arith, room)) in
          rw whole (cond-true (nat_lt (length bad) shown) (bad ++ line ∷ []) bad (lt-ltb _ _ room)
          ∙ sym (take_all shown (bad ++ line ∷ []) (simp length-append (omega (arith, room)))))
      | inr full ↦
          let size = length-take-le shown bad full in
          cond-false (nat_lt (length (take shown bad)) shown) (take shown bad ++ line ∷ []) (take shown bad) (le-ltb _ _ (omega (arith, size)))
          ∙ sym (take-append-le shown bad (line ∷ []) full)
    ]

abbrev classed : ℕ → Class → Classed
classed number class = record { number = number; class = class }

counted_more : (shown : ℕ) (done : List Classed) (number : ℕ) (class : Class)
    → (class_counted shown (tally_of shown done) number class).used ≡ count_by (λ line. is_used line.class) done + cond (is_used class) 1 0
    → (class_counted shown (tally_of shown done) number class).other ≡ count_by (λ line. is_other line.class) done + cond (is_other class) 1 0
    → (class_counted shown (tally_of shown done) number class).blank ≡ count_by (λ line. is_blank line.class) done + cond (is_blank class) 1 0
    → (class_counted shown (tally_of shown done) number class).malformed ≡ count_by (λ line. is_malformed line.class) done + cond (is_malformed class) 1 0
    → (class_counted shown (tally_of shown done) number class).bad ≡ take shown (listed_of (done ++ classed number class ∷ []))
    → class_counted shown (tally_of shown done) number class ≡ tally_of shown (done ++ classed number class ∷ [])
counted_more shown done number class used other blank malformed bad =
    let line = classed number class in
    same_tally _ _
    (used ∙ sym (one_counts (λ line. is_used line.class) done line))
    (other ∙ sym (one_counts (λ line. is_other line.class) done line))
    (blank ∙ sym (one_counts (λ line. is_blank line.class) done line))
    (malformed ∙ sym (one_counts (λ line. is_malformed line.class) done line))
    bad

one_more : (shown : ℕ) (done : List Classed) (number : ℕ) (class : Class)
    → class_counted shown (tally_of shown done) number class ≡ tally_of shown (done ++ classed number class ∷ [])
one_more shown done number (Used key kind) =
    let line = classed number (Used key kind) in
    counted_more shown done number (Used key kind) refl (omega arith) (omega arith) (omega arith) (nothing_listed shown done line refl)
one_more shown done number Other =
    let line = classed number Other in
    counted_more shown done number Other (omega arith) refl (omega arith) (omega arith) (nothing_listed shown done line refl)
one_more shown done number Blank =
    let line = classed number Blank in
    counted_more shown done number Blank (omega arith) (omega arith) refl (omega arith) (nothing_listed shown done line refl)
one_more shown done number (Malformed f) =
    let line = classed number (Malformed f) in
    counted_more shown done number (Malformed f) (omega arith) (omega arith) (omega arith) refl
    (listed_more shown (listed_of done) (record { line = number; fault = fault_number f }) ∙ ap (take shown) (sym (one_lists done line)))

-- ---- all lines

counted_from : (shown : ℕ) (done lines : List Classed) → fold (one_counted shown) (tally_of shown done) lines ≡ tally_of shown (done ++ lines)
counted_from shown done [] = ap (tally_of shown) (sym (append-nil done))
counted_from shown done (line ∷ lines) =
    ap (λ start. fold (one_counted shown) start lines) (one_more shown done line.number line.class)
    ∙ counted_from shown (done ++ line ∷ []) lines
    ∙ ap (tally_of shown) (append_assoc done (line ∷ []) lines)

nothing_yet : (shown : ℕ) → nothing_counted ≡ tally_of shown []
nothing_yet shown = same_tally _ _ refl refl refl refl (sym (take_all shown [] (omega arith)))

pub all_counted : (shown : ℕ) (lines : List Classed) → fold (one_counted shown) nothing_counted lines ≡ tally_of shown lines
all_counted shown lines = ap (λ start. fold (one_counted shown) start lines) (nothing_yet shown) ∙ counted_from shown [] lines

one_class : (class : Class) → cond (is_used class) 1 0 + cond (is_other class) 1 0 + cond (is_blank class) 1 0 + cond (is_malformed class) 1 0 ≡ 1
one_class (Used key kind) = refl
one_class Other = refl
one_class Blank = refl
one_class (Malformed f) = refl

next_counts : (test : Classed → Bool) (line : Classed) (lines : List Classed) → count_by test (line ∷ lines) ≡ cond (test line) 1 0 + count_by test lines
next_counts test line lines = sum_by-append (λ x. cond (test x) 1 0) (line ∷ []) lines ∙ omega arith

sums : (lines : List Classed)
    → count_by (λ line. is_used line.class) lines + count_by (λ line. is_other line.class) lines + count_by (λ line. is_blank line.class) lines
    + count_by (λ line. is_malformed line.class) lines ≡ length lines
sums [] = refl
sums (line ∷ lines) =
    omega (
      arith,
      one_class line.class,
      sums lines,
      next_counts (λ line. is_used line.class) line lines,
      next_counts (λ line. is_other line.class) line lines,
      next_counts (λ line. is_blank line.class) line lines,
      next_counts (λ line. is_malformed line.class) line lines,
    )

pub each_counted : (shown : ℕ) (lines : List Classed)
    → (tally_of shown lines).used + (tally_of shown lines).other + (tally_of shown lines).blank + (tally_of shown lines).malformed ≡ length lines
each_counted shown lines = sums lines
