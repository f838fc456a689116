-- Lines and the tail, as a State has them.
use Rattle.std.proofs.Common.{◌≡◌, ◌≤◌, ◌<◌, ◌+◌, ◌==◌, ◌++◌, ◌∷◌, [], refl, subst, ℕ, zero, suc, Bool, true, false, List, length, take, get_or, arith, if◌then◌else◌, nat_lt}
use Rattle.std.specs.Prelude.{⊤, All, ◌≢◌}
use Rattle.std.specs.List.{AllByRecursion, Contains, fold, flat_map}
use Rattle.std.proofs.lemmas.Bool.{eqb-false, ltb-true, ltb-false}
use Rattle.std.proofs.lemmas.List.{length-take}
use Rattle.std.proofs.lemmas.List.Elements.{All-from_recursion}
use Rattle.flow_base.specs.declared.limits.Limits.{Limits}
use Rattle.flow_base.specs.declared.types.Bad.{Bad}
use Rattle.audit_lex.specs.History.{History, Byte, Settle, Cuts, ended, settled, one_more, nothing_cut, lines_of, tail_of, is_long, short_text}
use Rattle.audit_lex.specs.LineClass.{Class, Used, Other, Blank, Malformed, class_of}
use Rattle.audit_lex.specs.Tally.{Classed, bad_of}
use Rattle.store_check.specs.Conditions.{Ascend, IsLine}
use Rattle.store_check.specs.Conditions as store
use Rattle.ingest.specs.Counting.{bytes_in, classed_from, tally_in}
use Rattle.ingest.proofs.Bytes.{begun, all_weigh}

-- ---- the tail

abbrev IsPlain : ℕ → Type 0
IsPlain b = b ≢ 10

plain_push : (tail : List ℕ) (b : ℕ) → AllByRecursion IsPlain tail → IsPlain b → AllByRecursion IsPlain (tail ++ b ∷ [])
plain_push [] b all p = (p, tt)
plain_push (x ∷ tail) b all p = (all.0, plain_push tail b all.1 p)

byte_plain : (cuts : Cuts) (b : ℕ) (feed : Bool) → b == 10 ≡ feed → AllByRecursion IsPlain cuts.tail → AllByRecursion IsPlain (if feed then ended cuts else record { lines = cuts.lines; tail = cuts.tail ++ b ∷ [] }).tail
byte_plain cuts b true is all = tt
byte_plain cuts b false is all = plain_push cuts.tail b all (eqb-false b 10 is)

settle_plain : (lines : List (List ℕ)) (tail : List ℕ) → AllByRecursion IsPlain (settled lines tail).tail
settle_plain lines [] = tt
settle_plain lines (b ∷ tail) = tt

all_plain : (cuts : Cuts) (h : History) → AllByRecursion IsPlain cuts.tail → AllByRecursion IsPlain (fold one_more cuts h).tail
all_plain cuts [] all = all
all_plain cuts (Byte b ∷ h) all = all_plain (one_more cuts (Byte b)) h (byte_plain cuts b (b == 10) refl all)
all_plain cuts (Settle ∷ h) all = all_plain (one_more cuts Settle) h (settle_plain cuts.lines cuts.tail)

none_there : (tail : List ℕ) (i : ℕ) → AllByRecursion IsPlain tail → i < length tail → get_or tail i 10 ≡ 10 → ⊥
none_there [] i all h is = absurd (omega (arith, h))
none_there (b ∷ tail) zero all h is = all.0 is
none_there (b ∷ tail) (suc i) all h is = let low : i < length tail = omega (arith, h) in none_there tail i all.1 low is

plain_if : (long : Bool) (tail : List ℕ) → AllByRecursion IsPlain tail → AllByRecursion IsPlain (if long then [] else tail)
plain_if true tail all = tt
plain_if false tail all = all

-- the tail that is held has no line feed
pub held_plain : (limit : ℕ) (h : History) → ¬ Contains (short_text limit (tail_of h)) 10
held_plain limit h there =
    none_there (short_text limit (tail_of h)) there.0 (plain_if (is_long limit (tail_of h)) (tail_of h) (all_plain nothing_cut h tt)) there.1 there.2

short_if : (limit : ℕ) (tail : List ℕ) (long : Bool) → nat_lt limit (length tail) ≡ long → length (if long then [] else tail) ≤ limit
short_if limit tail true is = omega arith
short_if limit tail false is = let less = ltb-false limit (length tail) is in omega (arith, less)

-- and isn't longer than a line may be
pub held_short : (limit : ℕ) (tail : List ℕ) → length (short_text limit tail) ≤ limit
held_short limit tail = short_if limit tail (nat_lt limit (length tail)) refl

none_if : (long : Bool) (tail : List ℕ) → long ≡ true → (if long then [] else tail) ≡ []
none_if true tail is = refl
none_if false tail is = absurd (cc is)

-- one that is too long isn't held
pub long_none : (limit : ℕ) (tail : List ℕ) → is_long limit tail ≡ true → short_text limit tail ≡ []
long_none limit tail is = none_if (is_long limit tail) tail is

begun_most : (tail : List ℕ) (limit : ℕ) (long : Bool) → nat_lt limit (length tail) ≡ long → store.begun long (if long then [] else tail) ≤ begun tail
begun_most [] limit true is = let less = ltb-true limit 0 is in absurd (omega (arith, less))
begun_most (b ∷ tail) limit true is = omega arith
begun_most [] limit false is = omega arith
begun_most (b ∷ tail) limit false is = omega arith

-- each line that ended or began took a byte
pub lines_paid : (limit : ℕ) (h : History) → length (lines_of h) + store.begun (is_long limit (tail_of h)) (short_text limit (tail_of h)) ≤ bytes_in h
lines_paid limit h =
    omega (arith, begun_most (tail_of h) limit (is_long limit (tail_of h)) refl, all_weigh nothing_cut h)

-- ---- malformed lines

-- the numbers ascend from this one on, and end below that one
abbrev AscendTo : ℕ → ℕ → List Bad → Type 0
AscendTo from to [] = ⊤
AscendTo from to (b ∷ bad) = (from ≤ b.line) × (b.line < to) × AscendTo (b.line + 1) to bad

ascend_from : (from later to : ℕ) (bad : List Bad) → from ≤ later → AscendTo later to bad → AscendTo from to bad
ascend_from from later to [] le all = tt
ascend_from from later to (b ∷ bad) le all = (omega (arith, le, all.0), all.1, all.2)

ascend_with : (number to : ℕ) (class : Class) (bad : List Bad) → number < to → AscendTo (number + 1) to bad → AscendTo number to (bad_of number class ++ bad)
ascend_with number to (Malformed f) bad h all = (omega arith, h, all)
ascend_with number to (Used key kind) bad h all = ascend_from number (number + 1) to bad (omega arith) all
ascend_with number to Other bad h all = ascend_from number (number + 1) to bad (omega arith) all
ascend_with number to Blank bad h all = ascend_from number (number + 1) to bad (omega arith) all

all_ascend : (limit number to : ℕ) (lines : List (List ℕ)) → number + length lines ≤ to → AscendTo number to (flat_map (λ (line : Classed). bad_of line.number line.class) (classed_from limit number lines))
all_ascend limit number to [] h = tt
all_ascend limit number to (line ∷ lines) h =
    ascend_with number to (class_of limit line) (flat_map (λ (line : Classed). bad_of line.number line.class) (classed_from limit (number + 1) lines))
    (omega (arith, h)) (all_ascend limit (number + 1) to lines (omega (arith, h)))

take_ascends : (n from to : ℕ) (bad : List Bad) → AscendTo from to bad → AscendTo from to (take n bad)
take_ascends zero from to bad all = tt
take_ascends (suc n) from to [] all = tt
take_ascends (suc n) from to (b ∷ bad) all = (all.0, all.1, take_ascends n (b.line + 1) to bad all.2)

ascends_at : (from to : ℕ) (bad : List Bad) → AscendTo from to bad → (i : ℕ) (d : Bad) → suc i < length bad → (get_or bad i d).line < (get_or bad (suc i) d).line
ascends_at from to [] all i d h = absurd (omega (arith, h))
ascends_at from to (a ∷ []) all i d h = absurd (omega (arith, h))
ascends_at from to (a ∷ b ∷ bad) all zero d h = let later = all.2.0 in omega (arith, later)
ascends_at from to (a ∷ b ∷ bad) all (suc i) d h = let low : suc i < length (b ∷ bad) = omega (arith, h) in ascends_at (a.line + 1) to (b ∷ bad) all.2 i d low

are_lines : (from lines : ℕ) (bad : List Bad) → 1 ≤ from → AscendTo from (lines + 1) bad → AllByRecursion (IsLine lines) bad
are_lines from lines [] h all = tt
are_lines from lines (b ∷ bad) h all =
    ((omega (arith, h, all.0), omega (arith, all.1)), are_lines (b.line + 1) lines bad (omega arith) all.2)

module _ (limits : Limits) (h : History) where
  listed : AscendTo 1 (length (lines_of h) + 1) (tally_in limits h).bad
  listed = take_ascends limits.shown 1 (length (lines_of h) + 1) _ (all_ascend limits.line 1 (length (lines_of h) + 1) (lines_of h) (omega arith))

  -- the malformed lines that are listed ascend, each has the number of a line, and there are few of them
  pub bad_ascend : Ascend (tally_in limits h).bad
  bad_ascend i d within =
      let bad = (tally_in limits h).bad in
      let next : suc i ≡ i + 1 = omega arith in
      subst (λ n. (get_or bad i d).line < (get_or bad n d).line) next (ascends_at 1 (length (lines_of h) + 1) bad listed i d (omega (arith, within)))

  pub bad_lines : All (IsLine (length (lines_of h))) (tally_in limits h).bad
  bad_lines = All-from_recursion (IsLine (length (lines_of h))) (tally_in limits h).bad (are_lines 1 (length (lines_of h)) (tally_in limits h).bad (omega arith) listed)

  pub bad_few : length (tally_in limits h).bad ≤ limits.shown
  bad_few = omega (arith, length-take limits.shown (flat_map (λ (line : Classed). bad_of line.number line.class) (classed_from limits.line 1 (lines_of h))))
