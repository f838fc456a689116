-- The first of sixteen lanes that passes a test.
use Rattle.std.proofs.Common.{◌≡◌, ◌≢◌, ◌∙◌, ℕ, ◌<◌, ◌≤◌, ◌%◌, ◌^◌, ◌&&◌, ◌||◌, List, [], ◌∷◌, zero, suc, Bool, true, false, length, get_or, map, not, cond, sym, refl, ap, arith, w64}
use Rattle.std.specs.Prelude.{bit_and, bit_or}
use Rattle.std.specs.Simd.Lanes.{mask_l, zip2, top}
use Rattle.std.specs.Int.{trailing_zeros}
use Rattle.std.specs.List.{prefix_len}
use Rattle.std.proofs.lemmas.List.Sums.{prefix_len_passes, prefix_len_stops, prefix_len-le-length}
use Rattle.std.proofs.lemmas.Simd.{leading_from_mask_l, trailing_mask_l, mask_l-mod}

-- ---- the first mark

same_marks : (marks : List Bool) → map (λ b. b) marks ≡ marks
same_marks [] = refl
same_marks (mark ∷ marks) = ap (λ t. mark ∷ t) (same_marks marks)

flipped : (a : Bool) → not a ≡ true → a ≡ false
flipped true is = cc
flipped false is = refl

set : (a : Bool) → not a ≡ false → a ≡ true
set true is = refl
set false is = cc

-- how the sixteen marks are tested
pub record AreTested (marks : List Bool) (test : ℕ → Bool) : Type 0 where
  pub size : length marks ≡ 16
  pub each : (k : ℕ) → k < 16 → get_or marks k false ≡ test k

-- the place of the first mark
pub record IsFirstMark (test : ℕ → Bool) (place : ℕ) : Type 0 where
  pub before : (k : ℕ) → k < place → test k ≡ false
  pub there : place < 16 → test place ≡ true
  pub within : place ≤ 16

counted : (marks : List Bool) (test : ℕ → Bool) (place : ℕ) → AreTested marks test → place ≡ prefix_len not marks → IsFirstMark test place
counted marks test place tested is =
    let size = tested.size in
    let within : prefix_len not marks ≤ length marks = prefix_len-le-length not marks in
    record {
      before = λ k below. sym (tested.each k (omega (arith, below, is, within, size))) ∙ flipped _ (prefix_len_passes not marks k false (omega (arith, below, is)));
      there = λ some. sym (tested.each place some) ∙ ap (λ n. get_or marks n false) is ∙ set _ (prefix_len_stops not marks false (omega (arith, some, is, size)));
      within = omega (arith, is, within, size);
    }

-- where no mark is set, sixteen is the place
pub no_mark : (marks : List Bool) (test : ℕ → Bool) → AreTested marks test → mask_l marks % 2 ^ 64 ≡ 0 → IsFirstMark test 16
no_mark marks test tested none =
    let size = tested.size in
    let whole = mask_l-mod marks 64 (omega (arith, size)) in
    let zero : mask_l (map (λ b. b) marks) ≡ 0 = ap mask_l (same_marks marks) ∙ sym whole ∙ none in
    counted marks test 16 tested (sym size ∙ sym (leading_from_mask_l (λ b. b) marks zero))

-- and else the zeros below the lowest
pub some_mark : (marks : List Bool) (test : ℕ → Bool) → AreTested marks test → mask_l marks % 2 ^ 64 ≢ 0 → IsFirstMark test (trailing_zeros w64 (mask_l marks % 2 ^ 64))
some_mark marks test tested some =
    let size = tested.size in
    let whole : mask_l marks % 2 ^ 64 ≡ mask_l (map (λ b. b) marks) = mask_l-mod marks 64 (omega (arith, size)) ∙ sym (ap mask_l (same_marks marks)) in
    counted marks test _ tested (ap (trailing_zeros w64) whole ∙ trailing_mask_l (λ b. b) 64 marks (omega (arith, size)) (omega (arith, some, whole)))

-- ---- what a mark says

-- all bits of a lane are set if it passes
abbrev pub lane : Bool → ℕ
lane passes = cond passes 255 0

either_lane : (p q : Bool) → top 7 (bit_or (lane p) (lane q)) ≡ (p || q)
either_lane true true = refl
either_lane true false = refl
either_lane false true = refl
either_lane false false = refl

start_lane : (p q r : Bool) → top 7 (bit_or (bit_and (lane p) (lane q)) (lane r)) ≡ ((p && q) || r)
start_lane true true true = refl
start_lane true true false = refl
start_lane true false true = refl
start_lane true false false = refl
start_lane false true true = refl
start_lane false true false = refl
start_lane false false true = refl
start_lane false false false = refl

-- the marks of bytes that are one or the other
abbrev pub either_marks : (f g : ℕ → Bool) → List ℕ → List Bool
either_marks f g bytes = map (top 7) (zip2 bit_or (map (λ x. lane (f x)) bytes) (map (λ x. lane (g x)) bytes))

pub length_either : (f g : ℕ → Bool) (bytes : List ℕ) → length (either_marks f g bytes) ≡ length bytes
length_either f g [] = refl
length_either f g (x ∷ bytes) = ap suc (length_either f g bytes)

pub either_at : (f g : ℕ → Bool) (bytes : List ℕ) (k : ℕ) → k < length bytes → get_or (either_marks f g bytes) k false ≡ (f (get_or bytes k 0) || g (get_or bytes k 0))
either_at f g [] k below = absurd (omega (arith, below))
either_at f g (x ∷ bytes) zero below = either_lane (f x) (g x)
either_at f g (x ∷ bytes) (suc k) below = either_at f g bytes k (omega (arith, below))

-- the marks of bytes that pass one test with the bytes behind them passing another, or pass a third
abbrev pub start_marks : (f g h : ℕ → Bool) → List ℕ → List ℕ → List Bool
start_marks f g h bytes behind = map (top 7) (zip2 bit_or (zip2 bit_and (map (λ x. lane (f x)) bytes) (map (λ x. lane (g x)) behind)) (map (λ x. lane (h x)) bytes))

pub length_start : (f g h : ℕ → Bool) (bytes behind : List ℕ) → length bytes ≡ length behind → length (start_marks f g h bytes behind) ≡ length bytes
length_start f g h [] behind is = refl
length_start f g h (x ∷ bytes) [] is = absurd (omega (arith, is))
length_start f g h (x ∷ bytes) (y ∷ behind) is = ap suc (length_start f g h bytes behind (omega (arith, is)))

pub start_at : (f g h : ℕ → Bool) (bytes behind : List ℕ) (k : ℕ) → length bytes ≡ length behind → k < length bytes
    → get_or (start_marks f g h bytes behind) k false ≡ ((f (get_or bytes k 0) && g (get_or behind k 0)) || h (get_or bytes k 0))
start_at f g h [] behind k is below = absurd (omega (arith, below))
start_at f g h (x ∷ bytes) [] k is below = absurd (omega (arith, is))
start_at f g h (x ∷ bytes) (y ∷ behind) zero is below = start_lane (f x) (g y) (h x)
start_at f g h (x ∷ bytes) (y ∷ behind) (suc k) is below = start_at f g h bytes behind k (omega (arith, is)) (omega (arith, below))
