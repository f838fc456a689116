use Rattle.std.proofs.Common.{◌≡◌, ◌≢◌, ℕ, ◌+◌, ◌<◌, ◌≤◌, ◌%◌, ◌^◌, ◌∙◌, List, true, false, length, get_or, take, map, not, replicate, cond, eqb, sym, subst, ap, arith, w8, w64}
use Rattle.std.proofs.lemmas.Simd.{bitmask_splat, none_from_empty_mask, trailing_mask_l, run_in_chunk_le, run_in_chunk_fails, run_in_chunk_stops, length-chunk}
use Rattle.std.specs.Simd.Lanes.{mask_l, zip2, top}
use Rattle.std.specs.Int.{trailing_zeros}
use Rattle.std.specs.List.{prefix_len}
use Rattle.audit_lex.proofs.near.place_in_thirty_two.Goals as goal

zero_plus : (n : ℕ) → 0 + n ≡ n
zero_plus n = omega arith

module _ (text : List ℕ) (byte : ℕ) (room : 32 ≤ length text) where
  abbrev mask : ℕ
  mask = mask_l (map (top 7) (zip2 (λ a b. cond (eqb a b) 255 0) (take 32 text) (replicate 32 byte))) % 2 ^ 64

  is : mask ≡ mask_l (map (λ x. eqb x byte) (take 32 text))
  is = bitmask_splat w8 eqb (take 32 text) 32 byte (length-chunk 0 32 text room) (omega arith)

  none : mask ≡ 0 → (k : ℕ) → k < 32 → eqb (get_or text k 0) byte ≡ false
  none e k low = none_from_empty_mask (λ x. eqb x byte) text 0 32 0 room (sym is ∙ e) k (omega arith) low

  counted : mask ≢ 0 → trailing_zeros w64 mask ≡ prefix_len (λ x. not (eqb x byte)) (take 32 text)
  counted some = ap (trailing_zeros w64) is ∙ trailing_mask_l (λ x. eqb x byte) 64 (take 32 text) (let l = length-chunk 0 32 text room in omega (arith, l)) (omega (arith, some, is))

  before : mask ≢ 0 → (k : ℕ) → k < trailing_zeros w64 mask → eqb (get_or text k 0) byte ≡ false
  before some k low = run_in_chunk_fails (λ x. eqb x byte) text 0 32 (trailing_zeros w64 mask) 0 room (counted some) k (omega arith) (subst (λ m. k < m) (sym (zero_plus (trailing_zeros w64 mask))) low)

  there : mask ≢ 0 → trailing_zeros w64 mask < 32 → eqb (get_or text (trailing_zeros w64 mask) 0) byte ≡ true
  there some low = subst (λ i. eqb (get_or text i 0) byte ≡ true) (zero_plus (trailing_zeros w64 mask)) (run_in_chunk_stops (λ x. eqb x byte) text 0 32 (trailing_zeros w64 mask) 0 room (counted some) low)

  within : mask ≢ 0 → trailing_zeros w64 mask ≤ 32
  within some = run_in_chunk_le (λ x. eqb x byte) text 0 32 (trailing_zeros w64 mask) 0 room (counted some)

pub returns-then-equal-eq0-clause-before : goal.returns-then-equal-eq0-clause-before
returns-then-equal-eq0-clause-before c = λ k low. none c.args.text.now c.args.byte c.requires c.if-equal-eq0.true k low

pub returns-clause-before : goal.returns-clause-before
returns-clause-before c = λ k low. before c.args.text.now c.args.byte c.requires c.if-equal-eq0.false k low

pub returns-clause-there : goal.returns-clause-there
returns-clause-there c = λ low. there c.args.text.now c.args.byte c.requires c.if-equal-eq0.false low

pub returns-clause-within : goal.returns-clause-within
returns-clause-within c = within c.args.text.now c.args.byte c.requires c.if-equal-eq0.false
